-- What the limits of a policy mean at their ends: a crew of 64 is no limit; "at most s" and "exactly s" rows absent part only where s exceeds the
-- number of rows. The idea of the second: a set with more rows than one that blocks blocks too, and a set of rows can be made larger as long as
-- it lacks one. Assumes nothing.
use Rattle.std.specs.Prelude.{◌≡◌, ◌≢◌, ◌↔◌, List, ℕ, zero, suc, ◌+◌, ◌-◌, ◌^◌, ◌≤◌, ◌<◌, length, get_or}
use Rattle.std.proofs.Common.{arith, pow_pos}
use Rattle.std.proofs.Math.Pow.{ones_lt}
use Rattle.std.specs.Int.Count.{ones, ones-ones}
use Rattle.std.proofs.lemmas.Nat.{ones-le}
use Rattle.sets.specs.Sets.{Has, Sub, Apart, bit_below, bit-full, with, bit-or}
use Rattle.sets.proofs.Sets.{fresh, with_lt, ones-with}
use Rattle.roster.specs.declared.Table.{Table}
use Rattle.roster.specs.Limits.{row_limit, size_limit}
use Rattle.roster.specs.Meaning.{Covers, least_members, CrewList, Blocks, Holds}

-- ---- t = 64

-- a crew list with no limit on a crew: `CrewList` without `small`
pub record CrewListAnySize (table : Table) (P d ed A : ℕ) (crews : List ℕ) : Type 0 where
  pub many : length crews ≡ d
  pub rows : (j : ℕ) → j < d → get_or crews j 0 < 2 ^ table.rows
  pub disjoint : (i j : ℕ) → i < d → j < d → i ≢ j → Apart (get_or crews i 0) (get_or crews j 0)
  pub present : (j : ℕ) → j < d → Apart (get_or crews j 0) A
  pub whole : (j : ℕ) → j < d → Covers table P (get_or crews j 0)
  pub enough : (j : ℕ) → j < d → least_members ed ≤ ones (get_or crews j 0)

module _ (table : Table) (P d ed A : ℕ) (crews : List ℕ) where
  -- a limit only takes lists away
  pub any_size : (t : ℕ) → CrewList table P d t ed A crews → CrewListAnySize table P d ed A crews
  any_size t k = record { many = k.many; rows = k.rows; disjoint = k.disjoint; present = k.present; whole = k.whole; enough = k.enough }

  -- "64 means no limit on a crew, exactly, since no table has more rows"
  pub size_64_no_limit : table.rows ≤ row_limit → CrewList table P d size_limit ed A crews ↔ CrewListAnySize table P d ed A crews
  size_64_no_limit h = (any_size size_limit, from)
    where
      from : CrewListAnySize table P d ed A crews → CrewList table P d size_limit ed A crews
      from k = record {
        many = k.many;
        rows = k.rows;
        disjoint = k.disjoint;
        present = k.present;
        small = λ j l. omega (arith, ones-le table.rows (get_or crews j 0) (k.rows j l));
        whole = k.whole;
        enough = k.enough;
      }

-- ---- more rows absent

-- a set that has all of a blocking absence blocks
pub blocks_more : (table : Table) (P d t ed A B : ℕ) → Sub A B → Blocks table P d t ed A → Blocks table P d t ed B
blocks_more table P d t ed A B sub b crews k =
    b crews (record {
      many = k.many;
      rows = k.rows;
      disjoint = k.disjoint;
      present = λ j l i. omega (arith, k.present j l i, sub i);
      small = k.small;
      whole = k.whole;
      enough = k.enough;
    })

-- a set of numbers below n grows to any size up to n
grow : (n k A : ℕ) → A < 2 ^ n → k + ones A ≤ n → (B : ℕ) × (B < 2 ^ n) × Sub A B × (ones B ≡ k + ones A)
grow n zero A h l = (A, h, λ i. omega arith, omega arith)
grow n (suc k) A h l =
    let new = fresh A (2 ^ n - 1) (omega (arith, ones-ones n)) in
    let below : new.0 < n = bit_below (2 ^ n - 1) n new.0 (ones_lt n) new.1 in
    let more = ones-with A new.0 new.2 in
    let rest = grow n k (with A new.0) (with_lt n A new.0 h below) (omega arith) in
    (rest.0, rest.1, λ i. omega (arith, rest.2 i, bit-or A (2 ^ new.0) i), omega (arith, rest.3))

-- ---- "at most s" and "exactly s"

-- Document 001 removes "any set of s users": no A of exactly s rows blocks.
abbrev pub HoldsExactly : Table → ℕ → ℕ → ℕ → ℕ → ℕ → Type 0
HoldsExactly table P s d t ed = (A : ℕ) → A < 2 ^ table.rows → ones A ≡ s → Blocks table P d t ed A → ⊥

module _ (table : Table) (P s d t ed : ℕ) where
  -- up to the number of rows the two readings are one
  pub exactly_at_most : s ≤ table.rows → HoldsExactly table P s d t ed ↔ Holds table P s d t ed
  exactly_at_most le = (to, λ h A hA e b. h A (record { rows = hA; few = omega arith }) b)
    where
      to : HoldsExactly table P s d t ed → Holds table P s d t ed
      to h A a b =
          let few = a.few in
          let g = grow table.rows (s - ones A) A a.rows (omega arith) in
          h g.0 g.1 (omega (arith, g.3)) (blocks_more table P d t ed A g.0 g.2 b)

  -- beyond it there is no set of s rows, and "exactly s" asks nothing
  pub exactly_beyond : table.rows < s → HoldsExactly table P s d t ed
  exactly_beyond l A hA e b = omega (arith, ones-le table.rows A hA)

-- with everyone absent nobody is left to hold anything
pub everyone_blocks : (table : Table) (P d t ed p : ℕ) → 1 ≤ d → Has P p → Blocks table P d t ed (2 ^ table.rows - 1)
everyone_blocks table P d t ed p l hp crews k =
    let r = k.whole 0 (omega arith) p hp in
    let below : r.0 < table.rows = bit_below (get_or crews 0 0) table.rows r.0 (k.rows 0 (omega arith)) r.1 in
    omega (arith, k.present 0 (omega arith) r.0, r.1, bit-full table.rows r.0 below)

-- so "at most s" is never met beyond the number of rows, nor at it: there the two readings do part
pub at_most_beyond : (table : Table) (P s d t ed p : ℕ) → 1 ≤ d → Has P p → table.rows ≤ s → Holds table P s d t ed → ⊥
at_most_beyond table P s d t ed p l hp le h =
    h (2 ^ table.rows - 1) (record { rows = omega (arith, pow_pos table.rows); few = omega (arith, ones-ones table.rows) })
    (everyone_blocks table P d t ed p l hp)
