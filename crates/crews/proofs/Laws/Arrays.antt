-- The arrays that are lent say what the definition's functions say. Assumes nothing.
use Rattle.std.specs.Prelude.{◌≡◌, Bool, ◌≢◌, ℕ, ◌^◌, ◌≤◌, ◌<◌, get_or}
use Rattle.std.proofs.Common.{sym, ap, ap₂, ◌∙◌, arith, pow_pos, le-leb}
use Rattle.std.proofs.Math.Decide.{dec_lt}
use Rattle.std.specs.Int.Bits.{bit_and}
use Rattle.std.proofs.lemmas.Nat.{and_le_r}
use Rattle.std.proofs.lemmas.Bool.{lt-leb}
use Rattle.sets.specs.Sets.{ext, bit-none}
use Rattle.sets.specs.Members.{hasb, set_of}
use Rattle.sets.specs.Laws.Sums.{to_n-false}
use Rattle.sets.specs.Laws.Tests.{high_hasb}
use Rattle.sets.proofs.Laws.Build.{set_of_lt, set_of-bit}
use Rattle.roster.specs.declared.Table.{Table}
use Rattle.roster.specs.Meaning.{least_members}
use Rattle.crews.specs.Filling.{Work, orderly, holds_of, holders_of, work_of, present, filling}
use Rattle.sets.specs.Arrays.{tabulate, at}
use Rattle.crews.specs.Filled.{found_from}
use Rattle.sets.specs.Laws.Arrays.{at_whole}
use Rattle.crews.proofs.Laws.Steps.{found_few}

-- ---- holdings and holders

pub holds_row : (table : Table) (P u : ℕ) → u < table.rows → holds_of table P u ≡ bit_and (get_or table.holdings u 0) P
holds_row table P u l = rw (lt-leb _ _ l, holds_of)

pub holds-past : (table : Table) (P u : ℕ) → table.rows ≤ u → holds_of table P u ≡ 0
holds-past table P u l = rw (le-leb _ _ l, holds_of)

pub holds_lt : (table : Table) (P u : ℕ) → P < 2 ^ 32 → holds_of table P u < 2 ^ 32
holds_lt table P u h = go (dec_lt u table.rows)
  where
    go : Dec (u < table.rows) → holds_of table P u < 2 ^ 32
    go (yes l) = omega (arith, holds_row table P u l, and_le_r (get_or table.holdings u 0) P)
    go (no n) = omega (arith, holds-past table P u (omega arith))

-- nobody holds a permission past the last
pub holders_past : (holds : ℕ → ℕ) → ((u : ℕ) → holds u < 2 ^ 32) → (p : ℕ) → 32 ≤ p → holders_of holds p ≡ 0
holders_past holds h p l =
    let test : ℕ → Bool = λ u. hasb (holds u) p in
    ext 64 (set_of 64 test) 0 (set_of_lt 64 test) (pow_pos 64)
    (λ i k. set_of-bit 64 test i k ∙ to_n-false (test i) (high_hasb (holds i) 32 p (h i) l) ∙ sym (bit-none i))

-- what the arrays of `holdings_within` and `holders_of` say
pub lent_holds : (table : Table) (P : ℕ) → table.rows ≤ 64 → at (tabulate 64 (holds_of table P)) ≡ holds_of table P
lent_holds table P h = at_whole 64 (holds_of table P) (λ u l. holds-past table P u (omega arith))

pub lent_holders : (holds : ℕ → ℕ) → ((u : ℕ) → holds u < 2 ^ 32) → at (tabulate 32 (holders_of holds)) ≡ holders_of holds
lent_holders holds h = at_whole 32 (holders_of holds) (holders_past holds h)

-- the work over the lent arrays is the work over the table
pub lent_work : (table : Table) (P d t ed : ℕ) → table.rows ≤ 64 → P < 2 ^ 32
    → orderly (at (tabulate 64 (holds_of table P))) (at (tabulate 32 (holders_of (at (tabulate 64 (holds_of table P)))))) P d t (least_members ed)
    ≡ work_of table P d t ed
lent_work table P d t ed hr hP =
    let e = lent_holds table P hr in
    ap₂ (λ (holds holders : ℕ → ℕ). orderly holds holders P d t (least_members ed)) e
    (ap (λ (holds : ℕ → ℕ). at (tabulate 32 (holders_of holds))) e ∙ lent_holders (holds_of table P) (λ u. holds_lt table P u hP))

-- and so is the filling from the rows that are not absent
pub lent_filling : (table : Table) (P d t ed A : ℕ) → table.rows ≤ 64 → P ≢ 0 → P < 2 ^ 32 → d ≤ 8
    → found_from
    (orderly (at (tabulate 64 (holds_of table P))) (at (tabulate 32 (holders_of (at (tabulate 64 (holds_of table P)))))) P d t (least_members ed)) (present table A)
    ≡ filling table P d t ed A
lent_filling table P d t ed A hr hn hP hd =
    ap (λ (w : Work). found_from w (present table A)) (lent_work table P d t ed hr hP) ∙ found_few (work_of table P d t ed) (present table A) hn hd
