-- "Holdings outside P play no part", and "holdings past the count play no part": where two tables have as many rows, and each row holds the same
-- within P, every definition of Meaning says the same of both. Each is shown from one table to the other; `agree_sym` turns it round.
-- Assumes nothing.
use Rattle.std.specs.Prelude.{◌≡◌, ◌⊎◌, ◌↔◌, ◌&&◌, ◌||◌, List, ℕ, ◌^◌, ◌<◌, min, get_or, eqb, ltb}
use Rattle.std.proofs.Common.{sym, ap, ap₂, ◌∙◌, subst, inl, inr, arith}
use Rattle.std.proofs.Math.Decide.{dec_lt}
use Rattle.std.specs.Int.Count.{ones}
use Rattle.sets.specs.Sets.{bit, Has, digit, bit-and, bit_high, bit_below, ext_all}
use Rattle.sets.specs.Sums.{sum_to, to_n}
use Rattle.sets.specs.Laws.Sums.{sum_ext}
use Rattle.roster.specs.declared.Table.{Table}
use Rattle.roster.specs.Meaning.{held, CrewList, Blocks, Holds, Outweighs, ahead, rank, Earlier, Worth, FirstBlocker}

-- as many rows, and what each row holds within P is the same
pub record Agree (table other : Table) (P : ℕ) : Type 0 where
  pub count : table.rows ≡ other.rows
  pub within : (u : ℕ) → u < table.rows → held table P u ≡ held other P u

-- each agrees with the other
pub agree_sym : (table other : Table) (P : ℕ) → Agree table other P → Agree other table P
agree_sym table other P a = let e = a.count in record { count = sym e; within = λ u l. sym (a.within u (omega arith)) }

-- It is enough that each row has the same permissions of P: what else it holds may differ, and all that stands past the count.
pub agree_of_bits : (table other : Table) (P : ℕ) → table.rows ≡ other.rows
    → ((u p : ℕ) → u < table.rows → Has P p → bit (get_or table.holdings u 0) p ≡ bit (get_or other.holdings u 0) p)
    → Agree table other P
agree_of_bits table other P e h = record {
  count = e;
  within = λ u l. ext_all (held table P u) (held other P u) (λ p.
      bit-and (get_or table.holdings u 0) P p ∙ go u p l (digit P p) ∙ sym (bit-and (get_or other.holdings u 0) P p));
}
  where
    go : (u p : ℕ) → u < table.rows → (bit P p ≡ 0) ⊎ (bit P p ≡ 1)
        → min (bit (get_or table.holdings u 0) p) (bit P p) ≡ min (bit (get_or other.holdings u 0) p) (bit P p)
    go u p l (inl z) = omega arith
    go u p l (inr i) = omega (arith, h u p l i)

-- a set of rows of the one is one of the other
wide : (table other : Table) (P A : ℕ) → Agree table other P → A < 2 ^ table.rows → A < 2 ^ other.rows
wide table other P A a h = subst (λ (n : ℕ). A < 2 ^ n) a.count h

-- ---- crews and blockers

crew-list_to : (table other : Table) (P d t ed A : ℕ) (crews : List ℕ) → Agree table other P → CrewList table P d t ed A crews → CrewList other P d t ed A crews
crew-list_to table other P d t ed A crews a k = record {
  many = k.many;
  rows = λ j l. wide table other P (get_or crews j 0) a (k.rows j l);
  disjoint = k.disjoint;
  present = k.present;
  small = k.small;
  whole = λ j l p hp. holds j l p (k.whole j l p hp);
  enough = k.enough;
}
  where
    holds : (j : ℕ) → j < d → (p : ℕ) → (u : ℕ) × Has (get_or crews j 0) u × Has (held table P u) p
        → (u : ℕ) × Has (get_or crews j 0) u × Has (held other P u) p
    holds j l p (u, hu, hp) =
        let below : u < table.rows = bit_below (get_or crews j 0) table.rows u (k.rows j l) hu in
        (u, hu, ap (λ (m : ℕ). bit m p) (sym (a.within u below)) ∙ hp)

-- the same lists are crew lists of both
pub same_crew-list : (table other : Table) (P d t ed A : ℕ) (crews : List ℕ) → Agree table other P
    → CrewList table P d t ed A crews ↔ CrewList other P d t ed A crews
same_crew-list table other P d t ed A crews a =
    (crew-list_to table other P d t ed A crews a, crew-list_to other table P d t ed A crews (agree_sym table other P a))

-- the same absences block
pub same_blocks : (table other : Table) (P d t ed A : ℕ) → Agree table other P → Blocks table P d t ed A ↔ Blocks other P d t ed A
same_blocks table other P d t ed A a = (
  λ b crews k. b crews ((same_crew-list table other P d t ed A crews a).1 k),
  λ b crews k. b crews ((same_crew-list table other P d t ed A crews a).0 k),
)

holds_to : (table other : Table) (P s d t ed : ℕ) → Agree table other P → Holds table P s d t ed → Holds other P s d t ed
holds_to table other P s d t ed a h A b k =
    h A (record { rows = wide other table P A (agree_sym table other P a) b.rows; few = b.few }) ((same_blocks table other P d t ed A a).1 k)

-- the same policies hold
pub same_holds : (table other : Table) (P s d t ed : ℕ) → Agree table other P → Holds table P s d t ed ↔ Holds other P s d t ed
same_holds table other P s d t ed a = (holds_to table other P s d t ed a, holds_to other table P s d t ed (agree_sym table other P a))

-- ---- standing

outweighs_to : (table other : Table) (P u v : ℕ) → Agree table other P → u < table.rows → v < table.rows
    → Outweighs table P u v → Outweighs other P u v
outweighs_to table other P u v a lu lv o = rw (a.within u lu, a.within v lv) at o

-- a row of the table outweighs the same rows of it
pub same_outweighs : (table other : Table) (P u v : ℕ) → Agree table other P → u < table.rows → v < table.rows
    → Outweighs table P u v ↔ Outweighs other P u v
same_outweighs table other P u v a lu lv =
    let e = a.count in
    (outweighs_to table other P u v a lu lv, outweighs_to other table P u v (agree_sym table other P a) (omega arith) (omega arith))

same_ahead : (table other : Table) (P u v : ℕ) → Agree table other P → u < table.rows → v < table.rows → ahead table P u v ≡ ahead other P u v
unfolding ahead
same_ahead table other P u v a lu lv =
    ap₂ (λ (x y : ℕ). ltb (ones y) (ones x) || (eqb (ones x) (ones y) && ltb u v)) (a.within u lu) (a.within v lv)

-- a row of the table has the same rank
pub same_rank : (table other : Table) (P v : ℕ) → Agree table other P → v < table.rows → rank table P v ≡ rank other P v
unfolding rank
same_rank table other P v a l =
    sum_ext table.rows (λ u. to_n (ahead table P u v)) (λ u. to_n (ahead other P u v)) (λ u lu. ap to_n (same_ahead table other P u v a lu l))
    ∙ ap (λ (n : ℕ). sum_to n (λ u. to_n (ahead other P u v))) a.count

-- ---- the order of absences

earlier_to : (table other : Table) (P A B : ℕ) → Agree table other P → A < 2 ^ table.rows → B < 2 ^ table.rows
    → Earlier table P A B → Earlier other P A B
earlier_to table other P A B a hA hB (inl l) = inl l
earlier_to table other P A B a hA hB (inr (e, (x, p, q, f))) = inr (e, (x, p, q, λ y k. go y k (dec_lt y table.rows)))
  where
    go : (y : ℕ) → rank other P y < rank other P x → Dec (y < table.rows) → bit A y ≡ bit B y
    go y k (yes l) =
        f y (omega (arith, same_rank table other P y a l, same_rank table other P x a (bit_below A table.rows x hA p)))
    go y k (no n) = bit_high A table.rows y hA (omega arith) ∙ sym (bit_high B table.rows y hB (omega arith))

-- the sets of rows come in the same order
pub same_earlier : (table other : Table) (P A B : ℕ) → Agree table other P → A < 2 ^ table.rows → B < 2 ^ table.rows
    → Earlier table P A B ↔ Earlier other P A B
same_earlier table other P A B a hA hB = (
  earlier_to table other P A B a hA hB,
  earlier_to other table P A B (agree_sym table other P a) (wide table other P A a hA) (wide table other P B a hB),
)

worth_to : (table other : Table) (P A : ℕ) → Agree table other P → A < 2 ^ table.rows → Worth table P A → Worth other P A
worth_to table other P A a hA w u v lu hv o =
    let e = a.count in
    let below : u < table.rows = omega arith in
    w u v below hv ((same_outweighs table other P u v a below (bit_below A table.rows v hA hv)).1 o)

-- the same sets of rows are worth trying
pub same_worth : (table other : Table) (P A : ℕ) → Agree table other P → A < 2 ^ table.rows → Worth table P A ↔ Worth other P A
same_worth table other P A a hA =
    (worth_to table other P A a hA, worth_to other table P A (agree_sym table other P a) (wide table other P A a hA))

first_to : (table other : Table) (P s d t ed A : ℕ) → Agree table other P → FirstBlocker table P s d t ed A → FirstBlocker other P s d t ed A
first_to table other P s d t ed A a f = record {
  rows = wide table other P A a f.rows;
  is = (f.is.0, (same_blocks table other P d t ed A a).0 f.is.1);
  first = λ B hB q e.
      let h : B < 2 ^ table.rows = wide other table P B (agree_sym table other P a) hB in
      f.first B h (q.0, (same_blocks table other P d t ed B a).1 q.1) ((same_earlier table other P B A a h f.rows).1 e);
}

-- and the first blocker is the same
pub same_first_blocker : (table other : Table) (P s d t ed A : ℕ) → Agree table other P → FirstBlocker table P s d t ed A ↔ FirstBlocker other P s d t ed A
same_first_blocker table other P s d t ed A a = (first_to table other P s d t ed A a, first_to other table P s d t ed A (agree_sym table other P a))
