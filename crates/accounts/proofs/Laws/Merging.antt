-- Merging row by row: after k rows there are the persons of those rows, with their numbers and with what these rows give them. Assumes nothing.
use Rattle.std.specs.Prelude.{◌≡◌, ◌≢◌, Bool, true, false, ◌⊎◌, List, [], ◌∷◌, ℕ, zero, suc, ◌+◌, ◌≤◌, ◌<◌, eqb, length, set, take, replicate, cond, Some, None, unwrap_or, position, nat_lt}
use Rattle.std.specs.List.{position_or_len}
use Rattle.std.proofs.Common.{refl, inl, inr, sym, ap, ap₂, ◌∙◌, add-one, arith, lt-ltb, le-ltb, length-take-le, length-set, get_or-set_same, get_or-set_other}
use Rattle.std.proofs.Math.Decide.{dec_lt, ℕ_discrete}
use Rattle.std.specs.Int.Bits.{bit_or}
use Rattle.sets.specs.Arrays.{tabulate, at}
use Rattle.sets.specs.Laws.Sums.{either}
use Rattle.sets.specs.Laws.Arrays.{passed_none, tabulated}
use Rattle.accounts.specs.declared.Accounts.{Accounts}
use Rattle.accounts.specs.declared.People.{People}
use Rattle.accounts.specs.Persons.{first, count_of, person_of, held_by, number_of, rows_of, holds, number, people_of}
use Rattle.accounts.specs.Laws.First.{first_le, first_ext}
use Rattle.accounts.proofs.Laws.Numbering.{count_none, count_more, count_same, person-at_most, person-new, person_known}
use Rattle.accounts.proofs.Laws.Holdings.{held_none, held_more, held_other}
use Rattle.accounts.proofs.Laws.Numbers.{number_past, number_is, number_kept, looked_up}

-- what `position` finds among the first n is the first that passes, and where it finds nothing the first is n
or_len : (test : ℕ → Bool) (n : ℕ) (l : List ℕ) → n ≤ length l → position_or_len test (take n l) ≡ first (λ i. test (at l i)) n
unfolding first
or_len test zero l h = refl
or_len test (suc n) [] h = absurd (omega arith)
or_len test (suc n) (x ∷ l) h = go (either (test x)) (or_len test n l (omega arith))
  where
    go : (test x ≡ true) ⊎ (test x ≡ false) → position_or_len test (take n l) ≡ first (λ i. test (at l i)) n
        → position_or_len test (take (suc n) (x ∷ l)) ≡ first (λ i. test (at (x ∷ l) i)) (suc n)
    go (inl y) ih = rw (y, first)
    go (inr z) ih = rw (z, first) (omega (arith, ih))

found : (k n : ℕ) → k ≤ n → unwrap_or (cond (nat_lt k n) (Some k) None) n ≡ k
found k n h = go (dec_lt k n)
  where
    go : Dec (k < n) → unwrap_or (cond (nat_lt k n) (Some k) None) n ≡ k
    go (yes b) = let t : nat_lt k n ≡ true = lt-ltb k n b in rw t
    go (no c) = let t : nat_lt k n ≡ false = le-ltb k n (omega arith) in rw t (omega arith)

position_first : (test : ℕ → Bool) (n : ℕ) (l : List ℕ) → n ≤ length l
    → unwrap_or (position test (take n l)) n ≡ first (λ i. test (at l i)) n
position_first test n l h =
    rw (length-take-le n l h, or_len test n l h)
    (found (first (λ i. test (at l i)) n) n (first_le (λ i. test (at l i)) n))

-- the arrays and the count after k rows with the numbers f and the holdings h
pub record Merging (f h : ℕ → ℕ) (k : ℕ) (held numbers : List ℕ) (count : ℕ) : Type 0 where
  pub within : k ≤ 64
  pub few : count ≤ k
  pub counted : count ≡ count_of f k
  pub long_held : length held ≡ 64
  pub long_numbers : length numbers ≡ 64
  pub held_at : (i : ℕ) → at held i ≡ held_by f h k i
  pub numbers_at : (i : ℕ) → at numbers i ≡ number_of f k i

pub merging_none : (f h : ℕ → ℕ) → Merging f h 0 (replicate 64 0) (replicate 64 0) 0
merging_none f h = record {
  within = omega arith;
  few = omega arith;
  counted = sym (count_none f);
  long_held = (passed_none 0 64 f).long;
  long_numbers = (passed_none 0 64 f).long;
  held_at = λ i. (passed_none 0 64 f).ahead i (omega arith) ∙ sym (held_none f h i);
  numbers_at = λ i. (passed_none 0 64 f).ahead i (omega arith) ∙ sym (number_past f 0 i (omega (arith, count_none f)));
}

module _ (f h : ℕ → ℕ) (k : ℕ) (held numbers : List ℕ) (count : ℕ) (m : Merging f h k held numbers count) where
  -- the place that the row's number is looked up at is its person
  pub merging_place : (place : ℕ) → place ≡ first (λ i. eqb (at numbers i) (f k)) count → place ≡ person_of f k
  merging_place place e =
      e
      ∙ first_ext (λ i. eqb (at numbers i) (f k)) (λ i. eqb (number_of f k i) (f k)) count (λ i l. ap (λ (x : ℕ). eqb x (f k)) (m.numbers_at i))
      ∙ ap (first (λ i. eqb (number_of f k i) (f k))) m.counted
      ∙ looked_up f k

  -- and that is where `position` finds it, or the count where it finds nothing
  pub position_place : (place : ℕ) → place ≡ unwrap_or (position (λ x. eqb x (f k)) (take count numbers)) count → place ≡ person_of f k
  position_place place e =
      merging_place place (e ∙ position_first (λ x. eqb x (f k)) count numbers (omega (arith, m.few, m.within, m.long_numbers)))

  module _ (place : ℕ) (is : place ≡ person_of f k) (more : k < 64) where
    pub place_below : place < 64
    place_below = omega (arith, person-at_most f k, m.counted, m.few)

    -- his holdings with the row's
    joined : (i : ℕ) → at (set held place (bit_or (at held place) (h k))) i ≡ held_by f h (k + 1) i
    joined i = rw add-one (go (ℕ_discrete i place))
      where
        go : Dec (i ≡ place) → at (set held place (bit_or (at held place) (h k))) i ≡ held_by f h (suc k) i
        go (yes e) =
            ap (at (set held place (bit_or (at held place) (h k)))) e
            ∙ get_or-set_same held place (bit_or (at held place) (h k)) 0 (omega (arith, m.long_held, place_below))
            ∙ ap (λ (x : ℕ). bit_or x (h k)) (m.held_at place)
            ∙ sym (held_more f h k place (sym is))
            ∙ ap (held_by f h (suc k)) (sym e)
        go (no c) =
            get_or-set_other held place i (bit_or (at held place) (h k)) 0 c
            ∙ m.held_at i
            ∙ sym (held_other f h k i (λ e. c (sym e ∙ sym is)))

    -- the first row of a new person
    pub merging_new : place ≡ count → Merging f h (k + 1) (set held place (bit_or (at held place) (h k))) (set numbers place (f k)) (count + 1)
    merging_new e =
        record {
          within = omega arith;
          few = omega (arith, m.few);
          counted = rw (add-one k) (omega (arith, grown, m.counted));
          long_held = length-set held place _ ∙ m.long_held;
          long_numbers = length-set numbers place _ ∙ m.long_numbers;
          held_at = joined;
          numbers_at = λ i. rw (add-one k) (go i (ℕ_discrete i place) (dec_lt i place));
        }
      where
        grown : count_of f (suc k) ≡ suc (count_of f k)
        grown = count_more f k (person-new f k (sym is ∙ e ∙ m.counted))

        go : (i : ℕ) → Dec (i ≡ place) → Dec (i < place) → at (set numbers place (f k)) i ≡ number_of f (suc k) i
        go i (yes q) l =
            ap (at (set numbers place (f k))) q
            ∙ get_or-set_same numbers place (f k) 0 (omega (arith, m.long_numbers, place_below))
            ∙ sym (ap (number_of f (suc k)) (q ∙ is) ∙ number_is f (suc k) k (omega arith))
        go i (no c) (yes l) =
            get_or-set_other numbers place i (f k) 0 c ∙ m.numbers_at i ∙ sym (number_kept f k i (omega (arith, m.counted)))
        go i (no c) (no l) =
            get_or-set_other numbers place i (f k) 0 c
            ∙ m.numbers_at i
            ∙ number_past f k i (omega (arith, m.counted))
            ∙ sym (number_past f (suc k) i (omega (arith, grown, m.counted)))

    -- one more row of a person who has rows already
    pub merging_known : place ≢ count → Merging f h (k + 1) (set held place (bit_or (at held place) (h k))) numbers count
    merging_known c =
        record {
          within = omega arith;
          few = omega (arith, m.few);
          counted = rw (add-one k) (m.counted ∙ sym kept);
          long_held = length-set held place _ ∙ m.long_held;
          long_numbers = m.long_numbers;
          held_at = joined;
          numbers_at = λ i. rw (add-one k) (go i (dec_lt i count));
        }
      where
        kept : count_of f (suc k) ≡ count_of f k
        kept = count_same f k (person_known f k (λ e. c (is ∙ e ∙ sym m.counted)))

        go : (i : ℕ) → Dec (i < count) → at numbers i ≡ number_of f (suc k) i
        go i (yes l) = m.numbers_at i ∙ sym (number_kept f k i (omega (arith, m.counted)))
        go i (no l) = m.numbers_at i ∙ number_past f k i (omega (arith, m.counted)) ∙ sym (number_past f (suc k) i (omega (arith, kept, m.counted)))

-- when all rows are passed, these are the persons
pub merged_all : (a : Accounts) (held numbers : List ℕ) (count k : ℕ) → k ≡ rows_of a → Merging (at a.persons) (at a.holdings) k held numbers count
    → ◌≡◌ {A = People} (record { table = record { holdings = held; rows = count }; numbers = numbers }) (people_of a)
merged_all a held numbers count k e m =
    ap₂ {C = People} (λ (x y : List ℕ). record { table = record { holdings = x; rows = count }; numbers = y })
    (tabulated 0 64 (holds a) held m.long_held (λ i l. m.held_at i ∙ ap (λ (n : ℕ). held_by (at a.persons) (at a.holdings) n i) e))
    (tabulated 0 64 (number a) numbers m.long_numbers (λ i l. m.numbers_at i ∙ ap (λ (n : ℕ). number_of (at a.persons) n i) e))
    ∙ ap {B = People} (λ (n : ℕ). record { table = record { holdings = tabulate 64 (holds a); rows = n }; numbers = tabulate 64 (number a) })
    (m.counted ∙ ap (count_of (at a.persons)) e)
