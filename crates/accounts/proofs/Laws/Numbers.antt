-- The person number of each person: it is that of each of his rows, and 0 past the last. Assumes nothing.
use Rattle.std.specs.Prelude.{◌≡◌, refl, true, false}
use Rattle.std.proofs.Common.{sym, ◌∙◌, arith, eqb-true, eq-eqb, ne_eqb, lt-ltb, le-ltb}
use Rattle.std.proofs.Math.Path.{ap}
use Rattle.std.proofs.Math.Bool.{Bool}
use Prim.Native.Nat.{ℕ, suc, ◌≤◌, ◌<◌}
use Rattle.std.proofs.Math.Dec.{eqb}
use Rattle.accounts.specs.Persons.{first, where?, count_of, person_of, number_of}
use Rattle.accounts.specs.Laws.First.{first_has, first_is, first_some_lem}
use Rattle.accounts.proofs.Laws.Numbering.{same_person, person-below, person_some, person-at_most}

module _ (f : ℕ → ℕ) where
  -- past the last person
  pub number_past : (n i : ℕ) → count_of f n ≤ i → number_of f n i ≡ 0
  unfolding number_of
  number_past n i l = ap (λ (b : Bool). where? b (f (first (λ u. eqb (person_of f u) i) n))) (le-ltb i (count_of f n) l)

  -- the number of row u's person is row u's number
  pub number_is : (n u : ℕ) → u < n → number_of f n (person_of f u) ≡ f u
  unfolding number_of
  number_is n u l =
      let test : ℕ → Bool = λ v. eqb (person_of f v) (person_of f u) in
      let row : ℕ = first test n in
      let k : row < n = first_some_lem test n u l (eq-eqb (person_of f u) (person_of f u) refl) in
      ap (λ (b : Bool). where? b (f row)) (lt-ltb (person_of f u) (count_of f n) (person-below f n u l))
      ∙ (same_person f row u).0 (eqb-true (person_of f row) (person_of f u) (first_has test n k))

  -- each person below the count has one
  pub number_some : (n i : ℕ) → i < count_of f n → (u : ℕ) × (u < n) × (person_of f u ≡ i) × (number_of f n i ≡ f u)
  number_some n i l =
      let q = person_some f n i l in
      (q.0, q.1, q.3, ap (number_of f n) (sym q.3) ∙ number_is n q.0 q.1)

  -- and keeps it as rows are added
  pub number_kept : (n i : ℕ) → i < count_of f n → number_of f (suc n) i ≡ number_of f n i
  number_kept n i l =
      let q = number_some n i l in
      ap (number_of f (suc n)) (sym q.2) ∙ number_is (suc n) q.0 (omega (arith, q.1)) ∙ sym q.3

  -- the next row's number, looked up among those of the persons so far, gives its person; no place, where he is new
  pub looked_up : (k : ℕ) → first (λ i. eqb (number_of f k i) (f k)) (count_of f k) ≡ person_of f k
  looked_up k = first_is (λ i. eqb (number_of f k i) (f k)) (count_of f k) (person_of f k) (person-at_most f k) none here
    where
      none : (i : ℕ) → i < person_of f k → eqb (number_of f k i) (f k) ≡ false
      none i l =
          let q = number_some k i (omega (arith, person-at_most f k)) in
          ne_eqb (number_of f k i) (f k) (λ e. omega (arith, q.2, (same_person f q.0 k).1 (sym q.3 ∙ e)))

      here : person_of f k < count_of f k → eqb (number_of f k (person_of f k)) (f k) ≡ true
      here l = let q = number_some k (person_of f k) l in eq-eqb _ _ (q.3 ∙ (same_person f q.0 k).0 q.2)
