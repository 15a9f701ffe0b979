-- Membership as a test: `hasb m i` says whether i is a member; and the test whether a set has a member at or past a place. Assumes nothing.
use Rattle.std.specs.Prelude.{◌≡◌, true, false, not, ℕ, ◌/◌, ◌^◌, ◌≤◌, ◌<◌, eqb, leb}
use Rattle.std.proofs.Common.{sym, ap, ◌∙◌, lt_of_not-le, arith, eqb-true, eq-eqb, ne_eqb, le-leb, ⊎_elim}
use Rattle.std.proofs.Math.Nat.{div-eq_of_lt}
use Rattle.std.proofs.Math.Decide.{dec_le}
use Rattle.std.proofs.lemmas.Bool.{eqb-false, lt-leb}
use Rattle.sets.specs.Mask.{bit, Has}
use Rattle.sets.specs.Laws.Digits.{bit_le, bit_high, digit, shifted_out}
use Rattle.sets.specs.Sums.{to_n}
use Rattle.sets.specs.Members.{hasb}
use Rattle.sets.specs.Laws.Sums.{to_n-true, to_n-false}

pub hasb-true : (m i : ℕ) → hasb m i ≡ true → Has m i
unfolding hasb
hasb-true m i e = eqb-true (bit m i) 1 e

pub hasb-false : (m i : ℕ) → hasb m i ≡ false → bit m i ≡ 0
unfolding hasb
hasb-false m i e = let n = eqb-false (bit m i) 1 e in omega (arith, bit_le m i)

pub has_hasb : (m i : ℕ) → Has m i → hasb m i ≡ true
unfolding hasb
has_hasb m i e = eq-eqb (bit m i) 1 e

pub out_hasb : (m i : ℕ) → bit m i ≡ 0 → hasb m i ≡ false
unfolding hasb
out_hasb m i e = ne_eqb (bit m i) 1 (λ f. omega arith)

-- no number at or past the width of m
pub high_hasb : (m k i : ℕ) → m < 2 ^ k → k ≤ i → hasb m i ≡ false
high_hasb m k i h l = out_hasb m i (bit_high m k i h l)

pub to_n-hasb : (m i : ℕ) → to_n (hasb m i) ≡ bit m i
to_n-hasb m i =
    ⊎_elim
    (λ z. to_n-false (hasb m i) (out_hasb m i z) ∙ sym z)
    (λ o. to_n-true (hasb m i) (has_hasb m i o) ∙ sym o)
    (digit m i)

-- the test is that of the digit
pub hasb_ext : (a b i j : ℕ) → bit a i ≡ bit b j → hasb a i ≡ hasb b j
unfolding hasb
hasb_ext a b i j e = ap (λ (x : ℕ). eqb x 1) e

-- what `m >> k != 0` gives: nothing is left of a shift by k exactly where the set is below 2 ^ k
pub shifted : (k m : ℕ) → not (eqb (m / 2 ^ k) 0) ≡ leb (2 ^ k) m
shifted k m = go (dec_le (2 ^ k) m)
  where
    go : Dec (2 ^ k ≤ m) → not (eqb (m / 2 ^ k) 0) ≡ leb (2 ^ k) m
    go (yes l) = simp (ne_eqb (m / 2 ^ k) 0 (λ e. omega (arith, shifted_out k m e)), le-leb _ _ l)
    go (no n) =
        let l : m < 2 ^ k = lt_of_not-le n in
        simp (eq-eqb _ _ (div-eq_of_lt l), lt-leb _ _ l)
