-- `set_of n test`, the set of the numbers below n that pass the test, as a loop builds it: by `|` of `1 << i`. Assumes nothing.
use Rattle.std.specs.Prelude.{◌≡◌, refl, Bool, true, false, ◌⊎◌, ℕ, zero, suc, ◌+◌, ◌*◌, ◌%◌, ◌^◌, ◌≤◌, ◌<◌}
use Rattle.std.proofs.Common.{sym, ap, ◌∙◌, inl, inr, ⊎_elim, one-mul, add-one, arith}
use Rattle.std.proofs.Math.Decide.{ℕ_discrete}
use Rattle.std.specs.Int.Bits.{bit_or, or_shifted_r}
use Rattle.std.specs.Int.Count.{ones}
use Rattle.sets.specs.Mask.{bit}
use Rattle.sets.specs.Laws.Digits.{shl_one, bit_high, ext}
use Rattle.sets.proofs.Laws.Sizes.{ones_none}
use Rattle.sets.proofs.Laws.Change.{bit-with_same, bit-with_other, ones-with}
use Rattle.sets.specs.Sums.{sum_to, to_n}
use Rattle.sets.specs.Members.{set_of, hasb}
use Rattle.sets.specs.Laws.Sums.{either, to_n-true, to_n-false, sum_ext}
use Rattle.sets.specs.Laws.Tests.{to_n-hasb}

pub set_of-none : (test : ℕ → Bool) → set_of 0 test ≡ 0
unfolding set_of sum_to
set_of-none test = refl

pub set_of_lt : (n : ℕ) (test : ℕ → Bool) → set_of n test < 2 ^ n
unfolding set_of sum_to
set_of_lt zero test = omega arith
set_of_lt (suc n) test =
    ⊎_elim
    (λ e. rw (to_n-true (test n) e) (omega (arith, set_of_lt n test)))
    (λ e. rw (to_n-false (test n) e) (omega (arith, set_of_lt n test)))
    (either (test n))

-- the steps of the loop
pub set_of_yes : (n : ℕ) (test : ℕ → Bool) → test n ≡ true → set_of (suc n) test ≡ bit_or (set_of n test) (2 ^ n)
unfolding set_of sum_to
set_of_yes n test e =
    rw (to_n-true (test n) e) (sym (or_shifted_r 1 n (set_of n test) (set_of_lt n test)) ∙ ap (bit_or (set_of n test)) (one-mul (2 ^ n)))

pub set_of_no : (n : ℕ) (test : ℕ → Bool) → test n ≡ false → set_of (suc n) test ≡ set_of n test
unfolding set_of sum_to
set_of_no n test e = rw (to_n-false (test n) e) (omega arith)

-- a turn of the loop: n is added, or passed over
pub set_of_added : (n : ℕ) (test : ℕ → Bool) → n < 64 → test n ≡ true → bit_or (set_of n test) ((1 * 2 ^ n) % 2 ^ 64) ≡ set_of (n + 1) test
set_of_added n test l e = rw (shl_one 64 n l, add-one) (sym (set_of_yes n test e))

pub set_of_passed : (n : ℕ) (test : ℕ → Bool) → test n ≡ false → set_of n test ≡ set_of (n + 1) test
set_of_passed n test e = rw add-one (sym (set_of_no n test e))

-- its members
pub set_of_high : (n : ℕ) (test : ℕ → Bool) (i : ℕ) → n ≤ i → bit (set_of n test) i ≡ 0
set_of_high n test i l = bit_high (set_of n test) n i (set_of_lt n test) l

pub set_of-bit : (n : ℕ) (test : ℕ → Bool) (i : ℕ) → i < n → bit (set_of n test) i ≡ to_n (test i)
set_of-bit zero test i l = absurd (omega arith)
set_of-bit (suc n) test i l = go (either (test n)) (ℕ_discrete n i) (set_of-bit n test i)
  where
    go : (test n ≡ true) ⊎ (test n ≡ false) → Dec (n ≡ i) → (i < n → bit (set_of n test) i ≡ to_n (test i)) → bit (set_of (suc n) test) i ≡ to_n (test i)
    go (inl y) (yes e) ih =
        ap (λ (x : ℕ). bit x i) (set_of_yes n test y) ∙ rw (← e) (bit-with_same (set_of n test) n ∙ sym (to_n-true (test n) y))
    go (inl y) (no ne) ih = ap (λ (x : ℕ). bit x i) (set_of_yes n test y) ∙ bit-with_other (set_of n test) n i ne ∙ ih (omega arith)
    go (inr z) (yes e) ih =
        ap (λ (x : ℕ). bit x i) (set_of_no n test z) ∙ set_of_high n test i (omega arith) ∙ rw (← e) (sym (to_n-false (test n) z))
    go (inr z) (no ne) ih = ap (λ (x : ℕ). bit x i) (set_of_no n test z) ∙ ih (omega arith)

pub set_of_ext : (n : ℕ) (f g : ℕ → Bool) → ((i : ℕ) → i < n → f i ≡ g i) → set_of n f ≡ set_of n g
set_of_ext n f g h =
    ext n (set_of n f) (set_of n g) (set_of_lt n f) (set_of_lt n g) (λ i l. set_of-bit n f i l ∙ ap to_n (h i l) ∙ sym (set_of-bit n g i l))

-- a set is that of the numbers it has
pub set_of-hasb : (n m : ℕ) → m < 2 ^ n → set_of n (hasb m) ≡ m
set_of-hasb n m h = ext n (set_of n (hasb m)) m (set_of_lt n (hasb m)) h (λ i l. set_of-bit n (hasb m) i l ∙ to_n-hasb m i)

-- its size
pub ones-set_of : (n : ℕ) (test : ℕ → Bool) → ones (set_of n test) ≡ sum_to n (λ i. to_n (test i))
unfolding sum_to
ones-set_of zero test = ap ones (set_of-none test) ∙ ones_none
ones-set_of (suc n) test = go (either (test n)) (ones-set_of n test)
  where
    go : (test n ≡ true) ⊎ (test n ≡ false) → ones (set_of n test) ≡ sum_to n (λ i. to_n (test i)) → ones (set_of (suc n) test) ≡ to_n (test n) + sum_to n (λ i. to_n (test i))
    go (inl y) ih =
        ap ones (set_of_yes n test y) ∙ ones-with (set_of n test) n (set_of_high n test n (omega arith)) ∙ omega (arith, to_n-true (test n) y)
    go (inr z) ih = ap ones (set_of_no n test z) ∙ omega (arith, to_n-false (test n) z)

-- a set's size is the sum of its digits
pub ones-sum : (n m : ℕ) → m < 2 ^ n → ones m ≡ sum_to n (bit m)
ones-sum n m h =
    ap ones (sym (set_of-hasb n m h)) ∙ ones-set_of n (hasb m) ∙ sum_ext n (λ i. to_n (hasb m i)) (bit m) (λ i l. to_n-hasb m i)
