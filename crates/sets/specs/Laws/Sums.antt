-- Laws of sums over the numbers below n, and of tests as numbers. Assumes nothing.
use Rattle.std.specs.Prelude.{◌≡◌, refl, ◌⊎◌, Bool, true, false, ℕ, zero, suc, ◌+◌, ◌*◌, ◌^◌, ◌≤◌, ◌<◌, T}
use Rattle.std.proofs.Common.{sym, ap, inl, inr, zero-le, arith}
use Rattle.std.proofs.Math.Decide.{ℕ_discrete}
use Rattle.sets.specs.Mask.{bit}
use Rattle.sets.specs.Laws.Digits.{bit-pow_same, bit-pow_other}
use Rattle.sets.specs.Sums.{sum_to, to_n}

-- ---- sums

pub sum_ext : (n : ℕ) (f g : ℕ → ℕ) → ((i : ℕ) → i < n → f i ≡ g i) → sum_to n f ≡ sum_to n g
unfolding sum_to
sum_ext zero f g h = refl
sum_ext (suc n) f g h = omega (arith, h n (omega arith), sum_ext n f g (λ i l. h i (omega arith)))

pub sum-add : (n : ℕ) (a b c e : ℕ → ℕ) → ((i : ℕ) → i < n → a i + b i ≡ c i + e i) → sum_to n a + sum_to n b ≡ sum_to n c + sum_to n e
unfolding sum_to
sum-add zero a b c e h = refl
sum-add (suc n) a b c e h = omega (arith, h n (omega arith), sum-add n a b c e (λ i l. h i (omega arith)))

pub sum_le : (n : ℕ) (f g : ℕ → ℕ) → ((i : ℕ) → f i ≤ g i) → sum_to n f ≤ sum_to n g
unfolding sum_to
sum_le zero f g h = zero-le
sum_le (suc n) f g h = omega (arith, h n, sum_le n f g h)

-- less at one place, and nowhere more
pub sum_lt : (n u : ℕ) (f g : ℕ → ℕ) → ((i : ℕ) → f i ≤ g i) → u < n → f u < g u → sum_to n f < sum_to n g
unfolding sum_to
sum_lt zero u f g h l s = absurd (omega arith)
sum_lt (suc n) u f g h l s = go (λ k. sum_lt n u f g h k s) (ℕ_discrete u n)
  where
    go : (u < n → sum_to n f < sum_to n g) → Dec (u ≡ n) → f n + sum_to n f < g n + sum_to n g
    go ih (yes e) = omega (arith, sum_le n f g h, ap f e, ap g e)
    go ih (no ne) = omega (arith, h n, ih (omega arith))

pub sum-zero : (n : ℕ) (f : ℕ → ℕ) → ((i : ℕ) → i < n → f i ≡ 0) → sum_to n f ≡ 0
unfolding sum_to
sum-zero zero f h = refl
sum-zero (suc n) f h = omega (arith, h n (omega arith), sum-zero n f (λ i l. h i (omega arith)))

sum-none : (n v : ℕ) (r : ℕ → ℕ) → n ≤ v → sum_to n (λ i. bit (2 ^ v) i * r i) ≡ 0
sum-none n v r h = sum-zero n (λ i. bit (2 ^ v) i * r i) (λ i l. rw (bit-pow_other v i (omega arith)) (omega arith))

-- over the one member of {v}
pub sum_one : (n v : ℕ) (r : ℕ → ℕ) → v < n → sum_to n (λ i. bit (2 ^ v) i * r i) ≡ r v
unfolding sum_to
sum_one zero v r h = absurd (omega arith)
sum_one (suc n) v r h = go (sum_one n v r) (ℕ_discrete v n)
  where
    go : (v < n → sum_to n (λ i. bit (2 ^ v) i * r i) ≡ r v) → Dec (v ≡ n) → bit (2 ^ v) n * r n + sum_to n (λ i. bit (2 ^ v) i * r i) ≡ r v
    go ih (yes e) = rw (sym e) (rw (bit-pow_same v) (omega (arith, sum-none v v r (omega arith))))
    go ih (no ne) = rw (bit-pow_other v n ne) (omega (arith, ih (omega arith)))

-- ---- tests as numbers

pub either : (b : Bool) → (b ≡ true) ⊎ (b ≡ false)
either true = inl refl
either false = inr refl

pub to_n-true : (b : Bool) → b ≡ true → to_n b ≡ 1
unfolding to_n
to_n-true b e = ap to_n e

pub to_n-false : (b : Bool) → b ≡ false → to_n b ≡ 0
unfolding to_n
to_n-false b e = ap to_n e

pub true_of_to_n : (b : Bool) → to_n b ≡ 1 → b ≡ true
unfolding to_n
true_of_to_n true e = refl
true_of_to_n false e = absurd (omega arith)

pub false_of_to_n : (b : Bool) → to_n b ≡ 0 → b ≡ false
unfolding to_n
false_of_to_n true e = absurd (omega arith)
false_of_to_n false e = refl

pub to_n_bound : (b : Bool) → to_n b ≤ 1
unfolding to_n
to_n_bound true = omega arith
to_n_bound false = omega arith

-- the same with the test as a fact
pub to_n_yes : (b : Bool) → T b → to_n b ≡ 1
unfolding to_n
to_n_yes true t = refl
to_n_yes false t = absurd t

pub to_n_no : (b : Bool) → (T b → ⊥) → to_n b ≡ 0
unfolding to_n
to_n_no true f = absurd (f tt)
to_n_no false f = refl

pub to_n_le : (b c : Bool) → (T b → T c) → to_n b ≤ to_n c
unfolding to_n
to_n_le true true f = omega arith
to_n_le true false f = absurd (f tt)
to_n_le false c f = zero-le
