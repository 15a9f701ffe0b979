-- The image of a set under a numbering: the set of the numbers of its members. Where the numbering tells them apart, it loses nothing. Assumes nothing.
use Rattle.std.specs.Prelude.{◌≡◌, refl, ℕ, zero, suc, ◌+◌, ◌-◌, ◌^◌, ◌≤◌, ◌<◌}
use Rattle.std.proofs.Common.{sym, ap, ◌∙◌, arith, pow_pos}
use Rattle.std.proofs.Math.Decide.{dec_lt, ℕ_discrete}
use Rattle.std.proofs.Math.Pow.{ones_lt}
use Rattle.std.specs.Int.Count.{ones}
use Rattle.sets.specs.Sets.{bit, Has, bit_le, bit-none, bit_high, bit-full, with}
use Rattle.sets.proofs.Sets.{sub_eq, ones_none, with_lt, bit-with_same, bit-with_other, ones-with}
use Rattle.sets.specs.Sums.{sum_to}
use Rattle.sets.proofs.Laws.Build.{ones-sum}

-- m with x, where the digit is not 0
unfoldable pub put : ℕ → ℕ → ℕ → ℕ
put zero x m = m
put (suc b) x m = with m x

-- the numbers, by f, of the members of A below n
unfoldable pub image : (ℕ → ℕ) → ℕ → ℕ → ℕ
unfolding put
image f zero A = 0
image f (suc n) A = put (bit A n) (f n) (image f n A)

-- the number of a member is in it
pub image_has : (f : ℕ → ℕ) (n A i : ℕ) → i < n → Has A i → Has (image f n A) (f i)
unfolding image put
image_has f zero A i l p = absurd (omega arith)
image_has f (suc n) A i l p = go (bit A n) refl (λ q. image_has f n A i q p) (ℕ_discrete (f n) (f i)) (ℕ_discrete n i)
  where
    go : (b : ℕ) → bit A n ≡ b → (i < n → Has (image f n A) (f i)) → Dec (f n ≡ f i) → Dec (n ≡ i) → Has (put b (f n) (image f n A)) (f i)
    go zero e ih c (yes g) = absurd (omega (arith, ap (bit A) g))
    go zero e ih c (no g) = ih (omega arith)
    go (suc b) e ih (yes h) g = rw (← h) (bit-with_same (image f n A) (f n))
    go (suc b) e ih (no h) (yes g) = absurd (h (ap f g))
    go (suc b) e ih (no h) (no g) = bit-with_other (image f n A) (f n) (f i) h ∙ ih (omega arith)

-- and nothing else is
pub has_image : (f : ℕ → ℕ) (n A x : ℕ) → Has (image f n A) x → (i : ℕ) × (i < n) × Has A i × (f i ≡ x)
unfolding image put
has_image f zero A x p = absurd (omega (arith, bit-none x))
has_image f (suc n) A x p = go (bit A n) refl (has_image f n A x) (ℕ_discrete (f n) x) p
  where
    up : (i : ℕ) × (i < n) × Has A i × (f i ≡ x) → (i : ℕ) × (i < suc n) × Has A i × (f i ≡ x)
    up (i, l, q, r) = (i, omega arith, q, r)

    go : (b : ℕ) → bit A n ≡ b → (Has (image f n A) x → (i : ℕ) × (i < n) × Has A i × (f i ≡ x)) → Dec (f n ≡ x)
        → Has (put b (f n) (image f n A)) x → (i : ℕ) × (i < suc n) × Has A i × (f i ≡ x)
    go zero e ih c q = up (ih q)
    go (suc b) e ih (yes g) q = (n, omega arith, omega (arith, bit_le A n), g)
    go (suc b) e ih (no g) q = up (ih (sym (bit-with_other (image f n A) (f n) x g) ∙ q))

-- where the numbers are below w, it is a set of numbers below w
pub image_lt : (f : ℕ → ℕ) (w n A : ℕ) → ((i : ℕ) → i < n → f i < w) → image f n A < 2 ^ w
unfolding image put
image_lt f w zero A h = pow_pos w
image_lt f w (suc n) A h = go (bit A n) (image_lt f w n A (λ i l. h i (omega arith)))
  where
    go : (b : ℕ) → image f n A < 2 ^ w → put b (f n) (image f n A) < 2 ^ w
    go zero l = l
    go (suc b) l = with_lt w (image f n A) (f n) l (h n (omega arith))

-- as many numbers as members, where the numbering tells them apart
image-sum : (f : ℕ → ℕ) (n A : ℕ) → ((u v : ℕ) → u < n → v < n → f u ≡ f v → u ≡ v) → ones (image f n A) ≡ sum_to n (bit A)
unfolding image put sum_to
image-sum f zero A inj = ones_none
image-sum f (suc n) A inj = go (bit A n) refl (image-sum f n A (λ u v p q. inj u v (omega arith) (omega arith)))
  where
    new : Dec (bit (image f n A) (f n) ≡ 1) → bit (image f n A) (f n) ≡ 0
    new (yes p) =
        let r = has_image f n A (f n) p in
        absurd (omega (arith, r.1, inj r.0 n (omega (arith, r.1)) (omega arith) r.3))
    new (no g) = omega (arith, bit_le (image f n A) (f n))

    go : (b : ℕ) → bit A n ≡ b → ones (image f n A) ≡ sum_to n (bit A) → ones (put b (f n) (image f n A)) ≡ bit A n + sum_to n (bit A)
    go zero e ih = omega arith
    go (suc b) e ih =
        omega (arith, ones-with (image f n A) (f n) (new (ℕ_discrete (bit (image f n A) (f n)) 1)), bit_le A n)

module _ (f : ℕ → ℕ) (n : ℕ) (inj : (u v : ℕ) → u < n → v < n → f u ≡ f v → u ≡ v) where
  -- the image is as large as the set
  pub image-ones : (A : ℕ) → A < 2 ^ n → ones (image f n A) ≡ ones A
  image-ones A h = image-sum f n A inj ∙ sym (ones-sum n A h)

  -- a number is a member exactly if its own number is in the image
  pub image-bit : (A i : ℕ) → i < n → bit (image f n A) (f i) ≡ bit A i
  image-bit A i l = go (ℕ_discrete (bit A i) 1) (ℕ_discrete (bit (image f n A) (f i)) 1)
    where
      go : Dec (bit A i ≡ 1) → Dec (bit (image f n A) (f i) ≡ 1) → bit (image f n A) (f i) ≡ bit A i
      go (yes p) q = image_has f n A i l p ∙ sym p
      go (no p) (yes q) =
          let r = has_image f n A (f i) q in
          absurd (p (ap (bit A) (sym (inj r.0 i r.1 l r.3)) ∙ r.2))
      go (no p) (no q) = omega (arith, bit_le A i, bit_le (image f n A) (f i))

  -- n numbers that differ, all below n, are all the numbers below n
  pub onto : ((i : ℕ) → i < n → f i < n) → (r : ℕ) → r < n → (i : ℕ) × (i < n) × (f i ≡ r)
  onto below r l =
      let every : image f n (2 ^ n - 1) ≡ 2 ^ n - 1 =
      sub_eq (image f n (2 ^ n - 1)) (2 ^ n - 1) (λ i. inside i (dec_lt i n)) (omega (arith, image-ones (2 ^ n - 1) (ones_lt n))) in
      let q = has_image f n (2 ^ n - 1) r (ap (λ (x : ℕ). bit x r) every ∙ bit-full n r l) in
      (q.0, q.1, q.3)
    where
      inside : (i : ℕ) → Dec (i < n) → bit (image f n (2 ^ n - 1)) i ≤ bit (2 ^ n - 1) i
      inside i (yes k) = omega (arith, bit-full n i k, bit_le (image f n (2 ^ n - 1)) i)
      inside i (no g) = omega (arith, bit_high (image f n (2 ^ n - 1)) n i (image_lt f n n (2 ^ n - 1) below) (omega arith))
