-- The least member of a set that is not empty, which `trailing_zeros` is. Assumes nothing.
use Rattle.std.specs.Prelude.{◌≡◌, refl, ◌≢◌, ℕ, zero, suc, ◌/◌, ◌%◌, ◌^◌, ◌<◌}
use Rattle.std.proofs.Common.{◌∙◌, suc-le-suc, arith}
use Rattle.std.proofs.Math.Decide.{dec_lt}
use Rattle.std.specs.Int.Count.{count_trailing_zeros, under}
use Rattle.sets.specs.Mask.{bit, Has, Least}
use Rattle.sets.specs.Laws.Digits.{bit-zero, bit-suc, lt_pow}

pub trailing_least : (w m : ℕ) → m < 2 ^ w → 0 < m → Least w m (count_trailing_zeros w m)
unfolding count_trailing_zeros
trailing_least zero m h p = absurd (omega arith)
trailing_least (suc w) m h p = go (m % 2) refl (λ q. trailing_least w (m / 2) (omega arith) q)
  where
    low : (t : ℕ) → ((j : ℕ) → j < t → bit (m / 2) j ≡ 0) → m % 2 ≡ 0 → (j : ℕ) → j < suc t → bit m j ≡ 0
    low t f e zero l = bit-zero m ∙ e
    low t f e (suc j) l = bit-suc m j ∙ f j (omega arith)

    go : (d : ℕ) → m % 2 ≡ d → (0 < m / 2 → Least w (m / 2) (count_trailing_zeros w (m / 2))) → Least (suc w) m (under d (count_trailing_zeros w (m / 2)))
    go zero e rest =
        let r = rest (omega arith) in
        record {
          below = suc-le-suc r.below;
          has = bit-suc m (count_trailing_zeros w (m / 2)) ∙ r.has;
          least = low (count_trailing_zeros w (m / 2)) r.least e;
        }
    go (suc d) e rest =
        record { below = omega arith; has = omega (arith, bit-zero m); least = λ j l. absurd (omega arith) }

-- there is no other
pub least_unique : (w m s t : ℕ) → Least w m s → Least w m t → s ≡ t
least_unique w m s t a b = go (dec_lt s t) (dec_lt t s)
  where
    go : Dec (s < t) → Dec (t < s) → s ≡ t
    go (yes l) q = absurd (omega (arith, a.has, b.least s l))
    go (no n) (yes l) = absurd (omega (arith, b.has, a.least t l))
    go (no n) (no k) = omega arith

-- so a set that is not empty has a member
pub some_member : (m : ℕ) → m ≢ 0 → (i : ℕ) × Has m i
some_member m n = (count_trailing_zeros m m, (trailing_least m m (lt_pow m) (omega arith)).has)
