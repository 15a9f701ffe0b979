-- One member more, one fewer, one for another: digits, widths and sizes. Assumes nothing.
use Rattle.std.specs.Prelude.{◌≡◌, ◌≢◌, ℕ, suc, ◌+◌, ◌-◌, ◌^◌, ◌≤◌, ◌<◌}
use Rattle.std.proofs.Common.{sym, ap, ◌∙◌, ⊎_elim, arith}
use Rattle.std.proofs.Math.Decide.{ℕ_discrete}
use Rattle.std.proofs.Math.Pow.{pow-lt}
use Rattle.std.proofs.lemmas.Nat.{or_lt, and_le_l}
use Rattle.std.specs.Int.Count.{ones}
use Rattle.sets.specs.Mask.{bit, Has, with, less, trade}
use Rattle.sets.specs.Laws.Digits.{bit_le, digit, bit-or, bit-minus, bit-pow_same, bit-pow_other, ext_all, minus-width}
use Rattle.sets.proofs.Laws.Sizes.{ones-union, ones-pow}

-- ---- one more

pub bit-with_same : (m i : ℕ) → bit (with m i) i ≡ 1
bit-with_same m i = omega (arith, bit-or m (2 ^ i) i, bit-pow_same i, bit_le m i)

pub bit-with_other : (m i j : ℕ) → i ≢ j → bit (with m i) j ≡ bit m j
bit-with_other m i j h = omega (arith, bit-or m (2 ^ i) j, bit-pow_other i j h)

pub with_lt : (w m i : ℕ) → m < 2 ^ w → i < w → with m i < 2 ^ w
with_lt w m i h l = or_lt w m (2 ^ i) h (pow-lt l)

-- a member that is there already
pub with_has : (m i : ℕ) → Has m i → with m i ≡ m
with_has m i e = ext_all (with m i) m (λ j. go j (ℕ_discrete i j))
  where
    go : (j : ℕ) → Dec (i ≡ j) → bit (with m i) j ≡ bit m j
    go j (yes p) = rw (← p) (bit-with_same m i ∙ sym e)
    go j (no n) = bit-with_other m i j n

pub ones-with : (m i : ℕ) → bit m i ≡ 0 → ones (with m i) ≡ suc (ones m)
ones-with m i e = omega (arith, ones-union m (2 ^ i) (λ j. go j (ℕ_discrete i j)), ones-pow i)
  where
    go : (j : ℕ) → Dec (i ≡ j) → bit m j + bit (2 ^ i) j ≤ 1
    go j (yes p) = omega (arith, ap (bit m) p, bit_le (2 ^ i) j)
    go j (no n) = omega (arith, bit-pow_other i j n, bit_le m j)

pub ones-with_le : (m i : ℕ) → ones (with m i) ≤ suc (ones m)
ones-with_le m i = ⊎_elim (λ z. omega (arith, ones-with m i z)) (λ o. omega (arith, ap ones (with_has m i o))) (digit m i)

-- ---- one fewer

pub bit-less_same : (w m i : ℕ) → m < 2 ^ w → i < w → bit (less w m i) i ≡ 0
bit-less_same w m i h l = omega (arith, bit-minus w m (2 ^ i) i h (pow-lt l), bit-pow_same i, bit_le m i)

pub bit-less_other : (w m i j : ℕ) → m < 2 ^ w → i < w → i ≢ j → bit (less w m i) j ≡ bit m j
bit-less_other w m i j h l n = omega (arith, bit-minus w m (2 ^ i) j h (pow-lt l), bit-pow_other i j n)

pub less_lt : (w k m i : ℕ) → m < 2 ^ k → less w m i < 2 ^ k
less_lt w k m i h = omega (arith, and_le_l m ((2 ^ w - 1) - 2 ^ i))

pub less-width : (k w a i : ℕ) → k ≤ w → a < 2 ^ k → i < k → less w a i ≡ less k a i
less-width k w a i l ha li = minus-width k w a (2 ^ i) l ha (pow-lt li)

pub with-less : (w m i : ℕ) → m < 2 ^ w → i < w → bit m i ≡ 1 → with (less w m i) i ≡ m
with-less w m i h l e = ext_all (with (less w m i) i) m (λ j. go j (ℕ_discrete i j))
  where
    go : (j : ℕ) → Dec (i ≡ j) → bit (with (less w m i) i) j ≡ bit m j
    go j (yes p) = rw (← p) (bit-with_same (less w m i) i ∙ sym e)
    go j (no n) = bit-with_other (less w m i) i j n ∙ bit-less_other w m i j h l n

pub ones-less : (w m i : ℕ) → m < 2 ^ w → i < w → bit m i ≡ 1 → suc (ones (less w m i)) ≡ ones m
ones-less w m i h l e = sym (ones-with (less w m i) i (bit-less_same w m i h l)) ∙ ap ones (with-less w m i h l e)

-- ---- one for another

pub ones-trade : (w m v u : ℕ) → m < 2 ^ w → v < w → bit m v ≡ 1 → bit m u ≡ 0 → ones (trade w m v u) ≡ ones m
ones-trade w m v u h l e f = ones-with (less w m v) u (omega (arith, bit-minus w m (2 ^ v) u h (pow-lt l))) ∙ ones-less w m v h l e

pub trade_lt : (w k m v u : ℕ) → m < 2 ^ k → u < k → trade w m v u < 2 ^ k
trade_lt w k m v u h l = with_lt k (less w m v) u (less_lt w k m v h) l

pub bit-trade_in : (w m v u : ℕ) → bit (trade w m v u) u ≡ 1
bit-trade_in w m v u = bit-with_same (less w m v) u

pub bit-trade_out : (w m v u : ℕ) → m < 2 ^ w → v < w → u ≢ v → bit (trade w m v u) v ≡ 0
bit-trade_out w m v u h l n = bit-with_other (less w m v) u v n ∙ bit-less_same w m v h l

pub bit-trade_other : (w m v u i : ℕ) → m < 2 ^ w → v < w → u ≢ i → v ≢ i → bit (trade w m v u) i ≡ bit m i
bit-trade_other w m v u i h l n k = bit-with_other (less w m v) u i n ∙ bit-less_other w m v i h l k
