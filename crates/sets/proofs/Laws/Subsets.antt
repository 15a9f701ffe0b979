-- Subsets and disjoint sets: the mask tests for them, both ways, and the same by members. Assumes nothing.
use Rattle.std.specs.Prelude.{◌≡◌, true, false, ℕ, suc, ◌+◌, ◌-◌, ◌/◌, ◌^◌, ◌≤◌, ◌<◌}
use Rattle.std.proofs.Common.{ap, arith, eqb-true, eq-eqb}
use Rattle.std.proofs.Math.Decide.{dec_le}
use Rattle.std.specs.Int.Bits.{bit_and, bit_or}
use Rattle.std.proofs.lemmas.Bool.{eqb-false}
use Rattle.sets.specs.Mask.{bit, Has, Sub, Apart, subb, apartb, minus}
use Rattle.sets.specs.Laws.Digits.{bit_le, bit-none, bit-suc, bit-and, bit-or, bit-minus, bit_high, ext_all, lt_of_bits}

pub sub_of_test : (a b : ℕ) → bit_and a b ≡ a → Sub a b
sub_of_test a b e i = omega (arith, bit-and a b i, ap (λ (x : ℕ). bit x i) e)

pub test_of_sub : (a b : ℕ) → Sub a b → bit_and a b ≡ a
test_of_sub a b h = ext_all (bit_and a b) a (λ i. omega (arith, bit-and a b i, h i))

pub apart_of_test : (a b : ℕ) → bit_and a b ≡ 0 → Apart a b
apart_of_test a b e i = omega (arith, bit-and a b i, ap (λ (x : ℕ). bit x i) e, bit-none i, bit_le a i, bit_le b i)

pub test_of_apart : (a b : ℕ) → Apart a b → bit_and a b ≡ 0
test_of_apart a b h = ext_all (bit_and a b) 0 (λ i. omega (arith, bit-and a b i, h i, bit-none i, bit_le a i, bit_le b i))

-- ---- the tests as Bools

pub subb-true : (a b : ℕ) → subb a b ≡ true → Sub a b
subb-true a b e = sub_of_test a b (eqb-true (bit_and a b) a e)

pub subb-false : (a b : ℕ) → subb a b ≡ false → Sub a b → ⊥
subb-false a b e h = eqb-false (bit_and a b) a e (test_of_sub a b h)

pub sub-subb : (a b : ℕ) → Sub a b → subb a b ≡ true
sub-subb a b h = eq-eqb (bit_and a b) a (test_of_sub a b h)

pub apartb-true : (a b : ℕ) → apartb a b ≡ true → Apart a b
apartb-true a b e = apart_of_test a b (eqb-true (bit_and a b) 0 e)

pub apartb-false : (a b : ℕ) → apartb a b ≡ false → Apart a b → ⊥
apartb-false a b e h = eqb-false (bit_and a b) 0 e (test_of_apart a b h)

pub apart-apartb : (a b : ℕ) → Apart a b → apartb a b ≡ true
apart-apartb a b h = eq-eqb (bit_and a b) 0 (test_of_apart a b h)

-- ---- by members

pub sub_of_has : (a b : ℕ) → ((i : ℕ) → Has a i → Has b i) → Sub a b
sub_of_has a b h i = go (dec_le (bit a i) 0)
  where
    go : Dec (bit a i ≤ 0) → bit a i ≤ bit b i
    go (yes l) = omega arith
    go (no n) = omega (arith, h i (omega (arith, bit_le a i)), bit_le a i)

pub has_of_sub : (a b : ℕ) → Sub a b → (i : ℕ) → Has a i → Has b i
has_of_sub a b h i e = omega (arith, h i, bit_le b i)

pub apart_of_has : (a b : ℕ) → ((i : ℕ) → Has a i → Has b i → ⊥) → Apart a b
apart_of_has a b h i = go (dec_le (bit a i + bit b i) 1)
  where
    go : Dec (bit a i + bit b i ≤ 1) → bit a i + bit b i ≤ 1
    go (yes l) = l
    go (no n) = absurd (h i (omega (arith, bit_le a i, bit_le b i)) (omega (arith, bit_le a i, bit_le b i)))

pub has_of_apart : (a b : ℕ) → Apart a b → (i : ℕ) → Has a i → Has b i → ⊥
has_of_apart a b h i p q = omega (arith, h i)

-- ---- subsets of subsets

pub sub_refl : (a : ℕ) → Sub a a
sub_refl a i = omega arith

pub sub_trans : (a b c : ℕ) → Sub a b → Sub b c → Sub a c
sub_trans a b c h k i = omega (arith, h i, k i)

pub sub_lt : (k a b : ℕ) → Sub a b → b < 2 ^ k → a < 2 ^ k
sub_lt k a b s h = lt_of_bits k a (λ i l. omega (arith, s i, bit_high b k i h l))

pub and-sub_l : (a b : ℕ) → Sub (bit_and a b) a
and-sub_l a b i = omega (arith, bit-and a b i)

pub and-sub_r : (a b : ℕ) → Sub (bit_and a b) b
and-sub_r a b i = omega (arith, bit-and a b i)

pub or-sub : (a b c : ℕ) → Sub a c → Sub b c → Sub (bit_or a b) c
or-sub a b c h k i = omega (arith, bit-or a b i, h i, k i)

pub apart_sym : (a b : ℕ) → Apart a b → Apart b a
apart_sym a b h i = omega (arith, h i)

pub apart-sub : (a b c : ℕ) → Sub a b → Apart b c → Apart a c
apart-sub a b c s h i = omega (arith, s i, h i)

pub minus-sub : (w a b : ℕ) → Sub (minus w a b) a
minus-sub w a b i = and-sub_l a ((2 ^ w - 1) - b) i

pub minus-apart : (w a b : ℕ) → a < 2 ^ w → b < 2 ^ w → Apart (minus w a b) b
minus-apart w a b ha hb i = omega (arith, bit-minus w a b i ha hb, bit_le a i, bit_le b i)

-- the digits above the lowest
pub half_sub : (a b : ℕ) → Sub a b → Sub (a / 2) (b / 2)
half_sub a b h i = omega (arith, h (suc i), bit-suc a i, bit-suc b i)
