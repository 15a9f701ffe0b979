-- What of P is missing from held, `P ^ (P & held)`: no complement, so no width. Assumes nothing.
use Rattle.std.specs.Prelude.{◌≡◌, ℕ, ◌-◌, ◌^◌, ◌<◌}
use Rattle.std.proofs.Common.{ap, ◌∙◌, arith}
use Rattle.std.specs.Int.Bits.{bit_and, bit_xor, and_zero_r, xor_zero_r}
use Rattle.sets.specs.Mask.{bit, Has, Sub}
pub use Rattle.sets.specs.Mask.{missing}
use Rattle.sets.specs.Laws.Digits.{bit_le, bit-none, bit-and, bit-xor, bit_high, ext_all, lt_of_bits}

pub bit-missing : (P held i : ℕ) → bit (missing P held) i ≡ bit P i - bit held i
bit-missing P held i = omega (arith, bit-xor P (bit_and P held) i, bit-and P held i, bit_le P i, bit_le held i)

pub missing-sub : (P held : ℕ) → Sub (missing P held) P
missing-sub P held i = omega (arith, bit-missing P held i)

pub missing_lt : (k P held : ℕ) → P < 2 ^ k → missing P held < 2 ^ k
missing_lt k P held h = lt_of_bits k (missing P held) (λ i l. omega (arith, bit-missing P held i, bit_high P k i h l))

-- a missing member is one of P, and not held
pub missing_in : (P held i : ℕ) → Has (missing P held) i → Has P i × (bit held i ≡ 0)
missing_in P held i e =
    (omega (arith, bit-missing P held i, bit_le P i, bit_le held i), omega (arith, bit-missing P held i, bit_le P i, bit_le held i))

pub in_missing : (P held i : ℕ) → Has P i → bit held i ≡ 0 → Has (missing P held) i
in_missing P held i e f = omega (arith, bit-missing P held i)

-- nothing is missing exactly if all of P is held
pub sub_of_missing : (P held : ℕ) → missing P held ≡ 0 → Sub P held
sub_of_missing P held e i = omega (arith, bit-missing P held i, ap (λ (x : ℕ). bit x i) e, bit-none i)

pub missing_of_sub : (P held : ℕ) → Sub P held → missing P held ≡ 0
missing_of_sub P held h = ext_all (missing P held) 0 (λ i. omega (arith, bit-missing P held i, bit-none i, h i))

-- all is missing where nothing is held
pub missing_all : (P : ℕ) → missing P 0 ≡ P
missing_all P = ap (bit_xor P) (and_zero_r P) ∙ xor_zero_r P
