-- A mask is a set of small numbers: i is a member of m where `bit m i` is 1. These are the definitions, and nothing is proved here. Membership is a
-- number, 0 or 1, so that `omega arith` reasons about sets. The laws stand in Laws/ here and below proofs/; `Sets` passes on the definitions and
-- the laws of its folder together.
use Rattle.std.specs.Prelude.{◌≡◌, Bool, ℕ, ◌+◌, ◌-◌, ◌/◌, ◌%◌, ◌^◌, ◌≤◌, ◌<◌, eqb}
use Rattle.std.specs.Int.Bits.{bit_and, bit_or, bit_xor}

-- the digit i of m, 0 or 1
unfoldable pub bit : ℕ → ℕ → ℕ
bit m i = m / 2 ^ i % 2

-- i is a member of m
abbrev pub Has : ℕ → ℕ → Type 0
Has m i = bit m i ≡ 1

-- every member of a is one of b
abbrev pub Sub : ℕ → ℕ → Type 0
Sub a b = (i : ℕ) → bit a i ≤ bit b i

-- no number is a member of both
abbrev pub Apart : ℕ → ℕ → Type 0
Apart a b = (i : ℕ) → bit a i + bit b i ≤ 1

-- the mask tests of the two, which `a & b == a` and `a & b == 0` are
abbrev pub subb : ℕ → ℕ → Bool
subb a b = eqb (bit_and a b) a

abbrev pub apartb : ℕ → ℕ → Bool
apartb a b = eqb (bit_and a b) 0

-- a without the members of b, which `a & !b` is
abbrev pub minus : ℕ → ℕ → ℕ → ℕ
minus w a b = bit_and a ((2 ^ w - 1) - b)

-- what of P is missing from held, which `P ^ (P & held)` is
abbrev pub missing : ℕ → ℕ → ℕ
missing P held = bit_xor P (bit_and P held)

-- m with i, which `m | (1 << i)` is
abbrev pub with : ℕ → ℕ → ℕ
with m i = bit_or m (2 ^ i)

-- m without i, which `m & !(1 << i)` is
abbrev pub less : ℕ → ℕ → ℕ → ℕ
less w m i = minus w m (2 ^ i)

-- m with u for v
abbrev pub trade : ℕ → ℕ → ℕ → ℕ → ℕ
trade w m v u = with (less w m v) u

-- t is the least member of m, within the width w
pub record Least (w m t : ℕ) : Type 0 where
  pub below : t < w
  pub has : bit m t ≡ 1
  pub least : (j : ℕ) → j < t → bit m j ≡ 0
