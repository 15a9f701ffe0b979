-- How many members a set has, which `count_ones` is: of one member, of unions, of subsets. Assumes nothing.
use Rattle.std.specs.Prelude.{◌≡◌, refl, ◌≢◌, ℕ, zero, suc, ◌+◌, ◌-◌, ◌*◌, ◌/◌, ◌%◌, ◌^◌, ◌≤◌, ◌<◌, min, max}
use Rattle.std.proofs.Common.{sym, ap, ap₂, ◌∙◌, lt_of_not-le, arith, pow_pos}
use Rattle.std.proofs.Math.Decide.{dec_lt}
use Rattle.std.proofs.Math.Arith.{bin_ind, lt-one}
use Rattle.std.specs.Int.Bits.{bit_and, bit_or, and_step, or_step}
use Rattle.std.specs.Int.Count.{ones, ones_in, ones_step}
use Rattle.std.proofs.lemmas.Nat.{ones_cat, ones-le}
use Rattle.sets.specs.Mask.{bit, Has, Sub, Apart, minus, missing}
use Rattle.sets.specs.Laws.Digits.{bit_le, bit-zero, bit-and, bit-or, bit-minus, lt_of_bits, ext_all}
use Rattle.sets.proofs.Laws.Subsets.{test_of_apart, half_sub}
use Rattle.sets.specs.Laws.Missing.{sub_of_missing, missing_in}
use Rattle.sets.specs.Laws.Least.{some_member}

pub ones_none : ones 0 ≡ 0
unfolding ones
ones_none = refl

pub ones-pow : (i : ℕ) → ones (2 ^ i) ≡ 1
unfolding ones
ones-pow i = let e : 2 ^ i ≡ 1 * 2 ^ i + 0 = omega arith in ap ones e ∙ ones_cat i 1 0 (pow_pos i)

-- no member but a set's own counts
pub ones-empty : (m : ℕ) → ones m ≡ 0 → m ≡ 0
ones-empty = bin_ind (λ (n : ℕ). ones n ≡ 0 → n ≡ 0) (λ e. refl) (λ n ih e. omega (arith, ones_step n, ih (omega (arith, ones_step n))))

pub ones_pos : (m : ℕ) → 0 < m → 0 < ones m
ones_pos m h = lt_of_not-le (λ (l : ones m ≤ 0). omega (arith, ones-empty m (omega arith)))

-- w digits are enough to count those of a mask below 2 ^ w
pub ones-width : (w m : ℕ) → m < 2 ^ w → ones_in w m ≡ ones m
unfolding ones_in
ones-width zero m h = sym (ap ones (lt-one h) ∙ ones_none)
ones-width (suc w) m h = omega (arith, ones_step m, ones-width w (m / 2) (omega arith))

-- numbers below r are at most r
pub ones_bound : (m r : ℕ) → ((i : ℕ) → Has m i → i < r) → ones m ≤ r
ones_bound m r h = ones-le r m (lt_of_bits r m (λ i l. out i l (dec_lt (bit m i) 1)))
  where
    out : (i : ℕ) → r ≤ i → Dec (bit m i < 1) → bit m i ≡ 0
    out i l (yes p) = omega arith
    out i l (no n) = absurd (omega (arith, h i (omega (arith, bit_le m i))))

-- ---- unions

or-ones : (a b : ℕ) → ones (bit_or a b) ≡ max (a % 2) (b % 2) + ones (bit_or (a / 2) (b / 2))
or-ones a b =
    ones_step (bit_or a b)
    ∙ ap₂ (λ (x y : ℕ). x + ones y) (omega (arith, or_step a b)) (omega (arith, or_step a b))

and-ones : (a b : ℕ) → ones (bit_and a b) ≡ min (a % 2) (b % 2) + ones (bit_and (a / 2) (b / 2))
and-ones a b =
    ones_step (bit_and a b)
    ∙ ap₂ (λ (x y : ℕ). x + ones y) (omega (arith, and_step a b)) (omega (arith, and_step a b))

pub ones-or-and : (a b : ℕ) → ones (bit_or a b) + ones (bit_and a b) ≡ ones a + ones b
ones-or-and a =
    bin_ind (λ (n : ℕ). (b : ℕ) → ones (bit_or n b) + ones (bit_and n b) ≡ ones n + ones b) (λ b. omega (arith, ones_none))
    (λ n ih b. omega (arith, or-ones n b, and-ones n b, ih (b / 2), ones_step n, ones_step b)) a

-- of two sets that are apart
pub ones-union : (a b : ℕ) → Apart a b → ones (bit_or a b) ≡ ones a + ones b
ones-union a b h = omega (arith, ones-or-and a b, ap ones (test_of_apart a b h), ones_none)

-- a set in two parts: what b has of it, and the rest
pub ones-minus : (w a b : ℕ) → a < 2 ^ w → b < 2 ^ w → ones (minus w a b) + ones (bit_and a b) ≡ ones a
ones-minus w a b ha hb = sym (ones-union r s (λ i. omega (arith, rest i, bit-and a b i, bit_le a i, bit_le b i))) ∙ ap ones whole
  where
    r : ℕ
    r = minus w a b

    s : ℕ
    s = bit_and a b

    rest : (i : ℕ) → bit r i ≡ bit a i - bit b i
    rest i = bit-minus w a b i ha hb

    whole : bit_or r s ≡ a
    whole = ext_all (bit_or r s) a (λ i. omega (arith, bit-or r s i, rest i, bit-and a b i, bit_le a i, bit_le b i))

-- ---- subsets

-- a subset has no more members
pub ones-sub : (a b : ℕ) → Sub a b → ones a ≤ ones b
ones-sub a =
    bin_ind (λ (n : ℕ). (b : ℕ) → Sub n b → ones n ≤ ones b) (λ b h. omega (arith, ones_none))
    (λ n ih b h. omega (arith, ih (b / 2) (half_sub n b h), ones_step n, ones_step b, h 0, bit-zero n, bit-zero b)) a

-- and is the set itself if it has as many
pub sub_eq : (a b : ℕ) → Sub a b → ones b ≤ ones a → a ≡ b
sub_eq a =
    bin_ind (λ (n : ℕ). (b : ℕ) → Sub n b → ones b ≤ ones n → n ≡ b) (λ b h l. sym (ones-empty b (omega (arith, ones_none))))
    (λ n ih b h l.
    let s : ones (n / 2) ≤ ones (b / 2) = ones-sub (n / 2) (b / 2) (half_sub n b h) in
    omega (
      arith,
      ih (b / 2) (half_sub n b h) (omega (arith, ones_step n, ones_step b, h 0, bit-zero n, bit-zero b)),
      ones_step n,
      ones_step b,
      h 0,
      bit-zero n,
      bit-zero b,
    )) a

pub ones_strict : (a b : ℕ) → Sub a b → a ≢ b → ones a < ones b
ones_strict a b h n = lt_of_not-le (λ (l : ones b ≤ ones a). n (sub_eq a b h l))

-- a larger set has a member that a smaller lacks
pub fresh : (a b : ℕ) → ones a < ones b → (i : ℕ) × Has b i × (bit a i ≡ 0)
fresh a b h =
    let s = some_member (missing b a) (λ z. let l = ones-sub b a (sub_of_missing b a z) in omega arith) in
    let m = missing_in b a s.0 s.1 in
    (s.0, m.0, m.1)
