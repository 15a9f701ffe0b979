-- Membership, digit by digit: in the masks that a program's operations give, what a mask's width says of it, and sets with the same members are equal.
-- Assumes nothing.
use Rattle.std.specs.Prelude.{◌≡◌, refl, ◌⊎◌, ◌≢◌, ℕ, zero, suc, ◌+◌, ◌-◌, ◌*◌, ◌/◌, ◌%◌, ◌^◌, ◌≤◌, ◌<◌, min, max}
use Rattle.std.proofs.Common.{sym, ap, ◌∙◌, inl, inr, ⊎_elim, suc-le-suc, div-one, mod-lt, lt_of_lt_of_le, lt_of_not-le, one-add, arith, shr-shr, shl_exact, pow_pos, pow_mono}
use Rattle.std.proofs.Math.Nat.{div-eq_of_lt}
use Rattle.std.proofs.Math.Decide.{dec_lt, dec_le, ℕ_discrete}
use Rattle.std.proofs.Math.Pow.{split}
use Rattle.std.specs.Int.Bits.{bit_and, bit_or, bit_xor, and_step, or_step, xor_add_and}
use Rattle.std.proofs.lemmas.Nat.{and_shr, or_shr, xor_shr, and_mask}
use Rattle.sets.specs.Mask.{bit, Has, minus}

pub bit_le : (m i : ℕ) → bit m i ≤ 1
unfolding bit
bit_le m i = omega arith

-- a digit is 0 or 1
pub digit : (m i : ℕ) → (bit m i ≡ 0) ⊎ (bit m i ≡ 1)
digit m i = go (dec_le (bit m i) 0)
  where
    go : Dec (bit m i ≤ 0) → (bit m i ≡ 0) ⊎ (bit m i ≡ 1)
    go (yes l) = inl (omega arith)
    go (no n) = inr (omega (arith, bit_le m i))

pub bit-zero : (m : ℕ) → bit m 0 ≡ m % 2
unfolding bit
bit-zero m = ap (λ (x : ℕ). x % 2) (div-one m)

pub bit-suc : (m i : ℕ) → bit m (suc i) ≡ bit (m / 2) i
unfolding bit
bit-suc m i = ap (λ (x : ℕ). m / 2 ^ x % 2) (sym (one-add i)) ∙ ap (λ (x : ℕ). x % 2) (sym (shr-shr m 1 i))

-- the empty set
pub bit-none : (i : ℕ) → bit 0 i ≡ 0
bit-none zero = bit-zero 0
bit-none (suc i) = bit-suc 0 i ∙ bit-none i

-- a member of a mask below 2 ^ k is below k
pub bit_high : (m k i : ℕ) → m < 2 ^ k → k ≤ i → bit m i ≡ 0
unfolding bit
bit_high m k i h l = ap (λ (x : ℕ). x % 2) (div-eq_of_lt (lt_of_lt_of_le h (pow_mono l)))

pub bit_below : (m k i : ℕ) → m < 2 ^ k → bit m i ≡ 1 → i < k
bit_below m k i h e = lt_of_not-le (λ (l : k ≤ i). omega (arith, bit_high m k i h l))

-- ---- the operations

pub bit-and : (a b i : ℕ) → bit (bit_and a b) i ≡ min (bit a i) (bit b i)
unfolding bit
bit-and a b i =
    ap (λ (x : ℕ). x % 2) (and_shr a b i) ∙ omega (arith, and_step (a / 2 ^ i) (b / 2 ^ i))

pub bit-or : (a b i : ℕ) → bit (bit_or a b) i ≡ max (bit a i) (bit b i)
unfolding bit
bit-or a b i =
    ap (λ (x : ℕ). x % 2) (or_shr a b i) ∙ omega (arith, or_step (a / 2 ^ i) (b / 2 ^ i))

pub bit-xor : (a b i : ℕ) → bit (bit_xor a b) i ≡ (bit a i + bit b i) % 2
unfolding bit
bit-xor a b i =
    ap (λ (x : ℕ). x % 2) (xor_shr a b i) ∙ omega (arith, xor_add_and (a / 2 ^ i) (b / 2 ^ i))

-- the set of i alone, which `1 << i` is
pub bit-pow_same : (i : ℕ) → bit (2 ^ i) i ≡ 1
bit-pow_same zero = bit-zero 1
bit-pow_same (suc i) = bit-suc (2 ^ suc i) i ∙ ap (λ (x : ℕ). bit x i) (omega arith) ∙ bit-pow_same i

pub bit-pow_other : (i j : ℕ) → i ≢ j → bit (2 ^ i) j ≡ 0
bit-pow_other zero zero h = absurd (h refl)
bit-pow_other zero (suc j) h = bit-suc 1 j ∙ bit-none j
bit-pow_other (suc i) zero h = bit-zero (2 ^ suc i) ∙ omega arith
bit-pow_other (suc i) (suc j) h =
    bit-suc (2 ^ suc i) j ∙ ap (λ (x : ℕ). bit x j) (omega arith) ∙ bit-pow_other i j (λ e. h (ap suc e))

-- what `1 << i` gives at width w
pub shl_one : (w i : ℕ) → i < w → (1 * 2 ^ i) % 2 ^ w ≡ 2 ^ i
shl_one w i h = shl_exact 1 i w (omega arith) (omega arith) ∙ omega arith

-- the complement within width w, which `!m` is
pub bit_not : (w m i : ℕ) → m < 2 ^ w → i < w → bit ((2 ^ w - 1) - m) i ≡ 1 - bit m i
bit_not zero m i h l = absurd (omega arith)
bit_not (suc w) m zero h l = bit-zero ((2 ^ suc w - 1) - m) ∙ omega (arith, bit-zero m)
bit_not (suc w) m (suc i) h l =
    bit-suc ((2 ^ suc w - 1) - m) i ∙ ap (λ (x : ℕ). bit x i) (omega arith) ∙ bit_not w (m / 2) i (omega arith) (omega arith)
    ∙ ap (λ (x : ℕ). 1 - x) (sym (bit-suc m i))

-- the set of all numbers below w
pub bit-full : (w i : ℕ) → i < w → bit (2 ^ w - 1) i ≡ 1
bit-full w i l =
    let e : 2 ^ w - 1 ≡ (2 ^ w - 1) - 0 = omega arith in
    ap (λ (x : ℕ). bit x i) e ∙ omega (arith, bit_not w 0 i (pow_pos w) l, bit-none i)

pub bit-minus : (w a b i : ℕ) → a < 2 ^ w → b < 2 ^ w → bit (minus w a b) i ≡ bit a i - bit b i
bit-minus w a b i ha hb = bit-and a ((2 ^ w - 1) - b) i ∙ go (dec_lt i w)
  where
    go : Dec (i < w) → min (bit a i) (bit ((2 ^ w - 1) - b) i) ≡ bit a i - bit b i
    go (yes l) = omega (arith, bit_not w b i hb l, bit_le a i, bit_le b i)
    go (no n) = omega (arith, bit_high a w i ha (omega arith))

-- what `m >> k` gives
pub bit_shr : (m k i : ℕ) → bit (m / 2 ^ k) i ≡ bit m (k + i)
unfolding bit
bit_shr m k i = ap (λ (x : ℕ). x % 2) (shr-shr m k i)

-- what `(m >> i) & 1` gives
pub shr_and_one : (m i : ℕ) → bit_and (m / 2 ^ i) 1 ≡ bit m i
unfolding bit
shr_and_one m i = and_mask (m / 2 ^ i) 1

-- ---- the operations, by members

pub and_in : (a b i : ℕ) → Has (bit_and a b) i → Has a i × Has b i
and_in a b i e = (omega (arith, bit-and a b i, bit_le a i, bit_le b i), omega (arith, bit-and a b i, bit_le a i, bit_le b i))

pub in_and : (a b i : ℕ) → Has a i → Has b i → Has (bit_and a b) i
in_and a b i p q = omega (arith, bit-and a b i)

pub or_in : (a b i : ℕ) → Has (bit_or a b) i → Has a i ⊎ Has b i
or_in a b i e = ⊎_elim (λ z. inr (omega (arith, bit-or a b i))) (λ o. inl o) (digit a i)

pub or_in_l : (a b i : ℕ) → Has a i → Has (bit_or a b) i
or_in_l a b i e = omega (arith, bit-or a b i, bit_le b i)

pub or_in_r : (a b i : ℕ) → Has b i → Has (bit_or a b) i
or_in_r a b i e = omega (arith, bit-or a b i, bit_le a i)

pub or_out : (a b i : ℕ) → bit (bit_or a b) i ≡ 0 → (bit a i ≡ 0) × (bit b i ≡ 0)
or_out a b i e = (omega (arith, bit-or a b i), omega (arith, bit-or a b i))

pub pow_in : (i j : ℕ) → Has (2 ^ i) j → j ≡ i
pow_in i j e = go (ℕ_discrete i j)
  where
    go : Dec (i ≡ j) → j ≡ i
    go (yes p) = sym p
    go (no n) = absurd (omega (arith, bit-pow_other i j n))

-- ---- equal sets

-- two masks below 2 ^ k with the same members are equal
pub ext : (k a b : ℕ) → a < 2 ^ k → b < 2 ^ k → ((i : ℕ) → i < k → bit a i ≡ bit b i) → a ≡ b
ext zero a b ha hb e = omega arith
ext (suc k) a b ha hb e =
    let high : a / 2 ≡ b / 2 =
    ext k (a / 2) (b / 2) (omega arith) (omega arith) (λ i l. sym (bit-suc a i) ∙ e (suc i) (suc-le-suc l) ∙ bit-suc b i) in
    omega (arith, e zero (omega arith), bit-zero a, bit-zero b)

pub lt_pow : (n : ℕ) → n < 2 ^ n
lt_pow zero = omega arith
lt_pow (suc n) = omega (arith, lt_pow n)

-- the same for any two numbers
pub ext_all : (a b : ℕ) → ((i : ℕ) → bit a i ≡ bit b i) → a ≡ b
ext_all a b e =
    ext (a + b) a b (lt_of_lt_of_le (lt_pow a) (pow_mono (omega arith))) (lt_of_lt_of_le (lt_pow b) (pow_mono (omega arith))) (λ i l. e i)

-- ---- a mask's width

-- a mask of which a shift by k leaves nothing is below 2 ^ k
pub shifted_out : (k m : ℕ) → m / 2 ^ k ≡ 0 → m < 2 ^ k
shifted_out k m e =
    let s : 0 * 2 ^ k + m % 2 ^ k ≡ m = ap (λ (x : ℕ). x * 2 ^ k + m % 2 ^ k) (sym e) ∙ split m k in
    omega (arith, mod-lt m (pow_pos k))

-- a mask whose members are below k is below 2 ^ k
pub lt_of_bits : (k m : ℕ) → ((i : ℕ) → k ≤ i → bit m i ≡ 0) → m < 2 ^ k
lt_of_bits k m h =
    shifted_out k m (ext_all (m / 2 ^ k) 0 (λ i. bit_shr m k i ∙ h (k + i) (omega arith) ∙ sym (bit-none i)))

-- within the width, `below` gives all the numbers below n
pub below_within : (w n : ℕ) → n ≤ w → 2 ^ min n w - 1 ≡ 2 ^ n - 1
below_within w n l = let e : min n w ≡ n = omega arith in ap (λ (x : ℕ). 2 ^ x - 1) e

-- a wider complement makes no difference
pub minus-width : (k w a b : ℕ) → k ≤ w → a < 2 ^ k → b < 2 ^ k → minus w a b ≡ minus k a b
minus-width k w a b l ha hb =
    ext_all (minus w a b) (minus k a b) (λ i.
    bit-minus w a b i (lt_of_lt_of_le ha (pow_mono l)) (lt_of_lt_of_le hb (pow_mono l)) ∙ sym (bit-minus k a b i ha hb))
