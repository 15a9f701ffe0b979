-- A number in decimal: by its last digit, and what its digits are worth. Assumes nothing.
use Rattle.std.specs.Prelude.{◌≡◌, refl, List, [], ◌∷◌, ◌++◌, ℕ, zero, suc, ◌+◌, ◌-◌, ◌*◌, ◌/◌, ◌%◌, ◌^◌, ◌≤◌, ◌<◌, length, get_or}
use Rattle.std.proofs.Common.{sym, ap, ◌∙◌, arith, length-append, lt-ltb, le-ltb}
use Rattle.std.proofs.Math.Decide.{dec_lt}
use Rattle.std.proofs.Math.ListN.{get_or-append}
use Rattle.text.specs.Text.{digit, decimal_in, decimal}

in_small : (w n : ℕ) → n < 10 → decimal_in w n ≡ digit n ∷ []
unfolding decimal_in
in_small zero n h = refl
in_small (suc w) n h = rw (lt-ltb n 10 h, decimal_in)

in_large : (w n : ℕ) → 10 ≤ n → decimal_in (suc w) n ≡ decimal_in w (n / 10) ++ (digit (n % 10) ∷ [])
unfolding decimal_in
in_large w n h = rw (le-ltb n 10 h, decimal_in)

-- the digits do not depend on how many there may be at most
in_same : (w v n : ℕ) → n ≤ w → n ≤ v → decimal_in w n ≡ decimal_in v n
in_same zero v n h k = in_small zero n (omega arith) ∙ sym (in_small v n (omega arith))
in_same (suc w) zero n h k = in_small (suc w) n (omega arith) ∙ sym (in_small zero n (omega arith))
in_same (suc w) (suc v) n h k = go (dec_lt n 10) (λ l. in_same w v (n / 10) (omega arith) (omega arith))
  where
    go : Dec (n < 10) → (10 ≤ n → decimal_in w (n / 10) ≡ decimal_in v (n / 10)) → decimal_in (suc w) n ≡ decimal_in (suc v) n
    go (yes l) ih = in_small (suc w) n l ∙ sym (in_small (suc v) n l)
    go (no m) ih =
        let l : 10 ≤ n = omega arith in
        in_large w n l ∙ ap (λ (s : List ℕ). s ++ (digit (n % 10) ∷ [])) (ih l) ∙ sym (in_large v n l)

-- one digit
pub decimal-small : (n : ℕ) → n < 10 → decimal n ≡ digit n ∷ []
unfolding decimal
decimal-small n h = in_small n n h

-- the digits before the last are those of a tenth
pub decimal_large : (n : ℕ) → 10 ≤ n → decimal n ≡ decimal (n / 10) ++ (digit (n % 10) ∷ [])
unfolding decimal
decimal_large zero h = absurd (omega arith)
decimal_large (suc n) h =
    in_large n (suc n) h
    ∙ ap (λ (s : List ℕ). s ++ (digit (suc n % 10) ∷ [])) (in_same n (suc n / 10) (suc n / 10) (omega arith) (omega arith))

-- a number of at most k digits, and of one at least
pub decimal-length : (k n : ℕ) → n < 10 ^ suc k → length (decimal n) ≤ suc k
decimal-length zero n h = omega (arith, ap length (decimal-small n (omega arith)))
decimal-length (suc k) n h = go (dec_lt n 10) (λ l. decimal-length k (n / 10) l)
  where
    go : Dec (n < 10) → (n / 10 < 10 ^ suc k → length (decimal (n / 10)) ≤ suc k) → length (decimal n) ≤ suc (suc k)
    go (yes l) ih = omega (arith, ap length (decimal-small n l))
    go (no m) ih =
        let e = ap length (decimal_large n (omega arith)) ∙ length-append (decimal (n / 10)) (digit (n % 10) ∷ []) in
        omega (arith, e, ih (omega arith))

-- what digits are worth, after those that are worth v
unfoldable pub worth : ℕ → List ℕ → ℕ
worth v [] = v
worth v (d ∷ l) = worth (v * 10 + (d - 48)) l

worth_last : (l : List ℕ) (v d : ℕ) → worth v (l ++ (d ∷ [])) ≡ worth v l * 10 + (d - 48)
unfolding worth
worth_last [] v d = refl
worth_last (x ∷ l) v d = worth_last l (v * 10 + (x - 48)) d

in_value : (w n : ℕ) → n ≤ w → worth 0 (decimal_in w n) ≡ n
unfolding worth
in_value zero n h = ap (worth 0) (in_small zero n (omega arith)) ∙ omega arith
in_value (suc w) n h = go (dec_lt n 10) (λ l. in_value w (n / 10) (omega arith))
  where
    go : Dec (n < 10) → (10 ≤ n → worth 0 (decimal_in w (n / 10)) ≡ n / 10) → worth 0 (decimal_in (suc w) n) ≡ n
    go (yes l) ih = ap (worth 0) (in_small (suc w) n l) ∙ omega arith
    go (no m) ih =
        let l : 10 ≤ n = omega arith in
        ap (worth 0) (in_large w n l) ∙ worth_last (decimal_in w (n / 10)) 0 (digit (n % 10)) ∙ omega (arith, ih l)

-- the digits are worth the number, so no two numbers are written alike
pub decimal_value : (n : ℕ) → worth 0 (decimal n) ≡ n
unfolding decimal
decimal_value n = in_value n n (omega arith)

-- there is a first digit
in_some : (w n : ℕ) → n ≤ w → 0 < length (decimal_in w n)
in_some zero n h = omega (arith, ap length (in_small zero n (omega arith)))
in_some (suc w) n h = go (dec_lt n 10)
  where
    go : Dec (n < 10) → 0 < length (decimal_in (suc w) n)
    go (yes l) = omega (arith, ap length (in_small (suc w) n l))
    go (no m) =
        omega (arith, ap length (in_large w n (omega arith)) ∙ length-append (decimal_in w (n / 10)) (digit (n % 10) ∷ []))

in_first : (w n : ℕ) → n ≤ w → 0 < n → 48 < get_or (decimal_in w n) 0 0
in_first zero n h p = absurd (omega arith)
in_first (suc w) n h p = go (dec_lt n 10) (λ l. in_first w (n / 10) (omega arith) (omega arith))
  where
    go : Dec (n < 10) → (10 ≤ n → 48 < get_or (decimal_in w (n / 10)) 0 0) → 48 < get_or (decimal_in (suc w) n) 0 0
    go (yes l) ih = omega (arith, ap (λ (s : List ℕ). get_or s 0 0) (in_small (suc w) n l))
    go (no m) ih =
        let l : 10 ≤ n = omega arith in
        let first = get_or-append (decimal_in w (n / 10)) (digit (n % 10) ∷ []) 0 0 (in_some w (n / 10) (omega arith)) in
        omega (arith, ih l, ap (λ (s : List ℕ). get_or s 0 0) (in_large w n l) ∙ first)

-- and it is no 0, but for 0 itself
pub decimal-first : (n : ℕ) → 0 < n → 48 < get_or (decimal n) 0 0
unfolding decimal
decimal-first n p = in_first n n (omega arith) p
