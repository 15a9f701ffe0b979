-- A number in decimal has digits and no mark, and no two are written alike. Assumes nothing.
use Rattle.std.specs.Prelude.{◌≡◌, refl, ◌≢◌, ℕ, zero, suc, ◌/◌, ◌%◌, ◌<◌}
use Rattle.std.proofs.Common.{sym, ap, ◌∙◌, subst, arith}
use mathlib.Core.List.{List, [], ◌∷◌, Memᴰ}
use Rattle.std.proofs.Math.Decide.{dec_lt}
use Rattle.text.specs.Text.{digit, dash, decimal}
use Rattle.text.proofs.Laws.Decimal.{decimal-small, decimal_large, worth, decimal_value}
use Rattle.text.specs.Cut.{Lacks}
use Rattle.text.specs.Laws.Marks.{lacks_none, lacks_cons, lacks_append}

-- this byte is no digit
abbrev pub NoDigit : ℕ → Type 0
NoDigit mark = (d : ℕ) → d < 10 → mark ≢ digit d

-- a number in decimal has digits only
pub decimal_lacks : (mark n : ℕ) → NoDigit mark → Lacks mark (decimal n)
decimal_lacks mark n none = up_to (suc n) n (omega arith)
  where
    one : (d : ℕ) → d < 10 → Lacks mark (digit d ∷ [])
    one d l = lacks_cons mark (digit d) [] (none d l) (lacks_none mark)

    up_to : (k n : ℕ) → n < k → Lacks mark (decimal n)
    up_to zero n h = absurd (omega arith)
    up_to (suc k) n h = go (dec_lt n 10) (up_to k (n / 10))
      where
        go : Dec (n < 10) → (n / 10 < k → Lacks mark (decimal (n / 10))) → Lacks mark (decimal n)
        go (yes l) ih = subst (Lacks mark) (sym (decimal-small n l)) (one n l)
        go (no m) ih =
            subst (Lacks mark) (sym (decimal_large n (omega arith)))
            (lacks_append mark (decimal (n / 10)) (digit (n % 10) ∷ []) (ih (omega arith)) (one (n % 10) (omega arith)))

-- so it is no dash
pub decimal_no_dash : (n : ℕ) → decimal n ≢ dash ∷ []
decimal_no_dash n e = decimal_lacks dash n (λ d l q. omega arith) (subst (λ (l : List ℕ). Memᴰ dash l) (sym e) (Memᴰ.head refl))

-- a number can be read back
pub decimal_same : (m n : ℕ) → decimal m ≡ decimal n → m ≡ n
decimal_same m n e = sym (decimal_value m) ∙ ap (worth 0) e ∙ decimal_value n
