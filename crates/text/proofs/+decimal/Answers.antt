-- Below 10 it is one digit, and else the digits of a tenth and the last one (`decimal-small`, `decimal_large`). Assumes nothing.
use mathlib.Core.Path.{◌≡◌, sym, ap, ◌∙◌}
use mathlib.Core.List.{[], ◌∷◌, ◌++◌}
use Prim.Native.Nat.{ℕ, ◌/◌, ◌%◌, ◌≤◌, ◌<◌}
use Rattle.text.specs.Text.{digit}
use Rattle.text.specs.Text.{decimal as spelt}
use Rattle.text.proofs.Laws.Decimal.{decimal-small, decimal_large}
use Rattle.text.specs.Laws.Appends.{◌then◌, read_as}
use Rattle.text.proofs.+decimal.Goals as goal

-- the digits of a number of one digit, of which d is the digit
one : (n d : ℕ) → n < 10 → d ≡ digit n → spelt n ≡ d ∷ []
one n d h e = decimal-small n h ∙ ap (λ (x : ℕ). x ∷ []) (sym e)

-- and of a longer one, of which d is the last
more : (n d : ℕ) → 10 ≤ n → d ≡ digit (n % 10) → spelt n ≡ spelt (n / 10) ++ (d ∷ [])
more n d h e = decimal_large n h ∙ ap (λ (x : ℕ). spelt (n / 10) ++ (x ∷ [])) (sym e)

pub returns-then-n-lt10 : goal.returns-then-n-lt10
returns-then-n-lt10 t c = read_as (sym (one c.args.n c.digit.result c.if-n-lt10.true c.digit.ensures)) c.put.ensures

pub returns : goal.returns
returns t c =
    read_as (sym (more c.args.n c.digit-2.result c.if-n-lt10.false c.digit-2.ensures)) (c.decimal-next.ensures then c.put-2.ensures)
