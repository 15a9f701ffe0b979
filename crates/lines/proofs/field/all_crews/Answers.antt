-- No crew, or an empty first one, is no list; any other list begins with a mark (`mark-joined`). Assumes nothing.
use mathlib.Core.Path.{◌≡◌, refl, sym}
use mathlib.Core.Logic.{◌≢◌}
use mathlib.Core.List.{List, [], ◌∷◌, map}
use Prim.Native.Nat.{ℕ, zero, suc}
use native.Mathlib.Omega.{arith}
use lib.ListN.{length, get_or}
use Rattle.text.specs.Text.{space, dash, marked, joined}
use Rattle.lines.specs.Lines.{set_text, filled, between_crews, crews_text}
use Rattle.text.specs.Laws.Appends.{read_as}
use Rattle.lines.proofs.Walk.{mark-joined}
use Rattle.lines.proofs.field.all_crews.Goals as goal

none : (numbers sets : List ℕ) → length sets ≡ 0 → space ∷ crews_text numbers sets ≡ space ∷ dash ∷ []
unfolding joined filled
none numbers [] e = refl
none numbers (x ∷ l) e = absurd (omega arith)

empty : (numbers sets : List ℕ) → get_or sets 0 0 ≡ 0 → space ∷ crews_text numbers sets ≡ space ∷ dash ∷ []
unfolding joined filled
empty numbers [] e = refl
empty numbers (zero ∷ l) e = refl
empty numbers (suc x ∷ l) e = absurd (omega arith)

some : (numbers sets : List ℕ) → get_or sets 0 0 ≢ 0
    → space ∷ crews_text numbers sets ≡ marked space between_crews (map (set_text numbers) (filled sets))
unfolding filled
some numbers [] n = absurd (n refl)
some numbers (zero ∷ l) n = absurd (n refl)
some numbers (suc x ∷ l) n = mark-joined space between_crews (map (set_text numbers) (suc x ∷ filled l)) (λ z. omega arith)

pub returns-in-empty : goal.returns-in-empty
returns-in-empty c = let a = c.args in
    read_as (sym (none a.numbers.now a.sets.now (omega arith))) c.no_set.ensures

pub returns-in-0 : goal.returns-in-0
returns-in-0 c = let a = c.args in
    read_as (sym (empty a.numbers.now a.sets.now (omega arith))) c.no_set-in-0.ensures

pub returns-in_default : goal.returns-in_default
returns-in_default c = let a = c.args in
    read_as (sym (some a.numbers.now a.sets.now (λ e. omega (arith, e)))) c.crews.ensures
