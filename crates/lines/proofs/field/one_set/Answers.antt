-- An empty set has no names, and the names of any other begin with a mark (`mark-joined`). Assumes nothing.
use mathlib.Core.Path.{◌≡◌, sym, ap, ◌∙◌}
use mathlib.Core.Logic.{◌≢◌}
use mathlib.Core.List.{List, [], ◌∷◌}
use Prim.Native.Nat.{ℕ, ◌^◌, ◌<◌}
use Rattle.text.specs.Text.{space, dash, marked, joined}
use Rattle.lines.specs.Lines.{names, between_members, set_text}
use Rattle.text.specs.Laws.Appends.{read_as}
use Rattle.lines.proofs.Walk.{names-none, some_names, mark-joined}
use Rattle.lines.proofs.field.one_set.Goals as goal

empty : (numbers : List ℕ) (set : ℕ) → set ≡ 0 → space ∷ set_text numbers set ≡ space ∷ dash ∷ []
unfolding joined
empty numbers set e = ap (λ (l : List (List ℕ)). space ∷ joined between_members l) (ap (names numbers) e ∙ names-none numbers)

some : (numbers : List ℕ) (set : ℕ) → set < 2 ^ 64 → set ≢ 0 → space ∷ set_text numbers set ≡ marked space between_members (names numbers set)
some numbers set h n = mark-joined space between_members (names numbers set) (some_names numbers set h n)

pub returns-then-set-eq0 : goal.returns-then-set-eq0
returns-then-set-eq0 c = read_as (sym (empty c.args.numbers.now c.args.set c.if-set-eq0.true)) c.no_set.ensures

pub returns-else-set-eq0 : goal.returns-else-set-eq0
returns-else-set-eq0 c = read_as (sym (some c.args.numbers.now c.args.set c.ranges.set.fits c.if-set-eq0.false)) c.members.ensures
