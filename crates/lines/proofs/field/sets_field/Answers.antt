-- Each arm writes the sets of its verdict. Assumes nothing.
use mathlib.Core.Path.{sym, ap}
use mathlib.Core.List.{List, ◌∷◌}
use Prim.Native.Nat.{ℕ}
use Rattle.roster.specs.declared.Verdict.{Verdict}
use Rattle.text.specs.Text.{space}
use Rattle.lines.specs.Lines.{sets_text}
use Rattle.text.specs.Laws.Appends.{read_as}
use Rattle.lines.proofs.Verdicts.{no_sets}
use Rattle.lines.proofs.field.sets_field.Goals as goal
use Rattle.lines.proofs.field.sets_field.Goals.{Start}

-- the field by its verdict
abbrev field : (s : Start) → Verdict → List ℕ
field s v = space ∷ sets_text s.args.numbers.now s.args.reply v

pub returns-in-Yes : goal.returns-in-Yes
unfolding sets_text
returns-in-Yes c = read_as (ap (field (goal.at.returns-in-Yes c).Start) (sym c.in-Yes.is)) c.all_crews.ensures

pub returns-in-No : goal.returns-in-No
unfolding sets_text
returns-in-No c = read_as (ap (field (goal.at.returns-in-No c).Start) (sym c.in-No.is)) c.one_set.ensures

pub returns-in_default : goal.returns-in_default
returns-in_default c = let a = c.args in
    read_as (sym (ap (λ (l : List ℕ). space ∷ l) (no_sets a.numbers.now a.reply a.reply.verdict c.in_default.not-Yes c.in_default.not-No))) c.no_set.ensures
