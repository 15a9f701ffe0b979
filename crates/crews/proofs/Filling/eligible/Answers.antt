-- By whether the crew is just begun. Assumes nothing.
use mathlib.Core.Path.{sym, ap, ◌∙◌}
use Prim.Native.Nat.{ℕ}
use Rattle.sets.specs.Sets.{minus}
use Rattle.roster.specs.Limits.{row_limit}
use Rattle.crews.proofs.Laws.Steps.{eligible_first, eligible_next}
use Rattle.crews.proofs.Filling.eligible.Goals as goal

pub returns-then-self-eq0 : goal.returns-then-self-eq0
returns-then-self-eq0 c = let a = c.args in
    ap (λ (x : ℕ). minus row_limit a.rows x) c.below.ensures ∙ sym (eligible_first a.self a.rows c.if-self-eq0.true)

pub returns : goal.returns
returns c = let a = c.args in sym (eligible_next a.self a.rows c.if-self-eq0.false)
