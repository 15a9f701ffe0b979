-- By whether the crew can be closed. Assumes nothing.
use mathlib.Core.Path.{sym, ap, ◌∙◌}
use native.Mathlib.Omega.{arith}
use Rattle.crews.specs.declared.Filling.{Filling}
use Rattle.crews.specs.Filling.{close_of}
use Rattle.crews.proofs.Laws.Steps.{shut, short}
use Rattle.crews.proofs.Filling.settled.Goals as goal

pub close-requires : goal.close-requires
unfolding close_of
close-requires c = let a = c.args in
    let e = ap (λ (g : Filling). g.closed) (shut a.task a.least a.self (sym c.closes.ensures ∙ c.if-closes.true)) in
    omega (arith, e, c.requires)

pub returns-then-closes : goal.returns-then-closes
returns-then-closes c = let a = c.args in
    c.close.ensures
    ∙ sym (shut a.task a.least a.self (sym c.closes.ensures ∙ c.if-closes.true))

pub returns-else-closes : goal.returns-else-closes
returns-else-closes c = let a = c.args in
    sym (short a.task a.least a.self (sym c.closes.ensures ∙ c.if-closes.false))
