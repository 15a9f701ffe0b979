-- By whether the crew can be closed. Assumes nothing.
use mathlib.Core.Path.{sym, ap, ◌∙◌}
use lib.Dec.{leb}
use Rattle.crews.proofs.Laws.Steps.{covering, lacking}
use Rattle.crews.proofs.Filling.stuck.Goals as goal

pub returns-then-closes : goal.returns-then-closes
returns-then-closes c = let a = c.args in
    sym (covering a.task a.least a.self a.size (sym c.closes.ensures ∙ c.if-closes.true))

pub returns : goal.returns
returns c = let a = c.args in
    ap (leb a.size) c.size.ensures
    ∙ sym (lacking a.task a.least a.self a.size (sym c.closes.ensures ∙ c.if-closes.false))
