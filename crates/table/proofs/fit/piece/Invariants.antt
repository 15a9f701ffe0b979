-- The loop's invariant: no mark stands between the beginning and the place. Assumes nothing.
use Rattle.text.specs.Cut.{Lacks}
use Rattle.table.specs.Inner.Fitting.{between}
use Rattle.table.proofs.fit.piece.Given as goal

abbrev pub invariant-loop-end : goal.invariant-loop-end
invariant-loop-end l = Lacks l.mark (between l.at l.end l.text)
