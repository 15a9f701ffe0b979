-- After each row the arrays are those of the persons of the rows so far (`Merging`). Assumes nothing.
use Rattle.sets.specs.Arrays.{at}
use Rattle.accounts.proofs.Laws.Merging.{Merging}
use Rattle.accounts.proofs.merged.Given as goal

abbrev pub invariant-loop-row : goal.invariant-loop-row
invariant-loop-row l = Merging (at l.accounts.persons) (at l.accounts.holdings) l.row l.held l.numbers l.count
