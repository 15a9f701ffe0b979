-- The rows passed are gathered, and the places to come are those of `rest`. Assumes nothing.
use Rattle.sets.specs.Arrays.{at}
use Rattle.live.specs.Laws.Gathering.{Gathered, ascending}
use Rattle.live.proofs.gathered.Given as goal

abbrev pub invariant-loop-row : goal.invariant-loop-row
invariant-loop-row l = Gathered 0 (at l.from) _ _ ascending l.occupied l.row l.rest l.next
