-- The permissions passed have their holders. Assumes nothing.
use Rattle.crews.specs.Filling.{holders_of}
use Rattle.sets.specs.Arrays.{at}
use Rattle.sets.specs.Laws.Arrays.{Passed}
use Rattle.crews.proofs.holders_of.Given as goal

abbrev pub invariant-loop-permission : goal.invariant-loop-permission
invariant-loop-permission l = Passed 0 32 (holders_of (at l.holds)) l.permission l.holders
