-- The rows passed have their holdings within the task, and the others still 0. Assumes nothing.
use Rattle.crews.specs.Filling.{holds_of}
use Rattle.sets.specs.Laws.Arrays.{Passed}
use Rattle.crews.proofs.holdings_within.Given as goal

abbrev pub invariant-loop-row : goal.invariant-loop-row
invariant-loop-row l = Passed 0 64 (holds_of (record { holdings = l.holdings; rows = l.rows }) l.task) l.row l.within
