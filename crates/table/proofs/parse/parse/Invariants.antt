-- The loop ends: a turn for each line that is left.
use Rattle.std.proofs.Common.{◌-◌, ◌≤◌, length}
use Rattle.table.proofs.parse.parse.Given as goal

abbrev pub invariant-loop-i : goal.invariant-loop-i
invariant-loop-i l = l.i ≤ length l.text

abbrev pub decreases-loop-i : goal.decreases-loop-i
decreases-loop-i l = length l.text - l.i
