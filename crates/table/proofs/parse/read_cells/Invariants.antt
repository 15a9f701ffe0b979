-- Each turn takes a cell of a line that has one left.
use Rattle.std.proofs.Common.{◌+◌, ◌-◌, ◌≤◌, length}
use Rattle.table.proofs.parse.read_cells.Given as goal

abbrev pub invariant-loop-above : goal.invariant-loop-above
invariant-loop-above l = (l.h ≤ length l.heading) × (l.c ≤ length l.line)

abbrev pub decreases-loop-above : goal.decreases-loop-above
decreases-loop-above l = (length l.heading - l.h) + (length l.line - l.c)
