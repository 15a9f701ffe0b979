-- The loop's invariant says which marks are left: those of what is left of the set. Assumes nothing.
use Rattle.std.proofs.Common.{◌-◌}
use Rattle.text.specs.Laws.Appends.{SoFar}
use Rattle.table.specs.Table.{marks}
use Rattle.table.specs.Inner.Puts.{further}
use Rattle.table.proofs.put.put_marks.Given as goal

abbrev pub invariant-loop-i : goal.invariant-loop-i
invariant-loop-i l = SoFar (further (marks l.listed l.set)) (further (marks (l.listed - l.i) l.left)) l.initial.out l.at l.out l.next
