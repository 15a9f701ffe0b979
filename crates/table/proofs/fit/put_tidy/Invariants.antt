-- The loop's invariant: what is left to be written is what the lines that are left come to. Assumes nothing.
use Rattle.std.proofs.Common.{◌-◌, ◌≤◌, length, drop}
use Rattle.text.specs.Text.{newline}
use Rattle.text.specs.Laws.Appends.{SoFar}
use Rattle.table.specs.Understood.{cut, tidy}
use Rattle.table.specs.Inner.Fitting.{HeadingIn, rest_at}
use Rattle.table.proofs.fit.put_tidy.Given as goal

abbrev pub invariant-loop-i : goal.invariant-loop-i
invariant-loop-i l = (l.i ≤ length l.text) × HeadingIn l.turn.heading l.text × SoFar (tidy l.text) (rest_at l.text l.turn (cut newline (drop l.i l.text))) l.initial.out 0 l.out l.turn.next

abbrev pub decreases-loop-i : goal.decreases-loop-i
decreases-loop-i l = length l.text - l.i
