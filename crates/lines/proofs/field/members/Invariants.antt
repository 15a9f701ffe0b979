-- What is to be written is what the members still to come are written as. Assumes nothing.
use Rattle.text.specs.Text.{marked}
use Rattle.lines.specs.Lines.{names, between_members}
use Rattle.text.specs.Laws.Appends.{SoFar}
use Rattle.lines.proofs.field.members.Given as goal

abbrev pub invariant-loop-row : goal.invariant-loop-row
invariant-loop-row l =
    SoFar (marked l.mark between_members (names l.numbers l.set)) (marked l.before between_members (names l.numbers l.row-iterator.left)) l.initial.out l.at l.out l.next
