-- The loop writes one crew after its mark and stops at the first that is empty. Assumes nothing.
use mathlib.Core.List.{map}
use Rattle.text.specs.Text.{marked}
use Rattle.lines.specs.Lines.{set_text, filled, between_crews}
use Rattle.text.specs.Laws.Appends.{SoFar}
use Rattle.lines.proofs.Walk.{crews_from}
use Rattle.lines.proofs.field.crews.Given as goal

abbrev pub invariant-loop-crew : goal.invariant-loop-crew
invariant-loop-crew l = SoFar (marked l.mark between_crews (map (set_text l.numbers) (filled l.sets))) (crews_from l.numbers l.sets l.before l.crew-index) l.initial.out l.at l.out l.next
