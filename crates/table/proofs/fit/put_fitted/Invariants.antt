-- The loop's invariant: what is left to be written is what the cells that are left come to. Assumes nothing.
use Rattle.std.proofs.Common.{◌+◌, ◌-◌, ◌≤◌, [], ◌∷◌, ◌++◌, length}
use Rattle.text.specs.Text.{newline}
use Rattle.text.specs.Laws.Appends.{SoFar}
use Rattle.table.specs.Understood.{fitted}
use Rattle.table.specs.Laws.Fits.{cells_from}
use Rattle.table.proofs.fit.put_fitted.Given as goal

abbrev pub invariant-loop-above : goal.invariant-loop-above
invariant-loop-above l = (l.h ≤ length l.heading) × (l.c ≤ length l.line) × SoFar (fitted l.heading l.line ++ (newline ∷ [])) (cells_from l.heading l.h l.line l.c l.begun ++ (newline ∷ [])) l.initial.out l.at l.out l.next

abbrev pub decreases-loop-above : goal.decreases-loop-above
decreases-loop-above l = (length l.heading - l.h) + (length l.line - l.c)
