-- What filling says of the rows that are left is what the definition says of the absence. Assumes nothing.
use mathlib.Core.Path.{◌∙◌}
use native.Mathlib.Omega.{arith}
use Rattle.absences.proofs.Absent.{absent_told, absent_spent}
use Rattle.absences.proofs.Search.try_absence.Goals as goal

pub returns-then-spent-self : goal.returns-then-spent-self
returns-then-spent-self c of = let s = c.args.self.now in
    absent_spent of.table s.wanted.task s.wanted.crews s.wanted.size of.edition _ _ c.args.absent (omega (arith, c.requires, c.if-spent-self.true))

pub returns : goal.returns
returns c of = let s = c.args.self.now in
    c.walked_by.ensures
    ∙ absent_told of.table s.wanted.task s.wanted.crews s.wanted.size of.edition s.wanted.allowance c.args.spent c.args.absent _ (c.fill.ensures of)
