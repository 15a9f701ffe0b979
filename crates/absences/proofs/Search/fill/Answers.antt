-- Filling from what is lent is the definition's filling with these rows absent. Assumes nothing.
use mathlib.Core.Path.{refl, ap, ◌∙◌}
use Rattle.crews.specs.Filled.{filled_of}
use Rattle.absences.proofs.Absent.{fills}
use Rattle.absences.proofs.Search.fill.Goals as goal

pub returns : goal.returns
returns c of = let s = c.args.self.now in
    c.fill.ensures.value ∙ ap (filled_of s.wanted.allowance c.args.spent) (fills of.table of.edition s of.lent _ c.args.absent refl)
