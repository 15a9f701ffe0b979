-- One case for a permission above 31, and one for each place that `place_of` can give. Assumes nothing.
use mathlib.Core.Path.{sym, ◌∙◌}
use native.Mathlib.Omega.{arith}
use Rattle.live.specs.Changes.{standing}
use Rattle.live.specs.Laws.First.{from_below}
use Rattle.live.proofs.Roster.changed.Goals as goal

pub turned-requires : goal.turned-requires
turned-requires c = let a = c.args in (
  from_below (standing a.self.occupied a.self.staff a.number) 64 0 _ (sym c.place_of.ensures ∙ c.in-Some.is),
  omega (arith, c.if-permission-gt31.false),
)
