-- The loop's invariant, for every table that what is lent is of: what is to be answered is what the sizes from `size` on come to at `units`.
-- Assumes nothing.
use mathlib.Core.Path.{◌≡◌}
use Prim.Native.Nat.{◌+◌, ◌-◌, ◌≤◌}
use Rattle.absences.specs.Inner.Walk.{Over, walked_by}
use Rattle.absences.specs.Tried.{sizes_from, sizes_to}
use Rattle.absences.proofs.Search.by_size.Given as goal

abbrev pub invariant-loop-size : goal.invariant-loop-size
invariant-loop-size l = (l.units ≤ l.self.wanted.allowance)
    × ((of : Over l.self) → walked_by of.table of.edition l.self l.spent (sizes_to of.way of.table l.self.wanted.task l.most)
    ≡ walked_by of.table of.edition l.self l.units (sizes_from of.way of.table l.self.wanted.task ((l.most + 1) - l.size) l.size))
