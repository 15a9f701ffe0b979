-- No place passed is the number's. Assumes nothing.
use Rattle.std.specs.Prelude.{◌≡◌, false, ℕ, ◌<◌}
use Rattle.live.specs.Changes.{standing}
use Rattle.live.proofs.Roster.place_of.Given as goal

abbrev pub invariant-loop-place : goal.invariant-loop-place
invariant-loop-place l = (j : ℕ) → j < l.place → standing l.self.occupied l.self.staff l.number j ≡ false
