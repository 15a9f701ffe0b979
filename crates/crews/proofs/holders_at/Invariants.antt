-- After each row the set is that of the rows so far that hold the permission. Assumes nothing.
use mathlib.Core.Path.{◌≡◌}
use mathlib.Core.Bool.{Bool}
use mathlib.Core.List.{List}
use Prim.Native.Nat.{ℕ, ◌≤◌}
use Rattle.sets.specs.Members.{hasb, set_of}
use Rattle.sets.specs.Arrays.{at}
use Rattle.crews.proofs.holders_at.Given as goal

-- whether the row holds it
abbrev pub holding : List ℕ → ℕ → ℕ → Bool
holding holds p u = hasb (at holds u) p

abbrev pub invariant-loop-row : goal.invariant-loop-row
invariant-loop-row l = (l.row ≤ 64) × (l.set ≡ set_of l.row (holding l.holds l.permission))
