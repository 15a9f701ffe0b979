-- The loop's invariant: the entries passed are sound. Assumes nothing.
use Rattle.std.specs.Prelude.{Ok}
use mathlib.Core.Path.{◌≡◌}
use Prim.Native.Nat.{ℕ, ◌<◌}
use Rattle.values.specs.Inner.Looks.{look_at}
use Rattle.values.proofs.Values.look_values.Given as goal

abbrev pub invariant-loop-i : goal.invariant-loop-i
invariant-loop-i l = (j : ℕ) → j < l.i → look_at l.self l.section j ≡ Ok tt
