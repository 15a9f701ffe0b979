-- No permission passed is scarce. Assumes nothing.
use mathlib.Core.Path.{◌≡◌}
use mathlib.Core.Bool.{Bool, false}
use mathlib.Core.List.{List}
use Prim.Native.Nat.{ℕ, ◌<◌}
use lib.Bits.{bit_and}
use Rattle.sets.specs.Arrays.{at}
use Rattle.reasons.specs.Replied.{scarce_in}
use Rattle.reasons.proofs.lowest_scarce.Given as goal

-- what the code tests
abbrev pub test : List ℕ → ℕ → ℕ → ℕ → ℕ → Bool
test holders task crews free = scarce_in (λ p. bit_and (at holders p) free) task crews

abbrev pub invariant-loop-permission : goal.invariant-loop-permission
invariant-loop-permission l = (i : ℕ) → i < l.permission → test l.holders l.task l.crews l.free i ≡ false
