-- The permissions passed have their holders. Assumes nothing.
use mathlib.Core.Path.{refl}
use native.Mathlib.Omega.{arith}
use Rattle.crews.specs.Filling.{holders_of}
use Rattle.sets.specs.Arrays.{at}
use Rattle.sets.specs.Laws.Arrays.{passed_none, passed_all}
use Rattle.crews.proofs.holders_of.Goals as goal

pub loop-permission-init : goal.loop-permission-init
loop-permission-init c = passed_none 0 32 (holders_of (at c.args.holds.now))

pub returns : goal.returns
returns c = let l = c.loop-permission in
    record { value = passed_all 0 32 (holders_of (at c.args.holds.now)) l.permission l.holders l.invariant (omega arith); kept = refl }
