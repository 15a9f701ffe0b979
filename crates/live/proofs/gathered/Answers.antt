-- The rows passed are gathered, and the places to come are those of `rest`. Assumes nothing.
use mathlib.Core.Logic.{◌≢◌}
use Prim.Native.Nat.{◌<◌}
use native.Mathlib.Omega.{arith}
use Rattle.live.specs.Laws.Gathering.{ascending, gathers, here, index_below, goes_on, some_come, gathered_full}
use Rattle.live.proofs.gathered.Goals as goal
use Rattle.live.proofs.gathered.Goals.{After-least-place}

-- a row's turn: a place is left, and it is below 64
some : (c : After-least-place) → c.loop-row.rest ≢ 0
some c = some_come 0 _ _ _ ascending _ _ _ _ c.loop-row.invariant (omega (arith, c.size-row-end.ensures))

below : (c : After-least-place) → c.least-place.result < 64
below c = (here 0 _ _ _ ascending _ _ _ _ _ c.loop-row.invariant (some c) c.least-place.ensures).0

pub loop-row-init : goal.loop-row-init
loop-row-init c = gathers 0 _ _ _ ascending _ c.ranges.occupied.fits

pub bounds-next-row : goal.bounds-next-row
bounds-next-row c = let k = (goal.at.bounds-next-row c).After-least-place in
    index_below 0 _ _ _ ascending _ _ _ _ _ k.loop-row.invariant (some k) k.least-place.ensures

pub bounds-from-place : goal.bounds-from-place
bounds-from-place c = below (goal.at.bounds-from-place c).After-least-place

pub overflow_shl-rest : goal.overflow_shl-rest
overflow_shl-rest c = below (goal.at.overflow_shl-rest c).After-least-place

pub loop-row-preserved : goal.loop-row-preserved
loop-row-preserved c = let k = (goal.at.loop-row-preserved c).After-least-place in
    goes_on 0 _ _ _ ascending _ _ _ _ _ k.loop-row.invariant (some k) k.least-place.ensures

pub returns : goal.returns
returns c = gathered_full 0 _ _ _ ascending _ _ _ _ c.loop-row.invariant (omega (arith, c.size-row-end.ensures))
