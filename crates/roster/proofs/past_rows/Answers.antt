-- No 64-bit set has a bit at 64 or past it; below, the shift leaves nothing exactly if the set is below 2 ^ rows. Assumes nothing.
use mathlib.Core.Path.{sym}
use Prim.Native.Nat.{◌≤◌}
use native.Mathlib.Nat.{lt_of_lt_of_le}
use native.Mathlib.Omega.{arith}
use lib.Pow.{pow_mono}
use borrow.Author.Tests.{lt-leb}
use Rattle.sets.specs.Laws.Tests.{shifted}
use Rattle.roster.proofs.past_rows.Goals as goal

pub returns-then-rows-ge-ROWS : goal.returns-then-rows-ge-ROWS
returns-then-rows-ge-ROWS c = let many : 64 ≤ c.args.rows = omega (arith, c.if-rows-ge-ROWS.true) in
    sym (lt-leb _ _ (lt_of_lt_of_le c.ranges.set.fits (pow_mono many)))

pub returns : goal.returns
returns c = shifted c.args.rows c.args.set
