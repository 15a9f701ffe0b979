-- The measure is twice the number of free rows, less one where a row is about to be placed: it falls with each call. The loop of `try_each`
-- keeps `Going`.
use Prim.Native.Nat.{◌-◌, ◌*◌}
use lib.Count.{ones}
use Rattle.crews.proofs.Turns as turn
use Rattle.crews.proofs.Wanted.+go_on_try_each.Given as goal

abbrev pub decreases-go_on : goal.decreases-go_on
decreases-go_on l = 2 * ones l.before.free - 1

abbrev pub decreases-try_each : goal.decreases-try_each
decreases-try_each l = 2 * ones l.placed.free

abbrev pub invariant-try_each-loop-row : goal.invariant-try_each-loop-row
invariant-try_each-loop-row l =
    turn.Going
    (record {
      holds = l.self.holds;
      holders = l.self.holders;
      task = l.self.task;
      crews = l.self.crews;
      size = l.self.size;
      least = l.self.least;
      state = l.f;
      spent = l.spent;
      allowance = l.self.allowance;
    })
    l.row-iterator.left
    l.units
