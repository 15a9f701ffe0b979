-- The sets passed are without the place, and the others are as they were. Assumes nothing.
use Rattle.std.specs.Prelude.{◌≡◌, ℕ, ◌≤◌, ◌<◌}
use Rattle.sets.specs.Sets.{less}
use Rattle.sets.specs.Arrays.{at}
use Rattle.live.proofs.cleared.Given as goal

abbrev pub invariant-loop-set : goal.invariant-loop-set
invariant-loop-set l = record {
  passed : (p : ℕ) → p < l.set-index → at l.set-items p ≡ less 64 (at l.fn.holders p) l.place;
  ahead : (p : ℕ) → l.set-index ≤ p → at l.set-items p ≡ at l.fn.holders p;
}
