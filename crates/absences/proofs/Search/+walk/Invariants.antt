-- The loop's invariant, for every table that what is lent is of: the ranks are open as `ranks` says, and what is to be answered is what the
-- absences from there on come to at `units`. The measure of the recursion is how many rows are wanted, that of the loop how many ranks are open.
use mathlib.Core.Path.{◌≡◌}
use Prim.Native.Nat.{ℕ, ◌≤◌}
use lib.Count.{ones}
use Rattle.absences.specs.declared.Search.{Search}
use Rattle.absences.specs.Inner.Opens.{Opens}
use Rattle.absences.specs.Inner.Walk.{Over, walked_by, onward}
use Rattle.absences.proofs.Search.+walk.Given as goal

-- what stays to be shown where these ranks are open, for every table
abbrev pub Going : Search → ℕ → ℕ → ℕ → ℕ → ℕ → ℕ → Type 0
Going s absent begun wanted spent ranks units =
    (of : Over s) (next : ℕ) → Opens of.way of.table s.wanted.task next absent begun
    → (q : ℕ) × Opens of.way of.table s.wanted.task q absent ranks
    × (walked_by of.table of.edition s spent (onward of.way of.table s.wanted.task wanted next absent)
    ≡ walked_by of.table of.edition s units (onward of.way of.table s.wanted.task wanted q absent))

abbrev pub decreases-walk : goal.decreases-walk
decreases-walk l = l.wanted

abbrev pub invariant-loop-rank : goal.invariant-loop-rank
invariant-loop-rank l = (l.units ≤ l.self.wanted.allowance) × Going l.self l.absent l.begun l.wanted l.spent l.ranks l.units

abbrev pub decreases-loop-rank : goal.decreases-loop-rank
decreases-loop-rank l = ones l.ranks
