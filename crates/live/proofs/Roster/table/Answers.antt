-- There are as many rows as places are occupied. Assumes nothing.
use native.Mathlib.Omega.{arith}
use Rattle.sets.proofs.Laws.Members.{length-members}
use Rattle.live.specs.Changes.{table_of}
use Rattle.live.proofs.Roster.table.Goals as goal

pub returns : goal.returns
unfolding table_of
returns c = let a = c.args in
    rw c.gathered.ensures (rw c.size.ensures (rw (length-members 64 a.self.occupied (omega arith))))
