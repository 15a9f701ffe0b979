-- The plain text stands whole in its buffer, and what is made of it is the reply. Assumes nothing.
use Rattle.std.proofs.Common.{◌<◌, ◌≤◌, length, arith}
use Rattle.values.specs.Writing.{longest}
use Rattle.table.specs.Understood.{understood}
use Rattle.table.specs.Making.{enough}
use Rattle.table.proofs.Made.{all_fit, retold}
use Rattle.table.proofs.make.Goals as goal
use Rattle.table.proofs.make.Goals.{Else-out-lt-LONGEST, Else-text-ge-ENOUGH}

-- the buffer is long enough, and the table is not too long: what the tests before showed, without what is in the buffers
not_short : (c : Else-out-lt-LONGEST) → length c.args.out.now < longest → ⊥
not_short c h = omega (arith, c.if-out-lt-LONGEST.false)

not_long : (c : Else-text-ge-ENOUGH) → enough ≤ length c.args.text.now → ⊥
not_long c h = omega (arith, c.if-text-ge-ENOUGH.false)

pub returns-clause-made : goal.returns-clause-made
unfolding understood
returns-clause-made c = record {
  short = λ h. absurd (not_short (goal.at.returns-clause-made c).Else-out-lt-LONGEST h);
  too_long = λ h k. absurd (not_long (goal.at.returns-clause-made c).Else-text-ge-ENOUGH k);
  makes = λ h. retold (all_fit _ _ _ _ c.put_plain-length.ensures.put 65537 c.plain-2-1.given c.if-length-ge-ENOUGH.false) c.made_of.ensures;
}
