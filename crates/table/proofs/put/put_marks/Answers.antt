-- The loop's invariant says which marks are left: those of what is left of the set. Assumes nothing.
use Rattle.text.specs.Laws.Appends.{step, with_rest, finish}
use Rattle.table.proofs.Puts.{marks_step, marks_last}
use Rattle.table.proofs.put.put_marks.Goals as goal

pub loop-i-preserved : goal.loop-i-preserved
loop-i-preserved c = let l = c.loop-i in
    let a = c.args in
    step _ (with_rest (marks_step a.listed l.i l.left c.loop-i-test.true) l.invariant) c.put_mark-next.ensures

pub returns : goal.returns
returns c = let l = c.loop-i in
    let a = c.args in
    finish (with_rest (marks_last a.listed l.i l.left c.loop-i-test.false) l.invariant)
