-- The loop puts one row after the other. Assumes nothing.
use Rattle.std.proofs.Common.{ap}
use Rattle.book.specs.declared.Row.{Row}
use Rattle.table.specs.Table.{row_cells}
use Rattle.table.specs.Inner.Puts.{line}
use Rattle.text.specs.Laws.Appends.{step, with_rest, finish, read_as}
use Rattle.values.specs.Laws.Order.{order_next, order_last}
use Rattle.table.proofs.put.put_rows.Invariants.{entry}
use Rattle.table.proofs.put.put_rows.Goals as goal

pub loop-i-preserved : goal.loop-i-preserved
loop-i-preserved c = let l = c.loop-i in
    let a = c.args in
    step _ (with_rest (order_next (entry a.persons a.contents.now) l.i a.contents.now.row_count c.loop-i-test.true) l.invariant)
    (read_as (ap (λ (row : Row). line (row_cells a.persons a.contents.now.code_count row)) c.row_in.ensures) c.put_row-next.ensures)

pub returns : goal.returns
returns c = let l = c.loop-i in
    let a = c.args in
    finish (with_rest (order_last (entry a.persons a.contents.now) l.i a.contents.now.row_count c.loop-i-test.false) l.invariant)
