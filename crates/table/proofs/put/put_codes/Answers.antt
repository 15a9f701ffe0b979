-- The loop puts one code after the other. Assumes nothing.
use Rattle.std.proofs.Common.{ℕ, ◌∷◌, ap}
use Rattle.text.specs.Text.{comma, decimal}
use Rattle.text.specs.Laws.Appends.{step, with_rest, finish, read_as}
use Rattle.values.specs.Laws.Order.{order_next, order_last}
use Rattle.table.proofs.put.put_codes.Invariants.{entry}
use Rattle.table.proofs.put.put_codes.Goals as goal

pub loop-i-preserved : goal.loop-i-preserved
loop-i-preserved c = let l = c.loop-i in
    let a = c.args in
    step _ (with_rest (order_next (entry a.contents.now) l.i a.contents.now.code_count c.loop-i-test.true) l.invariant)
    (read_as (ap (λ (n : ℕ). comma ∷ decimal n) c.code_in.ensures) c.number-next.ensures)

pub returns : goal.returns
returns c = let l = c.loop-i in
    let a = c.args in
    finish (with_rest (order_last (entry a.contents.now) l.i a.contents.now.code_count c.loop-i-test.false) l.invariant)
