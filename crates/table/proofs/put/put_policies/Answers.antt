-- The loop puts one policy after the other. Assumes nothing.
use Rattle.std.proofs.Common.{ap}
use Rattle.roster.specs.declared.Policy.{Policy}
use Rattle.table.specs.Table.{policy_cells}
use Rattle.table.specs.Inner.Puts.{line}
use Rattle.text.specs.Laws.Appends.{step, with_rest, finish, read_as}
use Rattle.values.specs.Laws.Order.{order_next, order_last}
use Rattle.table.proofs.put.put_policies.Invariants.{entry}
use Rattle.table.proofs.put.put_policies.Goals as goal

pub loop-i-preserved : goal.loop-i-preserved
loop-i-preserved c = let l = c.loop-i in
    let a = c.args in
    step _ (with_rest (order_next (entry a.editions a.contents.now) l.i a.contents.now.policy_count c.loop-i-test.true) l.invariant)
    (read_as (ap (λ (p : Policy). line (policy_cells a.editions a.contents.now.code_count p)) c.policy_in.ensures) c.put_policy-next.ensures)

pub returns : goal.returns
returns c = let l = c.loop-i in
    let a = c.args in
    finish (with_rest (order_last (entry a.editions a.contents.now) l.i a.contents.now.policy_count c.loop-i-test.false) l.invariant)
