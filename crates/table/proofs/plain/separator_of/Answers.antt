-- The loop's invariant: the separator is that of the bytes that are left. Assumes nothing.
use Rattle.std.proofs.Common.{sym, ◌∙◌}
use Rattle.table.proofs.Bytes.{separator_here, separator_on, separator_none}
use Rattle.table.proofs.plain.separator_of.Goals as goal

pub returns-then-parting : goal.returns-then-parting
returns-then-parting c = let l = c.loop-i in
    sym (l.invariant ∙ separator_here _ l.quoted l.i c.loop-i-test.true c.parting.ensures c.if-parting.true)

pub loop-i-preserved : goal.loop-i-preserved
loop-i-preserved c = let l = c.loop-i in
    l.invariant ∙ separator_on _ l.quoted l.i c.loop-i-test.true c.parting.ensures c.if-parting.false c.turned-quoted.ensures

pub returns : goal.returns
returns c = let l = c.loop-i in
    sym (l.invariant ∙ separator_none _ l.quoted l.i c.loop-i-test.false)
