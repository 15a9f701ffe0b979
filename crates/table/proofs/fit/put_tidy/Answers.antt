-- The loop's invariant: what is left to be written is what the lines that are left come to. Assumes nothing.
use Rattle.std.proofs.Common.{ap, ◌∙◌, arith}
use Rattle.text.specs.Text.{newline}
use Rattle.text.specs.Laws.Appends.{begin, step, with_rest, finish}
use Rattle.table.specs.Understood.{tidy}
use Rattle.table.specs.Inner.Fitting.{rest_at}
use Rattle.table.specs.Laws.Cuts.{cut_next}
use Rattle.table.proofs.Lines.{rest_none}
use Rattle.table.proofs.fit.put_tidy.Goals as goal

pub loop-i-init : goal.loop-i-init
unfolding tidy
loop-i-init c = (omega arith, tt, begin _ _ _)

pub loop-i-preserved : goal.loop-i-preserved
loop-i-preserved c = let l = c.loop-i in
    let q = c.piece-line.ensures in
    let e = cut_next _ l.i newline c.piece-line.result c.loop-i-test.true q in
    let r = c.take_line-turn.ensures in
    (q.within, r.heading, step r.bytes (with_rest (ap (rest_at _ l.turn) e ∙ r.rest _) l.invariant.2) r.put)

pub returns : goal.returns
returns c = let l = c.loop-i in
    finish (with_rest (rest_none _ l.turn l.i c.loop-i-test.false) l.invariant.2)
