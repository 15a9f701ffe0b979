-- The loop's invariant: no mark stands between the beginning and the place. Assumes nothing.
use Rattle.std.proofs.Common.{◌≡◌, ℕ, length, subst, arith}
use Rattle.text.specs.Cut.{Lacks}
use Rattle.table.specs.Inner.Fitting.{between}
use Rattle.table.specs.Laws.Cuts.{lacks_more, piece_marked, piece_last}
use Rattle.table.proofs.fit.piece.Goals as goal

pub returns-then-text-end : goal.returns-then-text-end
returns-then-text-end c =
    piece_marked _ _ _ _ (omega arith) c.loop-end-test.true c.loop-end.invariant c.if-text-end.true

pub loop-end-preserved : goal.loop-end-preserved
loop-end-preserved c = let l = c.loop-end in
    let a = c.args in
    lacks_more a.text.now a.at l.end a.mark (omega arith) c.loop-end-test.true l.invariant c.if-text-end.false

pub returns : goal.returns
returns c = let l = c.loop-end in
    let text = c.args.text.now in
    let e : l.end ≡ length text = omega (arith, l.auto.end-end c.requires) in
    piece_last _ _ _ _ c.requires (omega arith) (subst (λ (n : ℕ). Lacks c.args.mark (between c.args.at n text)) e l.invariant)
