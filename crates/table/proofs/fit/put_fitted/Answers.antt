-- The loop's invariant: what is left to be written is what the cells that are left come to. Assumes nothing.
use Rattle.std.proofs.Common.{ℕ, List, [], ◌∷◌, ◌++◌, sym, refl, ap, arith}
use Rattle.text.specs.Text.{newline}
use Rattle.text.specs.Laws.Appends.{begin, step, with_rest, read_as, ◌then◌}
use Rattle.table.specs.Laws.Fits.{cells_begin, cells_end}
use Rattle.table.proofs.Lines.{turn}
use Rattle.table.proofs.fit.put_fitted.Goals as goal

pub loop-above-init : goal.loop-above-init
loop-above-init c = let a = c.args in
    (omega arith, omega arith, with_rest (sym (ap (λ (l : List ℕ). l ++ (newline ∷ [])) (cells_begin a.heading.now a.line.now))) (begin _ _ _))

pub returns : goal.returns
returns c = let l = c.loop-above in
    let a = c.args in
    let none = c.is_over.ensures.ends c.loop-above-test.false in
    let p = with_rest (ap (λ (k : List ℕ). k ++ (newline ∷ [])) (cells_end a.heading.now a.line.now l.h l.c l.begun (omega arith) (omega arith))) l.invariant.2 in
    read_as p.split (p.so then c.put_end.ensures)

pub loop-above-preserved : goal.loop-above-preserved
loop-above-preserved c = let l = c.loop-above in
    let a = c.args in
    let is = c.piece-above.ensures in
    let its = c.piece-under.ensures in
    let e = turn a.heading.now a.line.now l.h l.c l.begun c.stays-kept.result _ c.piece-above.result c.piece-under.result _ _ is its c.between.ensures c.between-cell.ensures c.stays-kept.ensures refl in
    (is.within, its.within, step _ (with_rest e l.invariant.2) c.put_cell-next.ensures)
