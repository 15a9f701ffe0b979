-- The loop writes one crew after its mark and stops at the first that is empty. Assumes nothing.
use mathlib.Core.Path.{sym, ap}
use native.Mathlib.Numerals.{add-one}
use Rattle.lines.specs.Lines.{between_crews}
use Rattle.text.specs.Laws.Appends.{step, with_rest, finish}
use Rattle.lines.proofs.Walk.{crews_from, crew_next, crew_stop, crew_last}
use Rattle.lines.proofs.field.crews.Goals as goal

pub returns-then-crew-eq0 : goal.returns-then-crew-eq0
returns-then-crew-eq0 c = let l = c.loop-crew in
    let a = c.args in
    finish (with_rest (crew_stop a.numbers.now a.sets.now l.before l.crew-index c.loop-crew-test.true c.if-crew-eq0.true) l.invariant)

pub loop-crew-preserved : goal.loop-crew-preserved
loop-crew-preserved c = let l = c.loop-crew in
    let a = c.args in
    let next = crew_next a.numbers.now a.sets.now l.before l.crew-index c.loop-crew-test.true (c.type_inv.sets l.crew-index).fits c.if-crew-eq0.false in
    with_rest (ap (crews_from a.numbers.now a.sets.now between_crews) (sym (add-one l.crew-index))) (step _ (with_rest next l.invariant) c.members-next.ensures)

pub returns : goal.returns
returns c = let l = c.loop-crew in
    let a = c.args in
    finish (with_rest (crew_last a.numbers.now a.sets.now l.before l.crew-index c.loop-crew-test.false) l.invariant)
