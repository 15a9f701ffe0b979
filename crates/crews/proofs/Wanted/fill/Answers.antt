-- An allowance overspent is undecided whatever the outcome; for no permission and past the limit nothing is looked for, and crews of no rows
-- are full at once; else the search begins, with a crew that lacks the whole task. Assumes nothing.
use mathlib.Core.Path.{sym, ap, ◌∙◌}
use Prim.Native.Nat.{◌≤◌}
use native.Mathlib.Omega.{arith}
use lib.Count.{ones}
use Rattle.sets.proofs.Sets.{ones_none}
use Rattle.crews.specs.declared.Filling.{Filling}
use Rattle.crews.specs.Filling.{begin}
use Rattle.crews.specs.Filling as definition
use Rattle.crews.specs.Filled.{filled_of, found_from, rule_of}
use Rattle.crews.specs.Inner.Placing.{closed_where}
use Rattle.crews.proofs.Laws.Search.{search-full}
use Rattle.crews.proofs.Laws.Steps.{filled-over, says_exhausted, begun_short, found_few, found-many, found-idle}
use Rattle.crews.proofs.Wanted.fill.Goals as goal
use Rattle.crews.proofs.Wanted.fill.Goals.{else-size-eq0-via-else-size-eq0, else-size-eq0-via-then-size-eq0+else-crews-ne0}

pub returns-then-spent-allowance-clause-value : goal.returns-then-spent-allowance-clause-value
returns-then-spent-allowance-clause-value c = let s = c.args in
    let wanted = s.self.now in
    let w = rule_of wanted in
    c.without_crews.ensures ∙ sym (filled-over wanted.allowance s.spent (found_from w s.free) (omega (arith, c.if-spent-allowance.true)))

pub returns-then-task-eq0-clause-value : goal.returns-then-task-eq0-clause-value
returns-then-task-eq0-clause-value c = let s = c.args in
    let wanted = s.self.now in
    let w = rule_of wanted in
    c.without_crews-then-task-eq0.ensures
    ∙ says_exhausted wanted.allowance s.spent (found_from w s.free) (found-idle w s.free c.if-task-eq0.true) (omega (arith, c.if-spent-allowance.false))

pub returns-then-crews-gt-CREWS-clause-value : goal.returns-then-crews-gt-CREWS-clause-value
returns-then-crews-gt-CREWS-clause-value c = let s = c.args in
    let wanted = s.self.now in
    let w = rule_of wanted in
    c.without_crews-then-crews-gt-CREWS.ensures
    ∙ says_exhausted wanted.allowance s.spent (found_from w s.free) (found-many w s.free c.if-task-eq0.false c.if-crews-gt-CREWS.true)
    (omega (arith, c.if-spent-allowance.false))

pub returns-then-crews-ne0-clause-value : goal.returns-then-crews-ne0-clause-value
returns-then-crews-ne0-clause-value c = let s = c.args in
    let wanted = s.self.now in
    let w = rule_of wanted in
    let out : wanted.size ≤ ones 0 = omega (arith, c.if-size-eq0.true) in
    c.without_crews-then-crews-ne0.ensures
    ∙ says_exhausted wanted.allowance s.spent (found_from w s.free)
    (found_few w s.free c.if-task-eq0.false c.if-crews-gt-CREWS.false ∙ search-full w (begin s.free) _ (λ e. c.if-crews-ne0.true (sym e)) out)
    (omega (arith, c.if-spent-allowance.false))

pub try_each-requires : goal.try_each-requires
try_each-requires c = let s = c.args in
    let wanted = s.self.now in
    let short = begun_short wanted.task wanted.least s.free c.if-task-eq0.false in
    let e = ap (λ (f : Filling). f.closed) short in
    let k = ap (λ (f : Filling). ones f.crew) short in
    rw c.begin.ensures
    (record {
      few = c.if-crews-gt-CREWS.false;
      closed = omega (arith, e);
      room = λ n.
          elim c.else-size-eq0.branch [ else-size-eq0-via-then-size-eq0+else-crews-ne0 w ↦ absurd (n (e ∙ sym w.if-crews-ne0.false)) | else-size-eq0-via-else-size-eq0 w ↦ omega (arith, w.if-size-eq0.false, k, ones_none) ];
      within = c.if-spent-allowance.false;
    })

pub returns-clause-value : goal.returns-clause-value
returns-clause-value c = let s = c.args in
    let wanted = s.self.now in
    let w = rule_of wanted in
    let some = c.if-task-eq0.false in
    c.try_each.ensures
    ∙ ap (λ (f : Filling). filled_of wanted.allowance s.spent (definition.search (ones f.free) w (closed_where wanted.task wanted.least f))) c.begin.ensures
    ∙ ap (λ (f : Filling). filled_of wanted.allowance s.spent (definition.search (ones s.free) w f)) (begun_short wanted.task wanted.least s.free some)
    ∙ ap (filled_of wanted.allowance s.spent) (sym (found_few w s.free some c.if-crews-gt-CREWS.false))
