-- What the fields at the policy's place make. Assumes nothing.
use mathlib.Core.Path.{◌≡◌, sym, ap, ◌∙◌}
use native.Mathlib.Omega.{arith}
use Rattle.book.specs.Reading.{policies_of, width}
use Rattle.book.specs.Parts.{place_of, policy_place}
use Rattle.book.specs.declared.Form.{Form}
use Rattle.book.specs.Laws.Places.{place_within}
use Rattle.book.proofs.policy_in.Goals as goal
use Rattle.book.proofs.policy_in.Goals.{After-place_of}

-- where the policy stands, by the width of policies
stood : (c : After-place_of) → let a = c.args in c.place_of.result ≡ policy_place a.book.now a.start a.i
stood c = let a = c.args in
    let by : c.place_of.result ≡ place_of (width (policies_of c.form_of-form.result)) a.book.now a.start a.i = c.place_of.ensures in
    by ∙ ap (λ (f : Form). place_of (width (policies_of f)) a.book.now a.start a.i) c.form_of-form.ensures.reply

pub policy_from-requires : goal.policy_from-requires
policy_from-requires c = let a = c.args in
    let wide = ap (λ (f : Form). width (policies_of f)) c.form_of-form.ensures.reply in
    let h = place_within _ a.book.now a.start a.i (sym (stood (goal.at.policy_from-requires c).After-place_of) ∙ c.in_ok-at.was) in
    omega arith
