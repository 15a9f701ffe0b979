-- Each test is the fault that it looks for, in their order; the policy's own faults are what its fields make, at the field that they speak of.
-- Assumes nothing.
use mathlib.Core.Path.{◌≡◌, sym, ap, ◌∙◌}
use Prim.Native.Nat.{ℕ, ◌+◌}
use lib.Dec.{ltb}
use lib.ListN.{length}
use Rattle.book.specs.Layout.{policy_widths, form_has_editions}
use Rattle.book.specs.Reading.{policies_of, width, entry_look, fields_at, past_listed, by_made, placed, refused}
use Rattle.book.specs.declared.Fault.TheVariants.{Short, Task, Policy}
use Rattle.book.specs.Laws.First.{amiss_here, past_amiss, faulty_at, past_fault}
use Rattle.book.proofs.Fields.{policy_field}
use Rattle.book.proofs.Reader.look_policy.Goals as goal
use Rattle.book.proofs.Reader.look_policy.Goals.{After-cut}

-- a policy is cut by its whole width
short : (c : After-cut) → let a = c.args in c.cut.result ≡ ltb (length a.self.bytes.now) (a.at + width (policies_of a.self.form))
short c = let a = c.args in
    c.cut.ensures ∙ ap (λ (w : ℕ). ltb (length a.self.bytes.now) (a.at + w)) c.policy_width.ensures

pub returns-then-cut : goal.returns-then-cut
unfolding entry_look
returns-then-cut c = faulty_at Short _ (short (goal.at.returns-then-cut c).After-cut) c.if-cut.true c.cut_policy.ensures

pub returns-then-past_listed : goal.returns-then-past_listed
unfolding entry_look fields_at
returns-then-past_listed c = let a = c.args in
    past_fault Short _ (short (goal.at.returns-then-past_listed c).After-cut) c.if-cut.false
    (ap (placed (policy_widths (form_has_editions a.self.form)) a.at)
    (amiss_here Task 0 _ (c.past_listed.ensures ∙ ap (past_listed _) c.four.ensures) c.if-past_listed.true))

pub returns-in-Err : goal.returns-in-Err
unfolding entry_look fields_at
returns-in-Err c = let a = c.args in
    past_fault Short _ (short (goal.at.returns-in-Err c).After-cut) c.if-cut.false
    (ap (refused (Policy c.in-Err.refusal)) (ap (λ (n : ℕ). a.at + n) c.policy_offset.ensures ∙ (policy_field (form_has_editions a.self.form) c.in-Err.refusal a.at).1)
    ∙ ap (placed (policy_widths (form_has_editions a.self.form)) a.at)
    (past_amiss Task 0 (c.past_listed.ensures ∙ ap (past_listed _) c.four.ensures) c.if-past_listed.false
    (ap by_made (sym c.in-Err.is ∙ c.policy_from.ensures))))

pub returns : goal.returns
unfolding entry_look fields_at
returns c = let a = c.args in
    past_fault Short _ (short (goal.at.returns c).After-cut) c.if-cut.false
    (ap (placed (policy_widths (form_has_editions a.self.form)) a.at)
    (past_amiss Task 0 (c.past_listed.ensures ∙ ap (past_listed _) c.four.ensures) c.if-past_listed.false
    (ap by_made (sym c.in_default.is ∙ c.policy_from.ensures))))
