-- As the policy with nobody away is refused, and then for the absence's own rows (`named-after_policy`). Assumes nothing.
use Rattle.std.specs.Prelude.{Err, Ok, Result}
use mathlib.Core.Path.{◌≡◌, sym, ap, ◌∙◌}
use mathlib.Core.Bool.{Bool}
use Prim.Native.Nat.{ℕ, ◌^◌}
use lib.Dec.{leb}
use borrow.Author.Rules.{rules}
use Rattle.roster.specs.declared.Refusal.{Refusal}
use Rattle.roster.specs.declared.Refusal.TheVariants.{Absence}
use Rattle.roster.specs.Refusals.{refused_if, policy_ruling, named_ruling}
use Rattle.roster.proofs.Laws.Rulings.{or_else, named-after_policy}
use Rattle.roster.proofs.named_ruling.Goals as goal

-- what is refused, once the policy's own ruling is known
by_policy : (rows P d t ed A : ℕ) {r : Result Unit Refusal} → policy_ruling rows P 0 d t ed ≡ r
    → or_else r (refused_if (leb (2 ^ rows) A) Absence (Ok tt)) ≡ named_ruling rows P d t ed A
by_policy rows P d t ed A e =
    sym (named-after_policy rows P d t ed A ∙ ap (λ (r : Result Unit Refusal). or_else r (refused_if (leb (2 ^ rows) A) Absence (Ok tt))) e)

pub returns-in_err-first_fault : goal.returns-in_err-first_fault
returns-in_err-first_fault c = let a = c.args in
    let same : c.from_residual.result ≡ Err c.in_err-first_fault.field-0.0 = search rules in
    same ∙ by_policy a.rows a.policy.task a.policy.crews a.policy.size a.policy.edition a.absent (sym c.first_fault.ensures ∙ c.in_err-first_fault.was)

pub returns-then-past_rows : goal.returns-then-past_rows
returns-then-past_rows c = let a = c.args in
    ap (λ (b : Bool). refused_if b Absence (Ok tt)) (sym c.if-past_rows.true ∙ c.past_rows.ensures)
    ∙ by_policy a.rows a.policy.task a.policy.crews a.policy.size a.policy.edition a.absent ((sym c.first_fault.ensures) ∙ c.in_ok-first_fault.was)

pub returns : goal.returns
returns c = let a = c.args in
    ap (λ (b : Bool). refused_if b Absence (Ok tt)) (sym c.if-past_rows.false ∙ c.past_rows.ensures)
    ∙ by_policy a.rows a.policy.task a.policy.crews a.policy.size a.policy.edition a.absent ((sym c.first_fault.ensures) ∙ c.in_ok-first_fault.was)
