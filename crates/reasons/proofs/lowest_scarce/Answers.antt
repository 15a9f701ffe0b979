-- No permission passed is scarce. Assumes nothing.
use mathlib.Core.Path.{sym, ap, ◌∙◌}
use native.Mathlib.Omega.{arith}
use Rattle.accounts.specs.Laws.First.{first_is}
use Rattle.reasons.specs.Inner.{permission_of}
use Rattle.reasons.proofs.Permissions.{is_permission}
use Rattle.reasons.proofs.lowest_scarce.Invariants.{test}
use Rattle.reasons.proofs.lowest_scarce.Goals as goal

pub returns-then-scarce : goal.returns-then-scarce
returns-then-scarce c = let s = c.args in
    let l = c.loop-permission in
    sym (is_permission l.permission c.loop-permission-test.true)
    ∙ ap permission_of
    (sym (first_is (test s.holders.now s.task s.crews s.free) 32 l.permission (omega arith) l.invariant (λ k. sym c.scarce.ensures ∙ c.if-scarce.true)))

pub returns : goal.returns
returns c = let s = c.args in
    let l = c.loop-permission in
    ap permission_of
    (sym (first_is (test s.holders.now s.task s.crews s.free) 32 32 (omega arith) (λ i k. l.invariant i (omega (arith, c.loop-permission-test.false))) (λ k. absurd (omega arith))))
