-- The arrays say who holds what, so the lowest scarce permission is the definition's (`lent_lowest`); where there is none the question for one crew,
-- which is decided, tells the other two reasons apart. Assumes nothing.
use mathlib.Core.Path.{◌≡◌, sym, ap, ◌∙◌, subst}
use Rattle.std.specs.Prelude.{None}
use Prim.Native.Nat.{◌^◌, ◌<◌}
use borrow.Author.Rules.{rules}
use Rattle.sets.specs.Sets.{below_within}
use Rattle.roster.proofs.Laws.Rulings.{named_within}
use Rattle.reasons.specs.Reasons.{Scarce, Lowest, NoneIs}
use Rattle.reasons.specs.Inner.{permission_of}
use Rattle.reasons.specs.Replied.{lowest_scarce}
use Rattle.reasons.proofs.Permissions.{permission_some, permission_none}
use Rattle.reasons.specs.Laws.Here.{lent_lowest}
use Rattle.reasons.specs.Laws.Lowest.{lowest_scarce_lem, none_scarce}
use Rattle.reasons.proofs.Laws.Reasons.{overlap_is, no_crew_is}
use Rattle.reasons.proofs.reason.Goals as goal
use Rattle.reasons.proofs.reason.Goals.{After-lowest_scarce, Start}

-- the task has 32 bits
narrow : (c : Start) → c.args.policy.task < 2 ^ 32
narrow c = search rules

-- the lowest scarce permission is the definition's
lowest : (c : After-lowest_scarce) → let s = c.args in c.lowest_scarce.result ≡ permission_of (lowest_scarce s.table s.policy.task s.policy.crews s.absent)
lowest c = let s = c.args in
    let k = named_within s.table.rows s.policy.task s.policy.crews s.policy.size s.policy.edition s.absent c.requires.admitted in
    let holds = c.holdings_within-holds in
    let holders = c.holders_of-holders in
    let all = c.below in
    c.lowest_scarce.ensures
    ∙ ap permission_of
    (lent_lowest s.table s.policy.task s.policy.crews s.absent k.0.rows (narrow (goal.at.After-lowest_scarce c).Start) k.1 holds.result holders.result all.result holds.ensures holders.ensures.value
    (all.ensures ∙ below_within 64 s.table.rows k.0.rows))

-- where there is none
none : (c : After-lowest_scarce) → c.lowest_scarce.result ≡ None → let s = c.args in NoneIs (Scarce s.table s.policy.task s.policy.crews s.absent)
none c e = let s = c.args in
    none_scarce s.table s.policy.task s.policy.crews s.absent (narrow (goal.at.After-lowest_scarce c).Start) (permission_none _ (sym e ∙ lowest c))

pub returns-in-Some : goal.returns-in-Some
returns-in-Some c = let s = c.args in
    let k = lowest (goal.at.returns-in-Some c).After-lowest_scarce in
    let e = permission_some _ _ (sym c.in-Some.is ∙ k) in
    subst (Lowest (Scarce s.table s.policy.task s.policy.crews s.absent)) (sym e.0)
    (lowest_scarce_lem s.table s.policy.task s.policy.crews s.absent e.1)

pub returns-in-Crews : goal.returns-in-Crews
returns-in-Crews c = let s = c.args in
    let one = c.ask_named-one in
    overlap_is s.table s.policy.task s.policy.crews s.policy.size s.policy.edition s.absent s.allowance (narrow (goal.at.returns-in-Crews c).Start) c.requires one.result one.ensures
    (none (goal.at.returns-in-Crews c).After-lowest_scarce c.in_default.is) c.in-Crews.is

pub returns-in_default-verdict : goal.returns-in_default-verdict
returns-in_default-verdict c = let s = c.args in
    let one = c.ask_named-one in
    no_crew_is s.table s.policy.task s.policy.crews s.policy.size s.policy.edition s.absent s.allowance (narrow (goal.at.returns-in_default-verdict c).Start) c.requires one.result one.ensures
    (none (goal.at.returns-in_default-verdict c).After-lowest_scarce c.in_default.is) c.in_default-verdict.not-Crews
