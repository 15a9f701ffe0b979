-- What the named question's verdict tells of accounts (`named-told`) is the kind of the question, and its reply is that of the kind. Assumes nothing.
use mathlib.Core.Path.{◌≡◌, ap, subst}
use Prim.Native.Nat.{ℕ, ◌^◌, ◌<◌}
use native.Mathlib.Omega.{arith}
use borrow.Author.Rules.{rules}
use Rattle.roster.specs.declared.Table.{Table}
use Rattle.roster.specs.declared.Refusal.{Refusal}
use Rattle.roster.specs.declared.Verdict.TheVariants.{Crews, None, Refused}
use Rattle.roster.specs.declared.Reply.{Reply}
use Rattle.accounts.specs.declared.Accounts.{Accounts}
use Rattle.accounts.specs.declared.People.{People}
use Rattle.accounts.specs.Persons.{merged}
use Rattle.accounts.proofs.Laws.Merged.{crews_of_persons, blocks_of_persons}
use Rattle.questions.specs.Asked.{NamedAsked}
use Rattle.questions.specs.Laws.Demands.{NamedTells, persons_admitted, named-told}
use Rattle.reasons.specs.declared.Explanation.{Explanation}
use Rattle.reasons.specs.declared.Explanation.TheVariants as explanation
use Rattle.reasons.specs.Reasons.{Reason}
use Rattle.reasons.specs.Replies.{explained_with, WhyReply}
use Rattle.reasons.specs.Inner.{Stuck}
use Rattle.reasons.proofs.Laws.Replies.{Kind, refused, undecided, nothing, blocked, why_kind, is_refused_lem, is_undecided, is_nothing, is_reason}
use Rattle.reasons.proofs.Verdicts.{Left}
use Rattle.reasons.proofs.why.Goals as goal
use Rattle.reasons.proofs.why.Goals.{Start}

-- by the verdict of the named question
module _ (a : Accounts) (P d t ed A allowance : ℕ) (wide : P < 2 ^ 32) (named : Reply) (m : NamedAsked a P d t ed A allowance named) where
  told : NamedTells a P d t ed A allowance named
  told = named-told a P d t ed A allowance wide named m

  -- the reply with this answer and the named question's units
  abbrev Allowed : Explanation → Type 0
  Allowed why = WhyReply a P d t ed A allowance (explained_with why named.units)

  by_refusal : (refusal : Refusal) → named.verdict ≡ Refused refusal → Allowed (explanation.Refused refusal)
  by_refusal refusal v =
      is_refused_lem a P d t ed A allowance _ refusal ((told.refused refusal).0 v) (ap (explained_with (explanation.Refused refusal)) (told.unspent refusal v))

  by_crews : named.verdict ≡ Crews → Allowed explanation.Nothing
  by_crews v =
      let (ok, within, (crews, list)) = told.crews.0 v in
      is_nothing a P d t ed A allowance _ ok within crews ((crews_of_persons a P d t ed A crews).1 list)
      (ap (explained_with explanation.Nothing) (omega (arith, told.units ok, within)))

  by_none : named.verdict ≡ None → Stuck (merged a) P d t ed A allowance
  by_none v =
      let x = told.none.0 v in
      record { admitted = persons_admitted a P d t ed A x.0; decided = x.1; blocks = (blocks_of_persons a P d t ed A).1 x.2 }

  by_reason : named.verdict ≡ None → (why : Explanation) → Reason (merged a) P d t ed A why → Allowed why
  by_reason v why reason =
      let x = told.none.0 v in
      is_reason a P d t ed A allowance _ x.0 x.1 (by_none v).blocks reason (omega (arith, told.units x.0, x.1))

  -- what is left is undecided
  by_rest : Left named.verdict → Allowed explanation.Undecided
  by_rest rest = go (why_kind a P d t ed A wide allowance)
    where
      go : Kind a P d t ed A allowance → Allowed explanation.Undecided
      go (refused refusal e) = absurd (rest.refused refusal ((told.refused refusal).1 e))
      go (undecided e l) = is_undecided a P d t ed A allowance _ e l (ap (explained_with explanation.Undecided) (omega (arith, told.units e, l)))
      go (nothing e l crews c) = absurd (rest.crews (told.crews.1 (e, l, (crews, (crews_of_persons a P d t ed A crews).0 c))))
      go (blocked e l b) = absurd (rest.none (told.none.1 (e, l, (blocks_of_persons a P d t ed A).0 b)))

-- the task has 32 bits
narrow : (c : Start) → c.args.policy.task < 2 ^ 32
narrow c = search rules

pub returns-in-Refused : goal.returns-in-Refused
returns-in-Refused c = let a = c.args in
    by_refusal a.accounts a.policy.task a.policy.crews a.policy.size a.policy.edition a.absent a.allowance (narrow (goal.at.returns-in-Refused c).Start) c.ask_named-named.result c.ask_named-named.ensures c.in-Refused.refusal
    c.in-Refused.is

pub returns-in-Crews : goal.returns-in-Crews
returns-in-Crews c = let a = c.args in
    by_crews a.accounts a.policy.task a.policy.crews a.policy.size a.policy.edition a.absent a.allowance (narrow (goal.at.returns-in-Crews c).Start) c.ask_named-named.result c.ask_named-named.ensures c.in-Crews.is

pub returns-in-None : goal.returns-in-None
returns-in-None c = let a = c.args in
    by_reason a.accounts a.policy.task a.policy.crews a.policy.size a.policy.edition a.absent a.allowance (narrow (goal.at.returns-in-None c).Start) c.ask_named-named.result c.ask_named-named.ensures c.in-None.is c.reason-why.result
    (subst (λ (table : Table). Reason table a.policy.task a.policy.crews a.policy.size a.policy.edition a.absent c.reason-why.result) (ap People.table c.merged-people.ensures) c.reason-why.ensures)

pub returns-in_default : goal.returns-in_default
returns-in_default c = let a = c.args in
    by_rest a.accounts a.policy.task a.policy.crews a.policy.size a.policy.edition a.absent a.allowance (narrow (goal.at.returns-in_default c).Start) c.ask_named-named.result c.ask_named-named.ensures (record { refused = c.in_default.not-Refused; crews = c.in_default.not-Crews; none = c.in_default.not-None })
