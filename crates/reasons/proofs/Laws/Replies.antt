-- Every "why" has a reply and only one: it falls under one of four kinds. Assumes nothing.
use Rattle.std.specs.Prelude.{◌≡◌, true, false, List, ℕ, ◌^◌, ◌≤◌, ◌<◌, Err, Ok, Result}
use Rattle.std.proofs.Common.{sym, ap, ap₂, ◌∙◌, subst, ⊎_elim, arith, le-leb}
use Rattle.std.proofs.Math.Decide.{dec_le}
use Rattle.std.proofs.lemmas.Bool.{lt-leb}
use Rattle.roster.specs.declared.Refusal.{Refusal}
use Rattle.roster.specs.Meaning.{CrewList, Blocks}
use Rattle.crews.specs.Filling.{Outcome, filling}
use Rattle.crews.proofs.Laws.Exact.{Fair, list-found, blocks_none, decide}
use Rattle.crews.proofs.Laws.Named.{admitted_fair, ruled}
use Rattle.accounts.specs.declared.Accounts.{Accounts}
use Rattle.accounts.specs.Persons.{persons, merged}
use Rattle.questions.specs.Laws.Demands.{persons_ruling, persons_admitted}
use Rattle.reasons.specs.declared.Explanation.{Explanation}
use Rattle.reasons.specs.declared.Explanation.TheVariants as explanation
use Rattle.reasons.specs.declared.Explained.{Explained}
use Rattle.reasons.specs.Reasons.{Reason}
use Rattle.reasons.specs.Replies.{explained_with, need_why, WhyReply}
use Rattle.reasons.specs.Replied.{reason_of, explained_by, why_reply_of}
use Rattle.reasons.proofs.Laws.Reasons.{reason_unique, reason_given}

-- ---- the four kinds

pub data Kind (a : Accounts) (P d t ed A allowance : ℕ) : Type 0 where
  refused : (refusal : Refusal) → persons_ruling a P d t ed A ≡ Err refusal → Kind a P d t ed A allowance
  undecided : persons_ruling a P d t ed A ≡ Ok tt → allowance < need_why a P d t ed A → Kind a P d t ed A allowance
  nothing : persons_ruling a P d t ed A ≡ Ok tt → need_why a P d t ed A ≤ allowance
      → (crews : List ℕ) → CrewList (merged a) P d t ed A crews → Kind a P d t ed A allowance
  blocked : persons_ruling a P d t ed A ≡ Ok tt → need_why a P d t ed A ≤ allowance → Blocks (merged a) P d t ed A → Kind a P d t ed A allowance

module _ (a : Accounts) (P d t ed A : ℕ) (wide : P < 2 ^ 32) where
  -- an admitted question has what exactness needs
  pub why_fair : persons_ruling a P d t ed A ≡ Ok tt → Fair (merged a) P d × (A < 2 ^ persons a)
  why_fair e = admitted_fair (merged a) P d t ed A wide (persons_admitted a P d t ed A e)

  pub why_kind : (allowance : ℕ) → Kind a P d t ed A allowance
  why_kind allowance =
      ⊎_elim (λ e. admitted e (dec_le (need_why a P d t ed A) allowance)) (λ x. refused x.0 x.1) (ruled (persons_ruling a P d t ed A))
    where
      admitted : persons_ruling a P d t ed A ≡ Ok tt → Dec (need_why a P d t ed A ≤ allowance) → Kind a P d t ed A allowance
      admitted e (no n) = undecided e (omega arith)
      admitted e (yes l) =
          let f = why_fair e in
          ⊎_elim (λ c. nothing e l c.0 c.1) (λ b. blocked e l b) (decide f.0 t ed A f.1)

-- ---- what is needed to be the reply of a kind

-- 0 is not 1
pub never : {A : Type 0} → ◌≡◌ {A = ℕ} 0 1 → A
never e = absurd (omega arith)

module _ (a : Accounts) (P d t ed A allowance : ℕ) (r : Explained) where
  pub is_refused_lem : (refusal : Refusal) → persons_ruling a P d t ed A ≡ Err refusal → r ≡ explained_with (explanation.Refused refusal) 0
      → WhyReply a P d t ed A allowance r
  is_refused_lem refusal e h = record {
    refused = λ other o. let same : refusal ≡ other = cc in h ∙ ap (λ (x : Refusal). explained_with (explanation.Refused x) 0) same;
    undecided = λ o l. never (cc);
    nothing = λ o l crews c. never (cc);
    reason = λ o l b. never (cc);
  }

  pub is_undecided : persons_ruling a P d t ed A ≡ Ok tt → allowance < need_why a P d t ed A → r ≡ explained_with explanation.Undecided allowance
      → WhyReply a P d t ed A allowance r
  is_undecided e l h = record {
    refused = λ refusal o. never (cc);
    undecided = λ o k. h;
    nothing = λ o k crews c. absurd (omega arith);
    reason = λ o k b. absurd (omega arith);
  }

  pub is_nothing : persons_ruling a P d t ed A ≡ Ok tt → need_why a P d t ed A ≤ allowance
      → (crews : List ℕ) → CrewList (merged a) P d t ed A crews → r ≡ explained_with explanation.Nothing (need_why a P d t ed A)
      → WhyReply a P d t ed A allowance r
  is_nothing e l crews c h = record {
    refused = λ refusal o. never (cc);
    undecided = λ o k. absurd (omega arith);
    nothing = λ o k other x. h;
    reason = λ o k b. absurd (b crews c);
  }

  pub is_reason : persons_ruling a P d t ed A ≡ Ok tt → need_why a P d t ed A ≤ allowance → Blocks (merged a) P d t ed A
      → Reason (merged a) P d t ed A r.why → r.units ≡ need_why a P d t ed A → WhyReply a P d t ed A allowance r
  is_reason e l b x u = record {
    refused = λ refusal o. never (cc);
    undecided = λ o k. absurd (omega arith);
    nothing = λ o k crews c. absurd (b crews c);
    reason = λ o k n. (x, u);
  }

-- ---- there is a reply

over : (allowance : ℕ) (o : Outcome) (w : Explanation) → allowance < o.need
    → explained_by (Ok tt) allowance o w ≡ explained_with explanation.Undecided allowance
over allowance o w l = rw (lt-leb o.need allowance l, explained_by)

complete : (allowance : ℕ) (o : Outcome) (w : Explanation) → o.need ≤ allowance → o.found ≡ true
    → explained_by (Ok tt) allowance o w ≡ explained_with explanation.Nothing o.need
complete allowance o w l f = rw (le-leb o.need allowance l, f, explained_by)

exhausted : (allowance : ℕ) (o : Outcome) (w : Explanation) → o.need ≤ allowance → o.found ≡ false
    → explained_by (Ok tt) allowance o w ≡ explained_with w o.need
exhausted allowance o w l f = rw (le-leb o.need allowance l, f, explained_by)

module _ (a : Accounts) (P d t ed A allowance : ℕ) (wide : P < 2 ^ 32) where
  pub why_allowed : WhyReply a P d t ed A allowance (why_reply_of a P d t ed A allowance)
  why_allowed = go (why_kind a P d t ed A wide allowance)
    where
      o : Outcome
      o = filling (merged a) P d t ed A

      w : Explanation
      w = reason_of (merged a) P d t ed A

      under : {x : Result Unit Refusal} → persons_ruling a P d t ed A ≡ x → why_reply_of a P d t ed A allowance ≡ explained_by x allowance o w
      under e = ap (λ (x : Result Unit Refusal). explained_by x allowance o w) e

      go : Kind a P d t ed A allowance → WhyReply a P d t ed A allowance (why_reply_of a P d t ed A allowance)
      go (refused refusal e) = is_refused_lem a P d t ed A allowance _ refusal e (under e)
      go (undecided e l) = is_undecided a P d t ed A allowance _ e l (under e ∙ over allowance o w l)
      go (nothing e l crews c) =
          let f = why_fair a P d t ed A wide e in
          is_nothing a P d t ed A allowance _ e l crews c (under e ∙ complete allowance o w l (list-found f.0 t ed A f.1 crews c))
      go (blocked e l b) =
          let f = why_fair a P d t ed A wide e in
          let q = under e ∙ exhausted allowance o w l (blocks_none f.0 t ed A b) in
          is_reason a P d t ed A allowance _ e l b
          (subst (λ (x : Explained). Reason (merged a) P d t ed A x.why) (sym q) (reason_given f.0 t ed A f.1 b)) (ap Explained.units q)

  -- "any two replies allowed for one input are equal"
  pub why_same : (r q : Explained) → WhyReply a P d t ed A allowance r → WhyReply a P d t ed A allowance q → r ≡ q
  why_same r q x y = go (why_kind a P d t ed A wide allowance)
    where
      go : Kind a P d t ed A allowance → r ≡ q
      go (refused refusal e) = x.refused refusal e ∙ sym (y.refused refusal e)
      go (undecided e l) = x.undecided e l ∙ sym (y.undecided e l)
      go (nothing e l crews c) = x.nothing e l crews c ∙ sym (y.nothing e l crews c)
      go (blocked e l b) =
          let m = x.reason e l b in
          let n = y.reason e l b in
          ap₂ explained_with (reason_unique (merged a) P d t ed A r.why q.why m.0 n.0) (m.1 ∙ sym n.1)

  -- a reply that is allowed is this one
  pub why_is : (r : Explained) → WhyReply a P d t ed A allowance r → r ≡ why_reply_of a P d t ed A allowance
  why_is r x = why_same r (why_reply_of a P d t ed A allowance) x why_allowed
