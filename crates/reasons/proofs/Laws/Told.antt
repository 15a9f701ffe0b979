-- What a reply to "why" tells, a larger allowance, and that a "no" is always explained. Assumes nothing.
use Rattle.std.specs.Prelude.{◌≡◌, refl, ◌≢◌, ℕ, ◌^◌, ◌≤◌, ◌<◌}
use Rattle.std.proofs.Common.{sym, ap, ◌∙◌, inl, inr, arith}
use Rattle.roster.specs.declared.Verdict.TheVariants.{No}
use Rattle.roster.specs.declared.Reply.{Reply}
use Rattle.absences.specs.declared.Way.{Way}
use Rattle.absences.proofs.Laws.Demands.{policy_exactly}
use Rattle.absences.proofs.Laws.Need.{blocker_need}
use Rattle.accounts.specs.declared.Accounts.{Accounts}
use Rattle.accounts.specs.Persons.{persons, merged}
use Rattle.accounts.specs.Meaning.{PersonsBlock}
use Rattle.accounts.proofs.Laws.Merged.{crews_of_persons, blocks_of_persons}
use Rattle.accounts.proofs.Laws.Rulings.{ManyOrFew, many-or_few}
use Rattle.questions.specs.Asked.{PolicyAsked, NamedAsked}
use Rattle.questions.specs.Laws.Demands.{NamedTells, named-told, policy_told, admitted_persons}
use Rattle.reasons.specs.declared.Explanation.{Explanation}
use Rattle.reasons.specs.declared.Explanation.TheVariants as explanation
use Rattle.reasons.specs.declared.Explained.{Explained}
use Rattle.reasons.specs.Reasons.{reason_number}
use Rattle.reasons.specs.Replies.{need_why, WhyReply}
use Rattle.reasons.specs.Told.{PersonsReason, GivesReason, Tells}
use Rattle.reasons.proofs.Laws.Persons.{reason_number_lem, reason_persons}
use Rattle.reasons.proofs.Laws.Reasons.{reason_blocks}
use Rattle.reasons.proofs.Laws.Replies.{Kind, refused, undecided, nothing, blocked, why_kind, never, is_reason, why_same}

module _ (a : Accounts) (P d t ed A allowance : ℕ) (wide : P < 2 ^ 32) (r : Explained) (k : WhyReply a P d t ed A allowance r) where
  -- the units of the named question: none, all that was allowed, or the need
  abbrev named_says : (named : Reply) → NamedAsked a P d t ed A allowance named → NamedTells a P d t ed A allowance named
  named_says = named-told a P d t ed A allowance wide

  pub why_told : Tells a P d t ed A allowance r
  why_told = go (why_kind a P d t ed A wide allowance)
    where
      -- where the answer is no reason
      unexplained : {w : Explanation} → r.why ≡ w → reason_number w ≡ 0 → GivesReason r → ⊥
      unexplained e z n = omega (arith, n, ap reason_number e)

      go : Kind a P d t ed A allowance → Tells a P d t ed A allowance r
      go (refused refusal e) =
          let q = k.refused refusal e in
          let v : r.why ≡ explanation.Refused refusal = ap Explained.why q in
          record {
            refused = λ other. (λ x. cc, λ x. cc);
            undecided = (λ x. never (cc), λ x. never (cc));
            nothing = (λ x. never (cc), λ x. never (cc));
            given = (λ n. absurd (unexplained v refl n), λ x. never (cc));
            holds = λ n. absurd (unexplained v refl n);
            units = λ named m. let told = named_says named m in ap Explained.units q ∙ sym (told.unspent refusal ((told.refused refusal).1 e));
          }
      go (undecided e l) =
          let q = k.undecided e l in
          let v : r.why ≡ explanation.Undecided = ap Explained.why q in
          record {
            refused = λ other. (λ x. never (cc), λ x. never (cc));
            undecided = (λ x. (e, l), λ x. v);
            nothing = (λ x. never (cc), λ x. absurd (omega (arith, x.1)));
            given = (λ n. absurd (unexplained v refl n), λ x. absurd (omega (arith, x.1)));
            holds = λ n. absurd (unexplained v refl n);
            units = λ named m. omega (arith, ap Explained.units q, (named_says named m).units e);
          }
      go (nothing e l crews c) =
          let q = k.nothing e l crews c in
          let v : r.why ≡ explanation.Nothing = ap Explained.why q in
          let list = (crews_of_persons a P d t ed A crews).0 c in
          record {
            refused = λ other. (λ x. never (cc), λ x. never (cc));
            undecided = (λ x. never (cc), λ x. absurd (omega (arith, x.1)));
            nothing = (λ x. (e, l, (crews, list)), λ x. v);
            given = (λ n. absurd (unexplained v refl n), λ x. absurd (x.2 crews list));
            holds = λ n. absurd (unexplained v refl n);
            units = λ named m. omega (arith, ap Explained.units q, (named_says named m).units e);
          }
      go (blocked e l b) =
          let x = k.reason e l b in
          let n = reason_number_lem (merged a) P d t ed A r.why x.0 in
          let blocks = (blocks_of_persons a P d t ed A).0 b in
          record {
            refused = λ other. (λ v. absurd (unexplained v refl n), λ y. never (cc));
            undecided = (λ v. absurd (unexplained v refl n), λ y. absurd (omega (arith, y.1)));
            nothing = (λ v. absurd (unexplained v refl n), λ y. absurd (blocks y.2.0 y.2.1));
            given = (λ y. (e, l, blocks), λ y. n);
            holds = λ y. (reason_persons a P d t ed A r.why).0 x.0;
            units = λ named m. omega (arith, x.1, (named_says named m).units e);
          }

  -- A larger allowance never alters a decided reply.
  pub why_larger : r.why ≢ explanation.Undecided → (more : ℕ) → allowance ≤ more → (q : Explained) → WhyReply a P d t ed A more q → r ≡ q
  why_larger n more le q m = go (why_kind a P d t ed A wide allowance)
    where
      go : Kind a P d t ed A allowance → r ≡ q
      go (refused refusal e) = k.refused refusal e ∙ sym (m.refused refusal e)
      go (undecided e l) = absurd (n (ap Explained.why (k.undecided e l)))
      go (nothing e l crews c) = k.nothing e l crews c ∙ sym (m.nothing e (omega arith) crews c)
      go (blocked e l b) = let x = k.reason e l b in why_same a P d t ed A more wide r q (is_reason a P d t ed A more r e (omega arith) b x.0 x.1) m

-- an explanation explains: where a reason is true the absence blocks
pub reason_explains : (a : Accounts) (P d t ed A : ℕ) → 1 ≤ d → (w : Explanation) → PersonsReason a P d t ed A w → PersonsBlock a P d t ed A
reason_explains a P d t ed A some w x =
    (blocks_of_persons a P d t ed A).0 (reason_blocks (merged a) P d t ed A some w ((reason_persons a P d t ed A w).1 x))

-- ---- "no" is explained

-- The placements with the blocker absent are part of the units of a "no": asked why at the same allowance or a larger one, there is a reason.
module _ (way : Way) (a : Accounts) (P s d t ed : ℕ) (wide : P < 2 ^ 32) (x : ℕ) (r : Reply) (k : PolicyAsked way a P s d t ed x r) (no : r.verdict ≡ No) where
  blocker_decided : (need_why a P d t ed r.blocker ≤ x) × (r.blocker < 2 ^ persons a)
  blocker_decided = go (many-or_few a)
    where
      go : ManyOrFew a → (need_why a P d t ed r.blocker ≤ x) × (r.blocker < 2 ^ persons a)
      go (inl (l, e)) = let v = ap Reply.verdict (k.refused _ e) in never (cc)
      go (inr (l, e)) =
          let told = policy_exactly way (merged a) P s d t ed wide x r (k.admitted e) in
          let first = told.blocker no in
          let y = told.no.0 no in
          (omega (arith, blocker_need way (merged a) P s d t ed wide y.0 r.blocker first, y.1), first.rows)

  pub no_explained : (y : ℕ) → x ≤ y → (q : Explained) → WhyReply a P d t ed r.blocker y q
      → GivesReason q × PersonsReason a P d t ed r.blocker q.why
  no_explained y le q m =
      let told = policy_told way a P s d t ed x wide r k in
      let decided = blocker_decided in
      let ok = admitted_persons a P d t ed r.blocker s (told.no.0 no).0 decided.1 in
      let why = why_told a P d t ed r.blocker y wide q m in
      let given = why.given.1 (ok, omega (arith, decided.0), (told.blocker no).0.is.1) in
      (given, why.holds given)
