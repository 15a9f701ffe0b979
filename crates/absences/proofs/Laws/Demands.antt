-- Demand 2 and demand 3 for the policy question, over all replies that the contracts allow: each question falls under one row of "What comes back"
-- (`policy_case`), and all else follows from that. Assumes nothing.
use Rattle.std.specs.Prelude.{◌≡◌, refl, ◌⊎◌, ◌≢◌, ◌↔◌, true, false, List, ℕ, ◌^◌, ◌≤◌, ◌<◌, take, Result}
use Rattle.std.proofs.Common.{sym, ap, ◌∙◌, subst, inl, inr, arith, pow_pos}
use Rattle.sets.proofs.Sets.{ones_none}
use Rattle.sets.specs.Laws.Sums.{either}
use Rattle.roster.specs.declared.Table.{Table}
use Rattle.roster.specs.declared.Verdict.{Verdict}
use Rattle.roster.specs.declared.Verdict.TheVariants.{Yes, No, Undecided, Refused}
use Rattle.roster.specs.declared.Reply.{Reply}
use Rattle.roster.specs.Meaning.{CrewList, Blocks, Absence, Holds, FirstBlocker}
use Rattle.roster.specs.Refusals.{policy_ruling}
use Rattle.roster.specs.Replies.{no_crews, Eight, reply_with}
use Rattle.roster.proofs.Laws.Order.{first_blocker_unique}
use Rattle.crews.specs.Filling.{filling}
use Rattle.crews.specs.Named.{first_list}
use Rattle.crews.proofs.Laws.Sound.{none-at}
use Rattle.crews.proofs.Laws.Exact.{crews-eight, crews-past, Fair, finds_list, finds_none, holds_all}
use Rattle.absences.specs.declared.Way.{Way}
use Rattle.absences.specs.declared.Way.TheVariants.{Full, Skipping}
use Rattle.absences.specs.Tried.{Found}
use Rattle.absences.specs.Asked.{Admits, found, need_policy, PolicyReplyBy, PolicyReply, Tells}
use Rattle.absences.specs.Replied.{verdict_of, replied_by, policy_reply_of}
use Rattle.absences.proofs.Laws.Listed.{tried-complete, tried_ascending}
use Rattle.absences.proofs.Laws.Decided.{first_picked, first_not_holds, none_blocks, stops_first, one_blocks, verdict_late, verdict_within, Case, is_refused_lem, is_undecided, is_yes, is_no, admitted_fair, policy_case}
use Rattle.absences.proofs.Laws.Weighed.{tried_thinned, thinned_need}
use Rattle.roster.specs.declared.Refusal.{Refusal}

-- ---- demand 1: every input has a reply, and only one

-- whatever trying the absences comes to; P has 32 bits
pub replies_same : (w : Found) (crews : List ℕ) (table : Table) (P s d t ed : ℕ) → P < 2 ^ 32 → (allowance : ℕ) (r q : Reply)
    → PolicyReplyBy w crews table P s d t ed allowance r → PolicyReplyBy w crews table P s d t ed allowance q → r ≡ q
replies_same w crews table P s d t ed wide allowance r q a b = go (policy_case w.need table P s d t ed wide allowance)
  where
    go : Case w.need table P s d t ed allowance → r ≡ q
    go (is_refused_lem refusal e) = a.refused refusal e ∙ sym (b.refused refusal e)
    go (is_undecided e l) = a.undecided e l ∙ sym (b.undecided e l)
    go (is_yes e l h) = a.yes e l h ∙ sym (b.yes e l h)
    go (is_no e l A f) = a.no e l A f ∙ sym (b.no e l A f)

-- and one is allowed: the one that the definition gives, if what trying comes to tells whether the policy holds and else its first blocker
module _ (w : Found) (crews : List ℕ) (table : Table) (P s d t ed : ℕ) (one : Admits table P s d t ed → w.blocked ≡ true → FirstBlocker table P s d t ed w.blocker)
    (none : Admits table P s d t ed → w.blocked ≡ false → Holds table P s d t ed) (allowance : ℕ) where
  pub reply_allowed : PolicyReplyBy w crews table P s d t ed allowance (replied_by (policy_ruling table.rows P s d t ed) w crews allowance)
  reply_allowed = record {
    refused = λ refusal e. under e;
    undecided = λ e l. under e ∙ ap gives (verdict_late w allowance l);
    yes = λ e l h. under e ∙ ap gives (verdict_within w allowance false l (all_well e h (either w.blocked)));
    no = λ e l A f. under e ∙ stopped e l A f (either w.blocked);
  }
    where
      gives : Verdict → Reply
      gives = reply_with crews w.blocker w.need allowance

      under : {r : Result Unit Refusal} → policy_ruling table.rows P s d t ed ≡ r
          → replied_by (policy_ruling table.rows P s d t ed) w crews allowance ≡ replied_by r w crews allowance
      under e = ap (λ (x : Result Unit Refusal). replied_by x w crews allowance) e

      all_well : Admits table P s d t ed → Holds table P s d t ed → (w.blocked ≡ true) ⊎ (w.blocked ≡ false) → w.blocked ≡ false
      all_well e h (inr b) = b
      all_well e h (inl b) = absurd (first_not_holds table P s d t ed w.blocker (one e b) h)

      stopped : Admits table P s d t ed → w.need ≤ allowance → (A : ℕ) → FirstBlocker table P s d t ed A
          → (w.blocked ≡ true) ⊎ (w.blocked ≡ false) → gives (verdict_of w allowance) ≡ reply_with no_crews A w.need allowance No
      stopped e l A f (inl b) =
          ap gives (verdict_within w allowance true l b)
          ∙ ap (λ (x : ℕ). reply_with no_crews x w.need allowance No) (first_blocker_unique table P s d t ed w.blocker A (one e b) f)
      stopped e l A f (inr b) = absurd (first_not_holds table P s d t ed A f (none e b))

-- by either search
module _ (way : Way) (table : Table) (P s d t ed : ℕ) (wide : P < 2 ^ 32) (allowance : ℕ) where
  -- "any two replies allowed for one input are equal"
  pub policy_same : (r q : Reply) → PolicyReply way table P s d t ed allowance r → PolicyReply way table P s d t ed allowance q → r ≡ q
  policy_same = replies_same (found way table P s d t ed) (first_list table P d t ed 0) table P s d t ed wide allowance

  pub policy_allowed : PolicyReply way table P s d t ed allowance (policy_reply_of way table P s d t ed allowance)
  unfolding policy_reply_of
  policy_allowed =
      reply_allowed (found way table P s d t ed) (first_list table P d t ed 0) table P s d t ed
      (λ e. one_blocks way table P s d t ed (admitted_fair table P s d t ed wide e)) (λ e. none_blocks way table P s d t ed (admitted_fair table P s d t ed wide e))
      allowance

  -- a reply that is allowed is this one
  pub policy_is : (r : Reply) → PolicyReply way table P s d t ed allowance r → r ≡ policy_reply_of way table P s d t ed allowance
  policy_is r a = policy_same r (policy_reply_of way table P s d t ed allowance) a policy_allowed

-- ---- demand 2

-- nobody absent is an absence, so where the policy holds there is a list with nobody absent
pub holds-list : (table : Table) (P s d t ed : ℕ) → Fair table P d → Holds table P s d t ed → CrewList table P d t ed 0 (take d (first_list table P d t ed 0))
holds-list table P s d t ed fair h = go (either (filling table P d t ed 0).found)
  where
    go : ((filling table P d t ed 0).found ≡ true) ⊎ ((filling table P d t ed 0).found ≡ false) → CrewList table P d t ed 0 (take d (first_list table P d t ed 0))
    go (inl b) = finds_list fair t ed 0 b
    go (inr b) =
        absurd (h 0 (record { rows = pow_pos table.rows; few = omega (arith, ones_none) })
        (finds_none fair t ed 0 (pow_pos table.rows) b))

never : {A : Type 0} → ◌≡◌ {A = ℕ} 0 1 → A
never e = absurd (omega arith)

module _ (way : Way) (table : Table) (P s d t ed : ℕ) (wide : P < 2 ^ 32) (allowance : ℕ) (r : Reply) (a : PolicyReply way table P s d t ed allowance r) where
  -- By the row that the question falls under: there the reply is given, and what is asked of another row cannot be.
  pub policy_exactly : Tells way table P s d t ed allowance r
  policy_exactly = go (policy_case (need_policy way table P s d t ed) table P s d t ed wide allowance)
    where
      empty : r.crews ≡ no_crews → Eight d r.crews
      empty e = subst (Eight d) (sym e) (record { many = refl; past = λ j m. none-at j })

      go : Case (need_policy way table P s d t ed) table P s d t ed allowance → Tells way table P s d t ed allowance r
      go (is_refused_lem refusal e) =
          let k = a.refused refusal e in
          let v : r.verdict ≡ Refused refusal = ap Reply.verdict k in
          record {
            refused = λ n. (λ q. cc, λ q. cc);
            undecided = (λ q. never (cc), λ q. never (cc));
            yes = (λ q. never (cc), λ q. never (cc));
            no = (λ q. never (cc), λ q. never (cc));
            crews = λ q. never (cc);
            no_crews_lem = λ q. ap Reply.crews k;
            eight = empty (ap Reply.crews k);
            blocker = λ q. never (cc);
            no_blocker = λ q. ap Reply.blocker k;
            unspent = λ n q. ap Reply.units k;
            spent = λ q. never (cc);
            units = λ n q. never (cc);
          }
      go (is_undecided e l) =
          let k = a.undecided e l in
          let v : r.verdict ≡ Undecided = ap Reply.verdict k in
          record {
            refused = λ n. (λ q. never (cc), λ q. never (cc));
            undecided = (λ q. (e, l), λ q. v);
            yes = (λ q. never (cc), λ q. absurd (omega (arith, q.1)));
            no = (λ q. never (cc), λ q. absurd (omega (arith, q.1)));
            crews = λ q. never (cc);
            no_crews_lem = λ q. ap Reply.crews k;
            eight = empty (ap Reply.crews k);
            blocker = λ q. never (cc);
            no_blocker = λ q. ap Reply.blocker k;
            unspent = λ n q. never (cc);
            spent = λ q. ap Reply.units k;
            units = λ n q. absurd (n v);
          }
      go (is_yes e l h) =
          let k = a.yes e l h in
          let v : r.verdict ≡ Yes = ap Reply.verdict k in
          let first : r.crews ≡ first_list table P d t ed 0 = ap Reply.crews k in
          record {
            refused = λ n. (λ q. never (cc), λ q. never (cc));
            undecided = (λ q. never (cc), λ q. absurd (omega (arith, q.1)));
            yes = (λ q. (e, l, h), λ q. v);
            no = (λ q. never (cc), λ q. absurd (q.2 h));
            crews = λ q. (first, subst (λ (c : List ℕ). CrewList table P d t ed 0 (take d c)) (sym first) (holds-list table P s d t ed (admitted_fair table P s d t ed wide e) h));
            no_crews_lem = λ q. absurd (q v);
            eight = subst (Eight d) (sym first) (record { many = crews-eight table P d t ed 0; past = crews-past table P d t ed 0 });
            blocker = λ q. never (cc);
            no_blocker = λ q. ap Reply.blocker k;
            unspent = λ n q. never (cc);
            spent = λ q. never (cc);
            units = λ n q. ap Reply.units k;
          }
      go (is_no e l A f) =
          let k = a.no e l A f in
          let v : r.verdict ≡ No = ap Reply.verdict k in
          record {
            refused = λ n. (λ q. never (cc), λ q. never (cc));
            undecided = (λ q. never (cc), λ q. absurd (omega (arith, q.1)));
            yes = (λ q. never (cc), λ q. absurd (first_not_holds table P s d t ed A f q.2));
            no = (λ q. (e, l, first_not_holds table P s d t ed A f), λ q. v);
            crews = λ q. never (cc);
            no_crews_lem = λ q. ap Reply.crews k;
            eight = empty (ap Reply.crews k);
            blocker = λ q. subst (FirstBlocker table P s d t ed) (sym (ap Reply.blocker k)) f;
            no_blocker = λ q. absurd (q v);
            unspent = λ n q. never (cc);
            spent = λ q. never (cc);
            units = λ n q. ap Reply.units k;
          }

  -- "yes" exactly if every absence of at most s leaves d disjoint crews, each of at most t and covering the task
  pub policy_yes : (r.verdict ≡ Yes)
      ↔ (Admits table P s d t ed
      × (need_policy way table P s d t ed ≤ allowance)
      × ((A : ℕ) → Absence table s A → (crews : List ℕ) × CrewList table P d t ed A crews))
  policy_yes = (
    λ q. let x = policy_exactly.yes.0 q in (x.0, x.1, holds_all (admitted_fair table P s d t ed wide x.0) s t ed x.2),
    λ x. policy_exactly.yes.1 (x.0, x.1, λ A a b. let c = x.2 A a in b c.0 c.1),
  )

  -- "no" exactly if one of them leaves none
  pub policy_no : (r.verdict ≡ No)
      ↔ (Admits table P s d t ed
      × (need_policy way table P s d t ed ≤ allowance)
      × ((A : ℕ) × Absence table s A × Blocks table P d t ed A))
  policy_no = (
    λ q.
        let x = policy_exactly.no.0 q in
        let first = policy_exactly.blocker q in
        (x.0, x.1, (r.blocker, record { rows = first.rows; few = first.is.0 }, first.is.1)),
    λ x. policy_exactly.no.1 (x.0, x.1, λ h. h x.2.0 x.2.1 x.2.2),
  )

-- ---- demand 3

-- whatever two searches, rules of filling or allowances there are: what both decide, they decide alike
module _ (table : Table) (P s d t ed : ℕ) (wide : P < 2 ^ 32) where
  abbrev Alike : Reply → Reply → Type 0
  Alike r q = (r.verdict ≡ q.verdict) × (r.crews ≡ q.crews) × (r.blocker ≡ q.blocker)

  pub decided_alike : (w v : Found) (crews list : List ℕ) → (Admits table P s d t ed → crews ≡ list) → (a b : ℕ) (r q : Reply)
      → PolicyReplyBy w crews table P s d t ed a r → PolicyReplyBy v list table P s d t ed b q
      → r.verdict ≢ Undecided → q.verdict ≢ Undecided → Alike r q
  decided_alike w v crews list same a b r q k m dr dq = go (policy_case w.need table P s d t ed wide a) (policy_case v.need table P s d t ed wide b)
    where
      alike : {x y : Reply} → r ≡ x → q ≡ y → Alike x y → Alike r q
      alike i j (f, g, h) = (
        ap Reply.verdict i ∙ f ∙ sym (ap Reply.verdict j),
        ap Reply.crews i ∙ g ∙ sym (ap Reply.crews j),
        ap Reply.blocker i ∙ h ∙ sym (ap Reply.blocker j),
      )

      go : Case w.need table P s d t ed a → Case v.need table P s d t ed b → Alike r q
      go (is_refused_lem n e) c = alike (k.refused n e) (m.refused n e) (refl, refl, refl)
      go (is_undecided e l) c = absurd (dr (ap Reply.verdict (k.undecided e l)))
      go (is_yes e l h) (is_refused_lem n f) = never (cc)
      go (is_yes e l h) (is_undecided f j) = absurd (dq (ap Reply.verdict (m.undecided f j)))
      go (is_yes e l h) (is_yes f j i) = alike (k.yes e l h) (m.yes f j i) (refl, same e, refl)
      go (is_yes e l h) (is_no f j B i) = absurd (first_not_holds table P s d t ed B i h)
      go (is_no e l A h) (is_refused_lem n f) = never (cc)
      go (is_no e l A h) (is_undecided f j) = absurd (dq (ap Reply.verdict (m.undecided f j)))
      go (is_no e l A h) (is_yes f j i) = absurd (first_not_holds table P s d t ed A h i)
      go (is_no e l A h) (is_no f j B i) = alike (k.no e l A h) (m.no f j A h) (refl, refl, refl)

  -- with no more need a reply is decided whenever the other is, with no more units
  pub decided_sooner : (w v : Found) (crews list : List ℕ) (a : ℕ) (r q : Reply) → (Admits table P s d t ed → v.need ≤ w.need)
      → PolicyReplyBy w crews table P s d t ed a r → PolicyReplyBy v list table P s d t ed a q
      → r.verdict ≢ Undecided → (q.verdict ≢ Undecided) × (q.units ≤ r.units)
  decided_sooner w v crews list a r q less k m dr = go (policy_case w.need table P s d t ed wide a)
    where
      go : Case w.need table P s d t ed a → (q.verdict ≢ Undecided) × (q.units ≤ r.units)
      go (is_refused_lem n e) =
          let x = ap Reply.verdict (m.refused n e) in
          (λ u. never (cc), omega (arith, ap Reply.units (k.refused n e), ap Reply.units (m.refused n e)))
      go (is_undecided e l) = absurd (dr (ap Reply.verdict (k.undecided e l)))
      go (is_yes e l h) =
          let j = less e in
          let i = m.yes e (omega arith) h in
          let x = ap Reply.verdict i in
          (λ u. never (cc), omega (arith, ap Reply.units i, ap Reply.units (k.yes e l h)))
      go (is_no e l A f) =
          let j = less e in
          let i = m.no e (omega arith) A f in
          let x = ap Reply.verdict i in
          (λ u. never (cc), omega (arith, ap Reply.units i, ap Reply.units (k.no e l A f)))

  -- "the search that skips and the search that skips nothing give the same verdict, crews and blocker whenever both decide"
  pub demand_3_same : (a b : ℕ) (r q : Reply) → PolicyReply Full table P s d t ed a r → PolicyReply Skipping table P s d t ed b q
      → r.verdict ≢ Undecided → q.verdict ≢ Undecided → (r.verdict ≡ q.verdict) × (r.crews ≡ q.crews) × (r.blocker ≡ q.blocker)
  demand_3_same =
      let crews : List ℕ = first_list table P d t ed 0 in
      decided_alike (found Full table P s d t ed) (found Skipping table P s d t ed) crews crews (λ e. refl)

  -- "with no more work counted": the first blocker is worth trying, so what is skipped before it only costs the other search units
  pub demand_3_need : Admits table P s d t ed → need_policy Skipping table P s d t ed ≤ need_policy Full table P s d t ed
  demand_3_need e =
      thinned_need (filling table P d t ed) table P (tried_thinned table P s) (tried_ascending Full table P s) (λ B st.
      let f = stops_first Full table P s d t ed (admitted_fair table P s d t ed wide e) B st in
      tried-complete Skipping table P s B (record { rows = f.rows; few = f.is.0 }) (first_picked table P s d t ed Skipping B f))

  -- "The skipping one decides whenever the other does", with no more units
  pub demand_3_decides : (a : ℕ) (r q : Reply) → PolicyReply Full table P s d t ed a r → PolicyReply Skipping table P s d t ed a q
      → r.verdict ≢ Undecided → (q.verdict ≢ Undecided) × (q.units ≤ r.units)
  demand_3_decides a r q =
      let crews : List ℕ = first_list table P d t ed 0 in
      decided_sooner (found Full table P s d t ed) (found Skipping table P s d t ed) crews crews a r q demand_3_need

  -- "a larger allowance never alters a decided reply"
  pub demand_3_larger : (way : Way) (a b : ℕ) (r q : Reply) → a ≤ b → PolicyReply way table P s d t ed a r → PolicyReply way table P s d t ed b q
      → r.verdict ≢ Undecided → q ≡ r
  demand_3_larger way a b r q l k m dr = go (policy_case (need_policy way table P s d t ed) table P s d t ed wide a)
    where
      go : Case (need_policy way table P s d t ed) table P s d t ed a → q ≡ r
      go (is_refused_lem n e) = m.refused n e ∙ sym (k.refused n e)
      go (is_undecided e j) = absurd (dr (ap Reply.verdict (k.undecided e j)))
      go (is_yes e j h) = m.yes e (omega arith) h ∙ sym (k.yes e j h)
      go (is_no e j A f) = m.no e (omega arith) A f ∙ sym (k.no e j A f)
