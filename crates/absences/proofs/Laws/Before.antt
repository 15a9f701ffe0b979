-- The rule of filling before crews were begun in the order of their first rows, over all replies that the contracts allow: by either search a reply
-- now and one by that rule are the same but for the units wherever both decide, and a question is decided now wherever it was, with no more units.
-- The idea: each filling comes to the same list with no more placements, and what is decided is decided by the meaning. Assumes nothing.
use Rattle.std.specs.Prelude.{◌≡◌, refl, ◌⊎◌, ◌≢◌, true, false, List, [], ◌∷◌, ℕ, ◌^◌, ◌≤◌, ◌<◌}
use Rattle.std.proofs.Common.{◌∙◌, subst, inl, inr, arith}
use Rattle.sets.specs.Laws.Sums.{either}
use Rattle.roster.specs.declared.Table.{Table}
use Rattle.roster.specs.declared.Verdict.TheVariants.{Undecided}
use Rattle.roster.specs.declared.Reply.{Reply}
use Rattle.roster.specs.Meaning.{FirstBlocker}
use Rattle.roster.specs.Refusals.{policy_ruling}
use Rattle.crews.specs.Filling.{Outcome, filling, filling_before}
use Rattle.crews.specs.Named.{first_list}
use Rattle.crews.proofs.Laws.Ordered.{Alike}
use Rattle.crews.proofs.Laws.Before.{same_as_before}
use Rattle.absences.specs.declared.Way.{Way}
use Rattle.absences.specs.Tried.{tried, Found, weighed}
use Rattle.absences.specs.Asked.{Admits, found, PolicyReply, found_before, first_before, PolicyReplyBefore}
use Rattle.absences.specs.Replied.{replied_by}
use Rattle.absences.proofs.Laws.Weighed.{weighed-fits, weighed_blocks}
use Rattle.absences.proofs.Laws.Decided.{none_blocks, one_blocks, admitted_fair}
use Rattle.absences.proofs.Laws.Demands.{reply_allowed, decided_alike, decided_sooner}

-- what trying absences comes to, with the same blocker as v and no more units
pub record NoDearer (w v : Found) : Type 0 where
  pub blocked : w.blocked ≡ v.blocked
  pub blocker : w.blocker ≡ v.blocker
  pub need : w.need ≤ v.need

-- where one filling finds what another does with no more placements, so it is with a list of absences
weighed_no_dearer : (fill other : ℕ → Outcome) → ((A : ℕ) → Alike (fill A) (other A)) → (l : List ℕ) → NoDearer (weighed fill l) (weighed other l)
unfolding weighed
weighed_no_dearer fill other alike [] = record { blocked = refl; blocker = refl; need = omega arith }
weighed_no_dearer fill other alike (A ∷ l) = go (either (other A).found) (weighed_no_dearer fill other alike l)
  where
    by : {w v x y : Found} → w ≡ x → v ≡ y → NoDearer x y → NoDearer w v
    by e f n = rw e (rw f n)

    go : ((other A).found ≡ true) ⊎ ((other A).found ≡ false) → NoDearer (weighed fill l) (weighed other l)
        → NoDearer (weighed fill (A ∷ l)) (weighed other (A ∷ l))
    go (inl e) ih =
        by (weighed-fits fill A l ((alike A).found ∙ e)) (weighed-fits other A l e)
        (record { blocked = ih.blocked; blocker = ih.blocker; need = omega (arith, (alike A).need, ih.need) })
    go (inr e) ih =
        by (weighed_blocks fill A l ((alike A).found ∙ e)) (weighed_blocks other A l e)
        (record { blocked = refl; blocker = refl; need = omega (arith, (alike A).need) })

-- P has 32 bits
module _ (way : Way) (table : Table) (P s d t ed : ℕ) (wide : P < 2 ^ 32) where
  -- the same blocker, if any; and "Need is redefined accordingly": it is no more than it was
  pub policy_before-found : Admits table P s d t ed → NoDearer (found way table P s d t ed) (found_before way table P s d t ed)
  policy_before-found e =
      weighed_no_dearer (filling table P d t ed) (filling_before table P d t ed) (same_as_before (admitted_fair table P s d t ed wide e) t ed)
      (tried way table P s)

  -- the rule before had a reply to every question: what the same definition gives by it
  pub policy_before_allowed : (allowance : ℕ)
      → PolicyReplyBefore way table P s d t ed allowance
      (replied_by (policy_ruling table.rows P s d t ed) (found_before way table P s d t ed) (first_before table P d t ed 0) allowance)
  policy_before_allowed =
      reply_allowed (found_before way table P s d t ed) (first_before table P d t ed 0) table P s d t ed
      (λ e b.
      subst (FirstBlocker table P s d t ed) (policy_before-found e).blocker
      (one_blocks way table P s d t ed (admitted_fair table P s d t ed wide e) ((policy_before-found e).blocked ∙ b)))
      (λ e b. none_blocks way table P s d t ed (admitted_fair table P s d t ed wide e) ((policy_before-found e).blocked ∙ b))

  -- "The first crew list is the same as under the old rule, and so are verdict and blocker whenever both decide"
  pub policy_before_same : (a b : ℕ) (r q : Reply) → PolicyReply way table P s d t ed a r → PolicyReplyBefore way table P s d t ed b q
      → r.verdict ≢ Undecided → q.verdict ≢ Undecided → (r.verdict ≡ q.verdict) × (r.crews ≡ q.crews) × (r.blocker ≡ q.blocker)
  policy_before_same a b r q =
      decided_alike table P s d t ed wide (found way table P s d t ed) (found_before way table P s d t ed) (first_list table P d t ed 0) (first_before table P d t ed 0)
      (λ e. (same_as_before (admitted_fair table P s d t ed wide e) t ed 0).crews) a b r q

  -- a question is decided wherever it was decided by the rule before, with no more units
  pub policy_before_decides : (a : ℕ) (r q : Reply) → PolicyReply way table P s d t ed a r → PolicyReplyBefore way table P s d t ed a q
      → q.verdict ≢ Undecided → (r.verdict ≢ Undecided) × (r.units ≤ q.units)
  policy_before_decides a r q k m =
      decided_sooner table P s d t ed wide (found_before way table P s d t ed) (found way table P s d t ed) (first_before table P d t ed 0) (first_list table P d t ed 0)
      a q r (λ e. (policy_before-found e).need) m k
