-- The reply is that of the whole list of absences: nobody absent first, then the sizes from 1 on. Assumes nothing.
use Rattle.std.specs.Prelude.{Ok, Err, Result}
use mathlib.Core.Path.{◌≡◌, sym, ap, ◌∙◌}
use mathlib.Core.Logic.{◌⊎◌, inl, inr, ◌≢◌}
use mathlib.Core.Bool.{true, false}
use mathlib.Core.List.{List, [], ◌∷◌}
use Prim.Native.Nat.{ℕ, ◌+◌, ◌≤◌}
use native.Mathlib.Nat.{zero-add}
use native.Mathlib.Omega.{arith}
use Rattle.roster.specs.declared.Table.{Table}
use Rattle.roster.specs.declared.Reply.{Reply}
use Rattle.roster.specs.declared.Verdict.{Verdict}
use Rattle.roster.specs.declared.Verdict.TheVariants as verdict
use Rattle.roster.specs.Refusals.{policy_ruling}
use Rattle.roster.specs.Replies.{reply_with}
use Rattle.crews.specs.Named.{first_list}
use Rattle.crews.specs.declared.Ending.{Ending}
use Rattle.crews.specs.declared.Filled.{Filled}
use Rattle.crews.specs.Filling.{filling}
use Rattle.crews.specs.Filled.{filled_of}
use Rattle.crews.proofs.Laws.Steps as steps
use Rattle.absences.specs.declared.Search.{Search}
use Rattle.absences.specs.declared.Stop.{Stop}
use Rattle.absences.specs.declared.Stop.TheVariants.{Blocked, Undecided}
use Rattle.absences.specs.declared.Way.{Way}
use Rattle.absences.specs.Tried.{sizes_to, Found, per_absence, weighed}
use Rattle.absences.specs.Asked.{found}
use Rattle.absences.specs.Replied.{replied_by, policy_reply_of}
use Rattle.absences.specs.Inner.Walk.{walked_from, walked_of, walked_by, reply_from, searched_by}
use Rattle.absences.proofs.Laws.Weighed.{and_then, weighed-append}
use Rattle.absences.proofs.Laws.Decided.{verdict_late, verdict_within}
use Rattle.absences.proofs.Absent.{absent_told}
use Rattle.absences.proofs.Spent.{Judged, is_open, is_blocked, is_over, judge, goes_stops, turn_open, turn_stopped}
use Rattle.roster.specs.declared.Refusal.{Refusal}

-- the reply from where the search has come to is that from what the absences come to
reply_told : (most : ℕ) (w : Found) (r : Result ℕ Stop) (crews : List ℕ) → r ≡ walked_of most 0 w → reply_from crews most r ≡ replied_by (Ok tt) w crews most
reply_told most w r crews e = go (judge most 0 w r e)
  where
    says : Verdict → Reply
    says v = reply_with crews w.blocker w.need most v

    told : {x : Result ℕ Stop} → r ≡ x → reply_from crews most r ≡ reply_from crews most x
    told q = ap (reply_from crews most) q

    paid : (v : Verdict) → reply_with crews w.blocker (0 + w.need) most v ≡ says v
    paid v = ap (λ (n : ℕ). reply_with crews w.blocker n most v) (zero-add w.need)

    go : Judged most 0 w r → reply_from crews most r ≡ replied_by (Ok tt) w crews most
    go (is_open b q l) = told q ∙ paid verdict.Yes ∙ ap says (sym (verdict_within w most false (omega arith) b))
    go (is_blocked b q l) = told q ∙ paid verdict.No ∙ ap says (sym (verdict_within w most true (omega arith) b))
    go (is_over l q) = told q ∙ ap says (sym (verdict_late w most (omega arith)))

-- the first absence tried is that of nobody, and `first` is what its filling says
module _ (way : Way) (table : Table) (ed : ℕ) (s : Search) (most : ℕ) (first : Filled)
    (e : first ≡ filled_of s.wanted.allowance per_absence (filling table s.wanted.task s.wanted.crews s.wanted.size ed 0)) (nobody : Result ℕ Stop)
    (f : nobody ≡ walked_from first.ending 0 first.units) where
  abbrev tries : List ℕ → Found
  tries = weighed (filling table s.wanted.task s.wanted.crews s.wanted.size ed)

  abbrev rest : List ℕ
  rest = sizes_to way table s.wanted.task most

  abbrev crews : List ℕ
  crews = (filling table s.wanted.task s.wanted.crews s.wanted.size ed 0).crews

  alone : nobody ≡ walked_of s.wanted.allowance 0 (tries (0 ∷ []))
  alone = f ∙ absent_told table s.wanted.task s.wanted.crews s.wanted.size ed s.wanted.allowance 0 0 first e

  both : tries (0 ∷ rest) ≡ and_then (tries (0 ∷ [])) (tries rest)
  both = weighed-append (filling table s.wanted.task s.wanted.crews s.wanted.size ed) (0 ∷ []) rest

  -- the reply from r, if r is what all absences come to
  whole : (r : Result ℕ Stop) → r ≡ walked_of s.wanted.allowance 0 (and_then (tries (0 ∷ [])) (tries rest))
      → reply_from crews s.wanted.allowance r ≡ searched_by way table ed s most
  whole r h = reply_told s.wanted.allowance (tries (0 ∷ rest)) r crews (h ∙ ap (walked_of s.wanted.allowance 0) (sym both))

  -- unless the allowance is spent the filling has the first list, or none
  crews-first : nobody ≢ Err Undecided → first.crews ≡ crews
  crews-first n = go (steps.judge s.wanted.allowance per_absence (filling table s.wanted.task s.wanted.crews s.wanted.size ed 0) first e)
    where
      has : per_absence + (filling table s.wanted.task s.wanted.crews s.wanted.size ed 0).need ≤ s.wanted.allowance → first.crews ≡ crews
      has h = ap (λ (x : Filled). x.crews) (e ∙ steps.filled-fits s.wanted.allowance per_absence (filling table s.wanted.task s.wanted.crews s.wanted.size ed 0) h)

      go : steps.Judged s.wanted.allowance per_absence (filling table s.wanted.task s.wanted.crews s.wanted.size ed 0) first → first.crews ≡ crews
      go (steps.is_complete b w h) = has h
      go (steps.is_exhausted b w u l) = has (omega arith)
      go (steps.is_over h w) = absurd (n (f ∙ ap (λ (z : Ending). walked_from z 0 first.units) w))

  -- the reply is the same from the crews that the filling has as from the first list: where they differ, it has no crews
  with_first : (r : Result ℕ Stop) → ((r ≡ Err Undecided) ⊎ (nobody ≢ Err Undecided)) → reply_from first.crews s.wanted.allowance r ≡ reply_from crews s.wanted.allowance r
  with_first r (inl q) = rw q
  with_first r (inr n) = ap (λ (c : List ℕ). reply_from c s.wanted.allowance r) (crews-first n)

  pub within_first : (n : ℕ) → nobody ≡ Ok n → n ≤ s.wanted.allowance
  within_first n o = (turn_open s.wanted.allowance 0 (tries (0 ∷ [])) (tries rest) nobody alone n o).1

  pub all_open : (r : Result ℕ Stop) (n : ℕ) → nobody ≡ Ok n → r ≡ walked_by table ed s n rest
      → reply_from first.crews s.wanted.allowance r ≡ searched_by way table ed s most
  all_open r n o h =
      with_first r (inr (λ q. goes_stops o q))
      ∙ whole r (h ∙ sym (turn_open s.wanted.allowance 0 (tries (0 ∷ [])) (tries rest) nobody alone n o).0)

  pub all_stopped : (stop : Stop) → nobody ≡ Err stop → reply_from first.crews s.wanted.allowance nobody ≡ searched_by way table ed s most
  all_stopped stop o =
      with_first nobody (spent stop o)
      ∙ whole nobody (turn_stopped s.wanted.allowance 0 (tries (0 ∷ [])) (tries rest) nobody alone stop o)
    where
      spent : (x : Stop) → nobody ≡ Err x → (nobody ≡ Err Undecided) ⊎ (nobody ≢ Err Undecided)
      spent Undecided q = inl q
      spent (Blocked A n) q = inr (λ u. let z : ◌≡◌ {A = ℕ} 0 1 = cc in omega arith)

-- the definition's reply, by the ruling
pub ruled : (way : Way) (table : Table) (P away d t ed allowance : ℕ) (x : Result Unit Refusal) → policy_ruling table.rows P away d t ed ≡ x
    → policy_reply_of way table P away d t ed allowance ≡ replied_by x (found way table P away d t ed) (first_list table P d t ed 0) allowance
unfolding policy_reply_of
ruled way table P away d t ed allowance x e =
    ap (λ (y : Result Unit Refusal). replied_by y (found way table P away d t ed) (first_list table P d t ed 0) allowance) e
