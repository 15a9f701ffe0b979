-- The question for a named absence, held against the rule before, over all replies that the two contracts allow: a reply now and one by that
-- rule are the same but for the units wherever both decide, and a question is decided now wherever it was, with no more units.
-- Assumes nothing.
use Rattle.std.specs.Prelude.{◌≡◌, refl, ◌⊎◌, ◌≢◌, List, ℕ, ◌^◌, ◌≤◌, ◌<◌, Err, Ok}
use Rattle.std.proofs.Common.{sym, ap, ◌∙◌, inl, inr, ⊎_elim, arith}
use Rattle.std.proofs.Math.Decide.{dec_le}
use Rattle.roster.specs.declared.Table.{Table}
use Rattle.roster.specs.declared.Refusal.{Refusal}
use Rattle.roster.specs.declared.Verdict.TheVariants.{Undecided}
use Rattle.roster.specs.declared.Reply.{Reply}
use Rattle.roster.specs.Meaning.{CrewList, Blocks}
use Rattle.roster.specs.Refusals.{named_ruling}
use Rattle.crews.specs.Filling.{Outcome, filling, filling_before}
use Rattle.crews.specs.Named.{NamedReply, NamedReplyBy, NamedReplyBefore}
use Rattle.crews.proofs.Laws.Ordered.{Alike}
use Rattle.crews.proofs.Laws.Before.{same_as_before}
use Rattle.crews.proofs.Laws.Exact.{decide}
use Rattle.crews.proofs.Laws.Named.{admitted_fair, ruled}

-- the same but for the units
abbrev Same : Reply → Reply → Type 0
Same r q = (r.verdict ≡ q.verdict) × (r.crews ≡ q.crews) × (r.blocker ≡ q.blocker)

module _ (table : Table) (P d t ed A : ℕ) where
  abbrev Admitted : Type 0
  Admitted = named_ruling table.rows P d t ed A ≡ Ok tt

  -- what is decided had allowance enough
  enough : (o : Outcome) (allowance : ℕ) (r : Reply) → NamedReplyBy o table P d t ed A allowance r → Admitted → r.verdict ≢ Undecided → o.need ≤ allowance
  enough o allowance r a ok n = go (dec_le o.need allowance)
    where
      go : Dec (o.need ≤ allowance) → o.need ≤ allowance
      go (yes l) = l
      go (no m) = absurd (n (ap (λ (x : Reply). x.verdict) (a.undecided ok (omega arith))))

  -- what has allowance enough is decided, at the need
  decided : (o : Outcome) (allowance : ℕ) (r : Reply) → NamedReplyBy o table P d t ed A allowance r → Admitted → o.need ≤ allowance
      → ((list : List ℕ) × CrewList table P d t ed A list) ⊎ Blocks table P d t ed A → (r.verdict ≢ Undecided) × (r.units ≡ o.need)
  decided o allowance r a ok l (inl c) =
      let e = a.crews ok l c.0 c.1 in
      (λ v. let z = sym (ap (λ (x : Reply). x.verdict) e) ∙ v in let y : ◌≡◌ {A = ℕ} 0 1 = cc in omega arith, ap (λ (x : Reply). x.units) e)
  decided o allowance r a ok l (inr b) =
      let e = a.none ok l b in
      (λ v. let z = sym (ap (λ (x : Reply). x.verdict) e) ∙ v in let y : ◌≡◌ {A = ℕ} 0 1 = cc in omega arith, ap (λ (x : Reply). x.units) e)

  -- P has 32 bits
  module _ (wide : P < 2 ^ 32) where
    alike : Admitted → Alike (filling table P d t ed A) (filling_before table P d t ed A)
    alike ok = same_as_before (admitted_fair table P d t ed A wide ok).0 t ed A

    found-or_blocks : Admitted → ((list : List ℕ) × CrewList table P d t ed A list) ⊎ Blocks table P d t ed A
    found-or_blocks ok = let f = admitted_fair table P d t ed A wide ok in decide f.0 t ed A f.1

    -- "The first crew list is the same as under the old rule, and so are verdict and blocker whenever both decide"
    pub named-before_same : (a b : ℕ) (r q : Reply) → NamedReply table P d t ed A a r → NamedReplyBefore table P d t ed A b q
        → r.verdict ≢ Undecided → q.verdict ≢ Undecided → (r.verdict ≡ q.verdict) × (r.crews ≡ q.crews) × (r.blocker ≡ q.blocker)
    named-before_same a b r q k m u v = ⊎_elim (λ ok. admitted ok (found-or_blocks ok)) (λ x. refused x.0 x.1) (ruled (named_ruling table.rows P d t ed A))
      where
        same : {x y : Reply} → r ≡ x → q ≡ y → Same x y → Same r q
        same e f s = rw e (rw f s)

        refused : (refusal : Refusal) → named_ruling table.rows P d t ed A ≡ Err refusal → Same r q
        refused refusal e = same (k.refused refusal e) (m.refused refusal e) (refl, refl, refl)

        admitted : Admitted → ((list : List ℕ) × CrewList table P d t ed A list) ⊎ Blocks table P d t ed A → Same r q
        admitted ok (inl c) =
            same (k.crews ok (enough (filling table P d t ed A) a r k ok u) c.0 c.1)
            (m.crews ok (enough (filling_before table P d t ed A) b q m ok v) c.0 c.1) (refl, (alike ok).crews, refl)
        admitted ok (inr n) =
            same (k.none ok (enough (filling table P d t ed A) a r k ok u) n) (m.none ok (enough (filling_before table P d t ed A) b q m ok v) n) (refl, refl, refl)

    -- a question is decided wherever it was decided under the rule before, with no more units
    pub named-before_decides : (a : ℕ) (r q : Reply) → NamedReply table P d t ed A a r → NamedReplyBefore table P d t ed A a q
        → q.verdict ≢ Undecided → (r.verdict ≢ Undecided) × (r.units ≤ q.units)
    named-before_decides a r q k m v = ⊎_elim admitted (λ x. refused x.0 x.1) (ruled (named_ruling table.rows P d t ed A))
      where
        refused : (refusal : Refusal) → named_ruling table.rows P d t ed A ≡ Err refusal → (r.verdict ≢ Undecided) × (r.units ≤ q.units)
        refused refusal e =
            let same = k.refused refusal e ∙ sym (m.refused refusal e) in
            (λ z. v (sym (ap (λ (x : Reply). x.verdict) same) ∙ z), omega (arith, ap (λ (x : Reply). x.units) same))

        admitted : Admitted → (r.verdict ≢ Undecided) × (r.units ≤ q.units)
        admitted ok =
            let l = enough (filling_before table P d t ed A) a q m ok v in
            let now = decided (filling table P d t ed A) a r k ok (omega (arith, (alike ok).need)) (found-or_blocks ok) in
            let then = decided (filling_before table P d t ed A) a q m ok l (found-or_blocks ok) in
            (now.0, omega (arith, now.1, then.1, (alike ok).need))
