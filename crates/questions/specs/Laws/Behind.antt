-- A reply behind a ruling: what is needed to be one, that there is one, and that two are alike where those allowed behind it are. Assumes nothing.
use Rattle.std.specs.Prelude.{◌≡◌, refl, ◌⊎◌, ℕ, Err, Ok, Result}
use Rattle.std.proofs.Common.{sym, ap, ◌∙◌, inl, inr, ⊎_elim, arith}
use Rattle.roster.specs.declared.Refusal.{Refusal}
use Rattle.roster.specs.declared.Verdict.TheVariants.{Refused}
use Rattle.roster.specs.declared.Reply.{Reply}
use Rattle.roster.specs.Replies.{no_crews, reply_with}
use Rattle.questions.specs.Asked.{Behind}
use Rattle.questions.specs.Replied.{behind}

module _ (first : Result Unit Refusal) (Allowed : Reply → Type 0) (r : Reply) where
  pub behind_refused : (refusal : Refusal) → first ≡ Err refusal → r ≡ reply_with no_crews 0 0 0 (Refused refusal) → Behind first Allowed r
  behind_refused refusal e h = record {
    refused = λ other o. let same : refusal ≡ other = cc in h ∙ ap (λ (x : Refusal). reply_with no_crews 0 0 0 (Refused x)) same;
    admitted = λ o. let z : ◌≡◌ {A = ℕ} 0 1 = cc in absurd (omega arith);
  }

  pub behind_admitted : first ≡ Ok tt → Allowed r → Behind first Allowed r
  behind_admitted e h = record {
    refused = λ refusal o. let z : ◌≡◌ {A = ℕ} 0 1 = cc in absurd (omega arith);
    admitted = λ o. h;
  }

pub behind_is : (first : Result Unit Refusal) (Allowed : Reply → Type 0) (r : Reply) → Allowed r → Behind first Allowed (behind first r)
behind_is (Ok tt) Allowed r h = behind_admitted (Ok tt) Allowed r refl h
behind_is (Err refusal) Allowed r h = behind_refused (Err refusal) Allowed (reply_with no_crews 0 0 0 (Refused refusal)) refusal refl refl

module _ (first : Result Unit Refusal) (One Other : Reply → Type 0) (r q : Reply) (a : Behind first One r) (b : Behind first Other q) where
  -- both are one refusal, or both are allowed behind the ruling
  pub behind_both : (r ≡ q) ⊎ (One r × Other q)
  behind_both = go first refl
    where
      go : (x : Result Unit Refusal) → first ≡ x → (r ≡ q) ⊎ (One r × Other q)
      go (Err refusal) e = inl (a.refused refusal e ∙ sym (b.refused refusal e))
      go (Ok tt) e = inr (a.admitted e, b.admitted e)

  pub behind_same : (One r → Other q → r ≡ q) → r ≡ q
  behind_same same = ⊎_elim (λ e. e) (λ h. same h.0 h.1) behind_both
