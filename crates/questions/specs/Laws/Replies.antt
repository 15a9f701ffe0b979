-- Every question over accounts has one reply; where every row is its own person it is that of before; and only which rows share a person number
-- matters. Assumes nothing.
use Rattle.std.specs.Prelude.{◌≡◌, ℕ, ◌^◌, ◌<◌, ltb, Ok, Result}
use Rattle.std.proofs.Common.{sym, ◌∙◌, subst, inl, inr}
use Rattle.std.proofs.Math.Path.{ap}
use Rattle.roster.specs.declared.Table.{Table}
use Rattle.roster.specs.declared.Refusal.TheVariants.{Rows}
use Rattle.roster.specs.declared.Reply.{Reply}
use Rattle.roster.specs.Limits.{row_limit}
use Rattle.roster.specs.Refusals.{refused_if}
use Rattle.roster.proofs.Laws.Rulings.{policy_rows, named-rows}
use Rattle.crews.specs.Named.{NamedReply}
use Rattle.crews.proofs.Laws.Named.{named_same, named_agree}
use Rattle.crews.proofs.Laws.Allowed.{named_allowed}
use Rattle.absences.specs.declared.Way.{Way}
use Rattle.absences.specs.Asked.{PolicyReply}
use Rattle.absences.proofs.Laws.Demands.{policy_same, policy_allowed}
use Rattle.absences.proofs.Laws.Same.{policy_agree}
use Rattle.accounts.specs.declared.Accounts.{Accounts}
use Rattle.accounts.specs.Persons.{merged}
use Rattle.accounts.specs.Meaning.{row_by_row, Different, Alike}
use Rattle.accounts.specs.Refusals.{accounts_ruling}
use Rattle.accounts.proofs.Laws.Rulings.{ManyOrFew, many-or_few}
use Rattle.accounts.proofs.Laws.Merged.{own_table, renamed}
use Rattle.questions.specs.Asked.{Behind, PolicyAsked, NamedAsked}
use Rattle.questions.specs.Replied.{policy_answer_of, named_answer_of}
use Rattle.questions.specs.Laws.Behind.{behind_is, behind_same}
use Rattle.roster.specs.declared.Refusal.{Refusal}

-- ---- demand 1: every question has a reply, and only one

module _ (way : Way) (a : Accounts) (P s d t ed allowance : ℕ) (wide : P < 2 ^ 32) where
  pub policy_answered : PolicyAsked way a P s d t ed allowance (policy_answer_of way a P s d t ed allowance)
  policy_answered = behind_is (accounts_ruling a) _ _ (policy_allowed way (merged a) P s d t ed wide allowance)

  -- "any two replies allowed for one input are equal"
  pub policy_asked_same : (r q : Reply) → PolicyAsked way a P s d t ed allowance r → PolicyAsked way a P s d t ed allowance q → r ≡ q
  policy_asked_same r q k m = behind_same (accounts_ruling a) _ _ r q k m (policy_same way (merged a) P s d t ed wide allowance r q)

module _ (a : Accounts) (P d t ed A allowance : ℕ) (wide : P < 2 ^ 32) where
  pub named_answered : NamedAsked a P d t ed A allowance (named_answer_of a P d t ed A allowance)
  named_answered = behind_is (accounts_ruling a) _ _ (named_allowed (merged a) P d t ed A allowance wide)

  pub named-asked_same : (r q : Reply) → NamedAsked a P d t ed A allowance r → NamedAsked a P d t ed A allowance q → r ≡ q
  named-asked_same r q k m = behind_same (accounts_ruling a) _ _ r q k m (named_same (merged a) P d t ed A allowance wide r q)

-- ---- every row its own person: the reply is that of before

module _ (a : Accounts) (different : Different a) where
  pub policy_as_before : (way : Way) (P s d t ed allowance : ℕ) → P < 2 ^ 32 → (r q : Reply)
      → PolicyAsked way a P s d t ed allowance r → PolicyReply way (row_by_row a) P s d t ed allowance q → r ≡ q
  policy_as_before way P s d t ed allowance wide r q k m = go (many-or_few a)
    where
      go : ManyOrFew a → r ≡ q
      go (inl (l, e)) = k.refused Rows e ∙ sym (m.refused Rows ((policy_rows a.rows P s d t ed).1 l))
      go (inr (l, e)) = policy_agree way (merged a) (row_by_row a) P s d t ed allowance wide (own_table a different P l) r q (k.admitted e) m

  pub named_as_before : (P d t ed A allowance : ℕ) → P < 2 ^ 32 → (r q : Reply)
      → NamedAsked a P d t ed A allowance r → NamedReply (row_by_row a) P d t ed A allowance q → r ≡ q
  named_as_before P d t ed A allowance wide r q k m = go (many-or_few a)
    where
      go : ManyOrFew a → r ≡ q
      go (inl (l, e)) = k.refused Rows e ∙ sym (m.refused Rows ((named-rows a.rows P d t ed A).1 l))
      go (inr (l, e)) = named_agree (merged a) (row_by_row a) P d t ed A allowance wide (own_table a different P l) r q (k.admitted e) m

-- ---- only which rows share a person number matters

module _ (a b : Accounts) (alike : Alike a b) where
  ruled_alike : accounts_ruling a ≡ accounts_ruling b
  unfolding accounts_ruling
  ruled_alike = ap (λ (n : ℕ). refused_if (ltb row_limit n) Rows (Ok tt)) alike.count

  -- what is allowed behind the one is allowed behind the other
  behind_alike : (Allowed : Table → Reply → Type 0) (r : Reply) → Behind (accounts_ruling a) (Allowed (merged a)) r → Behind (accounts_ruling b) (Allowed (merged b)) r
  behind_alike Allowed r k =
      subst (λ (x : Result Unit Refusal). Behind x (Allowed (merged b)) r) ruled_alike
      (subst (λ (table : Table). Behind (accounts_ruling a) (Allowed table) r) (renamed a b alike) k)

  pub policy_renamed : (way : Way) (P s d t ed allowance : ℕ) → P < 2 ^ 32 → (r q : Reply)
      → PolicyAsked way a P s d t ed allowance r → PolicyAsked way b P s d t ed allowance q → r ≡ q
  policy_renamed way P s d t ed allowance wide r q k m =
      policy_asked_same way b P s d t ed allowance wide r q (behind_alike (λ (table : Table). PolicyReply way table P s d t ed allowance) r k) m

  pub named_renamed : (P d t ed A allowance : ℕ) → P < 2 ^ 32 → (r q : Reply)
      → NamedAsked a P d t ed A allowance r → NamedAsked b P d t ed A allowance q → r ≡ q
  named_renamed P d t ed A allowance wide r q k m =
      named-asked_same b P d t ed A allowance wide r q (behind_alike (λ (table : Table). NamedReply table P d t ed A allowance) r k) m
