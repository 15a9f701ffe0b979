-- What a reply over accounts under one edition tells of the other. Assumes nothing.
use Rattle.std.specs.Prelude.{◌≡◌, ◌≢◌, ℕ, ◌^◌, ◌<◌}
use Rattle.std.proofs.Common.{sym, ap, ◌∙◌, inl, inr, ⊎_elim, arith}
use Rattle.roster.specs.declared.Verdict.TheVariants.{Yes, No, Undecided}
use Rattle.roster.specs.declared.Reply.{Reply}
use Rattle.roster.proofs.Laws.Rulings.{policy_rows, policy_few}
use Rattle.absences.specs.declared.Way.{Way}
use Rattle.absences.proofs.Laws.Editions as tables
use Rattle.accounts.specs.declared.Accounts.{Accounts}
use Rattle.accounts.specs.Persons.{persons, merged}
use Rattle.accounts.proofs.Laws.Rulings.{ManyOrFew, many-or_few}
use Rattle.accounts.proofs.Laws.Merged.{persons_few}
use Rattle.questions.specs.Asked.{PolicyAsked}
use Rattle.questions.specs.Laws.Behind.{behind_both}
use Rattle.questions.specs.Laws.Demands.{Admits}

-- "yes" under the second edition implies "yes" under the first, wherever that is decided
pub second_yes_first : (way other : Way) (a : Accounts) (P s d t : ℕ) → P < 2 ^ 32 → (x y : ℕ) (r q : Reply)
    → PolicyAsked way a P s d t 2 x r → PolicyAsked other a P s d t 1 y q → r.verdict ≡ Yes → q.verdict ≢ Undecided → q.verdict ≡ Yes
second_yes_first way other a P s d t wide x y r q k m v n =
    ⊎_elim
    (λ e. sym (ap Reply.verdict e) ∙ v)
    (λ h. tables.second_yes_first way other (merged a) P s d t wide x y r q h.0 h.1 v n)
    (behind_both _ _ _ r q k m)

-- with crews of one person the second edition says "no", and nobody away blocks
pub single_no : (way : Way) (a : Accounts) (P s d : ℕ) → P < 2 ^ 32 → (x : ℕ) (r : Reply) → PolicyAsked way a P s d 1 2 x r → Admits a P s d 1 2
    → r.verdict ≢ Undecided → (r.verdict ≡ No) × (r.blocker ≡ 0)
single_no way a P s d wide x r k ok n = go (many-or_few a)
  where
    go : ManyOrFew a → (r.verdict ≡ No) × (r.blocker ≡ 0)
    go (inl (l, e)) =
        let many = (policy_rows a.rows P s d 1 2).1 l in
        let z : ◌≡◌ {A = ℕ} 0 1 = cc in
        absurd (omega arith)
    go (inr (l, e)) =
        tables.single_no way (merged a) P s d wide x r (k.admitted e) (policy_few (persons a) a.rows P s d 1 2 (persons_few a) l ∙ ok) n
