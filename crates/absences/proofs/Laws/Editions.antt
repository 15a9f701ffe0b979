-- What a reply under one edition tells of the other: a "yes" under the second is one under the first wherever that is decided, and with crews of
-- one the second says "no" with nobody away. Assumes nothing.
use Rattle.std.specs.Prelude.{◌≡◌, refl, ◌≢◌, ℕ, ◌^◌, ◌≤◌, ◌<◌}
use Rattle.std.proofs.Common.{sym, ◌∙◌, inl, arith, pow_pos}
use Rattle.std.proofs.Math.Decide.{dec_le, ℕ_discrete}
use Rattle.sets.proofs.Sets.{ones_none, ones_pos}
use Rattle.roster.specs.declared.Table.{Table}
use Rattle.roster.specs.declared.Verdict.TheVariants.{Yes, No, Undecided}
use Rattle.roster.specs.declared.Reply.{Reply}
use Rattle.roster.specs.Meaning.{Holds}
use Rattle.roster.specs.Refusals.{policy_ruling}
use Rattle.roster.proofs.Laws.Rulings.{policy_within}
use Rattle.roster.proofs.Laws.Editions.{holds-first, single_none}
use Rattle.absences.specs.declared.Way.{Way}
use Rattle.absences.specs.Asked.{Admits, need_policy, PolicyReply, Tells}
use Rattle.absences.proofs.Laws.Demands.{policy_exactly}

-- what is refused of a policy under the one is refused of it under the other
pub editions_ruled : (rows P s d t : ℕ) → policy_ruling rows P s d t 2 ≡ policy_ruling rows P s d t 1
unfolding policy_ruling
editions_ruled rows P s d t = refl

-- what is admitted and not undecided had allowance enough
enough : (way : Way) (table : Table) (P s d t ed allowance : ℕ) (r : Reply) → Tells way table P s d t ed allowance r → Admits table P s d t ed
    → r.verdict ≢ Undecided → need_policy way table P s d t ed ≤ allowance
enough way table P s d t ed allowance r tells ok n = go (dec_le (need_policy way table P s d t ed) allowance)
  where
    go : Dec (need_policy way table P s d t ed ≤ allowance) → need_policy way table P s d t ed ≤ allowance
    go (yes l) = l
    go (no m) = absurd (n (tells.undecided.1 (ok, omega arith)))

-- whatever the search and the allowance: "yes" under the second edition implies "yes" under the first, wherever that is decided
pub second_yes_first : (way other : Way) (table : Table) (P s d t : ℕ) → P < 2 ^ 32 → (a b : ℕ) (r q : Reply)
    → PolicyReply way table P s d t 2 a r → PolicyReply other table P s d t 1 b q → r.verdict ≡ Yes → q.verdict ≢ Undecided → q.verdict ≡ Yes
second_yes_first way other table P s d t wide a b r q k m v n =
    let second = (policy_exactly way table P s d t 2 wide a r k).yes.0 v in
    let first = policy_exactly other table P s d t 1 wide b q m in
    let ok = sym (editions_ruled table.rows P s d t) ∙ second.0 in
    first.yes.1 (ok, enough other table P s d t 1 b q first ok n, holds-first table P s d t 2 second.2)

-- "With t = 1 no crew exists, which is 'no', not a refusal": nobody away blocks
module _ (way : Way) (table : Table) (P s d : ℕ) (wide : P < 2 ^ 32) (allowance : ℕ) (r : Reply) (k : PolicyReply way table P s d 1 2 allowance r)
    (ok : Admits table P s d 1 2) where
  some : 1 ≤ d
  some = (policy_within table.rows P s d 1 2 ok).some

  tells : Tells way table P s d 1 2 allowance r
  tells = policy_exactly way table P s d 1 2 wide allowance r k

  fails : Holds table P s d 1 2 → ⊥
  fails h = h 0 (record { rows = pow_pos table.rows; few = omega (arith, ones_none) }) (single_none table P d 0 some)

  pub single_no : r.verdict ≢ Undecided → (r.verdict ≡ No) × (r.blocker ≡ 0)
  single_no n = (no_crew, nobody (ℕ_discrete r.blocker 0))
    where
      no_crew : r.verdict ≡ No
      no_crew = tells.no.1 (ok, enough way table P s d 1 2 allowance r tells ok n, fails)

      nobody : Dec (r.blocker ≡ 0) → r.blocker ≡ 0
      nobody (yes e) = e
      nobody (no m) =
          let least = tells.blocker no_crew in
          absurd (least.first 0 (pow_pos table.rows) (omega (arith, ones_none), single_none table P d 0 some)
          (inl (omega (arith, ones_none, ones_pos r.blocker (omega (arith, m))))))
