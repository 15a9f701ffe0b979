-- The reply to "why" as a definition that runs: `why_allowed` shows that it is allowed for every input, `why_same` that no other is. Nothing here is
-- proved: these are definitions.
use Rattle.std.specs.Prelude.{Bool, true, false, ◌&&◌, ℕ, leb, ltb, Err, Ok, Result}
use Rattle.std.specs.Int.Count.{ones}
use Rattle.sets.specs.Members.{hasb}
use Rattle.roster.specs.declared.Table.{Table}
use Rattle.crews.specs.Filling.{Outcome, filling}
use Rattle.accounts.specs.declared.Accounts.{Accounts}
use Rattle.accounts.specs.Persons.{first, merged}
use Rattle.questions.specs.Laws.Demands.{persons_ruling}
use Rattle.reasons.specs.declared.Explanation.{Explanation}
use Rattle.reasons.specs.declared.Explanation.TheVariants.{Scarce, NoCrew, Overlap, Nothing, Undecided, Refused}
use Rattle.reasons.specs.declared.Explained.{Explained}
use Rattle.reasons.specs.Reasons.{holders_here}
use Rattle.reasons.specs.Replies.{explained_with}
use Rattle.roster.specs.declared.Refusal.{Refusal}

-- whether p is a permission of P, and the set of those who are there for it has fewer than d members
unfoldable pub scarce_in : (ℕ → ℕ) → (P d p : ℕ) → Bool
scarce_in there P d p = hasb P p && ltb (ones (there p)) d

-- the lowest permission that is scarce; 32 if none is
abbrev pub lowest_scarce : Table → (P d A : ℕ) → ℕ
lowest_scarce table P d A = first (scarce_in (holders_here table P A) P d) 32

-- the reason, where the lowest scarce permission is this one and filling one crew comes to o
abbrev pub reason_by : ℕ → Outcome → Explanation
reason_by lowest o =
    elim (ltb lowest 32) [
      | true ↦ Scarce lowest
      | false ↦ elim o.found [ true ↦ Overlap | false ↦ NoCrew ]
    ]

abbrev pub reason_of : Table → (P d t ed A : ℕ) → Explanation
reason_of table P d t ed A = reason_by (lowest_scarce table P d A) (filling table P 1 t ed A)

-- the reply under this ruling and allowance, where filling comes to o and the reason is this one
abbrev pub explained_by : Result Unit Refusal → ℕ → Outcome → Explanation → Explained
explained_by (Err refusal) allowance o reason = explained_with (Refused refusal) 0
explained_by (Ok tt) allowance o reason =
    elim (leb o.need allowance) [
      | true ↦ explained_with (elim o.found [ true ↦ Nothing | false ↦ reason ]) o.need
      | false ↦ explained_with Undecided allowance
    ]

abbrev pub why_reply_of : Accounts → (P d t ed A allowance : ℕ) → Explained
why_reply_of a P d t ed A allowance =
    explained_by (persons_ruling a P d t ed A) allowance (filling (merged a) P d t ed A) (reason_of (merged a) P d t ed A)
