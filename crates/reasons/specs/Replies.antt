-- What may be replied to "why", a field for each kind of reply. Refusals and units are those of the named absence, and it is undecided where that
-- one is, also where a reason could be told at once. Nothing here is proved: these are definitions.
use Rattle.std.specs.Prelude.{◌≡◌, List, ℕ, ◌≤◌, ◌<◌, Err, Ok}
use Rattle.roster.specs.declared.Policy.{Policy}
use Rattle.roster.specs.declared.Refusal.{Refusal}
use Rattle.roster.specs.Meaning.{CrewList, Blocks}
use Rattle.crews.specs.Named.{need_named}
use Rattle.accounts.specs.declared.Accounts.{Accounts}
use Rattle.accounts.specs.Persons.{merged}
use Rattle.questions.specs.Laws.Demands.{persons_ruling}
use Rattle.reasons.specs.declared.Explanation.{Explanation}
use Rattle.reasons.specs.declared.Explanation.TheVariants as explanation
use Rattle.reasons.specs.declared.Explained.{Explained}
use Rattle.reasons.specs.Reasons.{Reason}

abbrev pub explained_with : Explanation → ℕ → Explained
explained_with why units = record { why = why; units = units }

-- the need of the named question
abbrev pub need_why : Accounts → (P d t ed A : ℕ) → ℕ
need_why a P d t ed A = need_named (merged a) P d t ed A

pub record WhyReply (a : Accounts) (P d t ed A allowance : ℕ) (r : Explained) : Type 0 where
  -- "Refusals: 1 to 6 as there", and 25
  pub refused : (refusal : Refusal) → persons_ruling a P d t ed A ≡ Err refusal → r ≡ explained_with (explanation.Refused refusal) 0
  -- "It takes an allowance as the named-absence question does"
  pub undecided : persons_ruling a P d t ed A ≡ Ok tt → allowance < need_why a P d t ed A → r ≡ explained_with explanation.Undecided allowance
  -- "a non-blocking absence answers 'nothing to explain'"
  pub nothing : persons_ruling a P d t ed A ≡ Ok tt → need_why a P d t ed A ≤ allowance
      → (crews : List ℕ) → CrewList (merged a) P d t ed A crews → r ≡ explained_with explanation.Nothing (need_why a P d t ed A)
  -- "For a blocking absence give one reason"; "its units are that question's alone"
  pub reason : persons_ruling a P d t ed A ≡ Ok tt → need_why a P d t ed A ≤ allowance
      → Blocks (merged a) P d t ed A → Reason (merged a) P d t ed A r.why × (r.units ≡ need_why a P d t ed A)

-- the same for a policy as one value, of which the number away plays no part
abbrev pub WhyReplyFor : Accounts → Policy → (A allowance : ℕ) → Explained → Type 0
WhyReplyFor a p A allowance r = WhyReply a p.task p.crews p.size p.edition A allowance r
