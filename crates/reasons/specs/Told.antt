-- What a reply to "why" tells, said of persons and their accounts with no word of merging but in the need: `why_told` shows that each reply that may
-- come back does. Nothing here is proved: these are definitions.
use Rattle.std.specs.Prelude.{◌≡◌, ◌↔◌, List, ℕ, ◌≤◌, ◌<◌, Err, Ok}
use Rattle.std.specs.Int.Count.{ones}
use Rattle.sets.specs.Sets.{bit, Has}
use Rattle.sets.specs.Arrays.{at}
use Rattle.roster.specs.declared.Refusal.{Refusal}
use Rattle.roster.specs.declared.Reply.{Reply}
use Rattle.accounts.specs.declared.Accounts.{Accounts}
use Rattle.accounts.specs.Persons.{rows_of, person}
use Rattle.accounts.specs.Meaning.{PersonCrews, PersonsBlock}
use Rattle.questions.specs.Asked.{NamedAsked}
use Rattle.questions.specs.Laws.Demands.{persons_ruling}
use Rattle.reasons.specs.declared.Explanation.{Explanation}
use Rattle.reasons.specs.declared.Explanation.TheVariants.{Nothing, Undecided, Refused}
use Rattle.reasons.specs.declared.Explained.{Explained}
use Rattle.reasons.specs.Reasons.{ReasonBy, reason_number}
use Rattle.reasons.specs.Replies.{need_why}

-- person i is not away and has an account that holds p
abbrev pub HolderHere : Accounts → (A p i : ℕ) → Type 0
HolderHere a A p i = (bit A i ≡ 0) × ((u : ℕ) × (u < rows_of a) × (person a u ≡ i) × Has (at a.holdings u) p)

-- a permission of the task of which the set of such persons has fewer than d
abbrev pub PersonsScarce : Accounts → (P d A p : ℕ) → Type 0
PersonsScarce a P d A p = Has P p × ((set : ℕ) × ((i : ℕ) → Has set i ↔ HolderHere a A p i) × (ones set < d))

-- the reason why the absence of the persons A blocks
abbrev pub PersonsReason : Accounts → (P d t ed A : ℕ) → Explanation → Type 0
PersonsReason a P d t ed A =
    ReasonBy (PersonsScarce a P d A) ((crew : List ℕ) × PersonCrews a P 1 t ed A crew) (PersonsBlock a P 1 t ed A) (PersonsBlock a P d t ed A)

-- one of the three is given
abbrev pub GivesReason : Explained → Type 0
GivesReason r = 1 ≤ reason_number r.why

-- nothing is refused of the question
abbrev pub Admits : Accounts → (P d t ed A : ℕ) → Type 0
Admits a P d t ed A = persons_ruling a P d t ed A ≡ Ok tt

pub record Tells (a : Accounts) (P d t ed A allowance : ℕ) (r : Explained) : Type 0 where
  -- refused as the named question is
  pub refused : (refusal : Refusal) → (r.why ≡ Refused refusal) ↔ (persons_ruling a P d t ed A ≡ Err refusal)
  -- undecided exactly if the allowance is below the need of the named question
  pub undecided : (r.why ≡ Undecided) ↔ (Admits a P d t ed A × (allowance < need_why a P d t ed A))
  -- else nothing to explain exactly if there are crews
  pub nothing : (r.why ≡ Nothing) ↔ (Admits a P d t ed A × (need_why a P d t ed A ≤ allowance) × ((crews : List ℕ) × PersonCrews a P d t ed A crews))
  -- "when decided, a reason comes exactly if the absence blocks"
  pub given : GivesReason r ↔ (Admits a P d t ed A × (need_why a P d t ed A ≤ allowance) × PersonsBlock a P d t ed A)
  -- "the reason given is true", and "no earlier one is"
  pub holds : GivesReason r → PersonsReason a P d t ed A r.why
  -- "its units are that question's alone"
  pub units : (named : Reply) → NamedAsked a P d t ed A allowance named → r.units ≡ named.units
