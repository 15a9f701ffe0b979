-- The question for one named absence: what it is allowed to reply. Nothing here is proved: these are definitions.
use Rattle.std.specs.Prelude.{◌≡◌, true, false, List, ℕ, ◌≤◌, ◌<◌, leb, Err, Ok, Result}
use Rattle.roster.specs.declared.Table.{Table}
use Rattle.roster.specs.declared.Policy.{Policy}
use Rattle.roster.specs.declared.Refusal.{Refusal}
use Rattle.roster.specs.declared.Verdict.{Verdict}
use Rattle.roster.specs.declared.Verdict.TheVariants.{Undecided, Crews, None, Refused}
use Rattle.roster.specs.declared.Reply.{Reply}
use Rattle.roster.specs.Meaning.{CrewList, Blocks}
use Rattle.roster.specs.Refusals.{named_ruling}
use Rattle.roster.specs.Replies.{no_crews, reply_with}
use Rattle.crews.specs.Filling.{Outcome, filling, filling_before}

-- "The need of a named-absence question is its placements alone."
abbrev pub need_named : Table → ℕ → ℕ → ℕ → ℕ → ℕ → ℕ
need_named table P d t ed A = (filling table P d t ed A).need

-- "the first list": the one that filling ends with
abbrev pub first_list : Table → ℕ → ℕ → ℕ → ℕ → ℕ → List ℕ
first_list table P d t ed A = (filling table P d t ed A).crews

-- what may come back where filling comes to o, a field for each row of the table "What comes back"
pub record NamedReplyBy (o : Outcome) (table : Table) (P d t ed A allowance : ℕ) (r : Reply) : Type 0 where
  pub refused : (refusal : Refusal) → named_ruling table.rows P d t ed A ≡ Err refusal
      → r ≡ reply_with no_crews 0 0 allowance (Refused refusal)
  pub undecided : named_ruling table.rows P d t ed A ≡ Ok tt → allowance < o.need
      → r ≡ reply_with no_crews 0 o.need allowance Undecided
  pub crews : named_ruling table.rows P d t ed A ≡ Ok tt → o.need ≤ allowance
      → (list : List ℕ) → CrewList table P d t ed A list
      → r ≡ reply_with o.crews 0 o.need allowance Crews
  pub none : named_ruling table.rows P d t ed A ≡ Ok tt → o.need ≤ allowance → Blocks table P d t ed A
      → r ≡ reply_with no_crews 0 o.need allowance None

abbrev pub NamedReply : Table → ℕ → ℕ → ℕ → ℕ → ℕ → ℕ → Reply → Type 0
NamedReply table P d t ed A allowance r = NamedReplyBy (filling table P d t ed A) table P d t ed A allowance r

-- the same for a policy as one value, of which the number away plays no part
abbrev pub NamedReplyFor : Table → Policy → ℕ → ℕ → Reply → Type 0
NamedReplyFor table p A allowance r = NamedReply table p.task p.crews p.size p.edition A allowance r

-- the same under the rule before
abbrev pub NamedReplyBefore : Table → ℕ → ℕ → ℕ → ℕ → ℕ → ℕ → Reply → Type 0
NamedReplyBefore table P d t ed A allowance r = NamedReplyBy (filling_before table P d t ed A) table P d t ed A allowance r

-- ---- the reply that is allowed, as one that runs

-- the verdict by the allowance and by what filling found
abbrev pub verdict_by : ℕ → Outcome → Verdict
verdict_by allowance o =
    elim (leb o.need allowance) [
      | true ↦ elim o.found [ true ↦ Crews | false ↦ None ]
      | false ↦ Undecided
    ]

-- the reply by the ruling too
abbrev pub reply_by : ℕ → Outcome → Result Unit Refusal → Reply
reply_by allowance o (Ok tt) = reply_with o.crews 0 o.need allowance (verdict_by allowance o)
reply_by allowance o (Err refusal) = reply_with no_crews 0 0 allowance (Refused refusal)

abbrev pub named_reply_of : Table → ℕ → ℕ → ℕ → ℕ → ℕ → ℕ → Reply
named_reply_of table P d t ed A allowance = reply_by allowance (filling table P d t ed A) (named_ruling table.rows P d t ed A)
