-- The replies over accounts as definitions that run: `policy_answered` and `named_answered` show that they are allowed for every input,
-- `policy_asked_same` and `named-asked_same` that no others are. Nothing here is proved: these are definitions.
use Rattle.std.specs.Prelude.{ℕ, Err, Ok, Result}
use Rattle.roster.specs.declared.Verdict.TheVariants.{Refused}
use Rattle.roster.specs.declared.Reply.{Reply}
use Rattle.roster.specs.Replies.{no_crews, reply_with}
use Rattle.crews.specs.Named.{named_reply_of}
use Rattle.absences.specs.declared.Way.{Way}
use Rattle.absences.specs.Replied.{policy_reply_of}
use Rattle.accounts.specs.declared.Accounts.{Accounts}
use Rattle.accounts.specs.Persons.{merged}
use Rattle.accounts.specs.Refusals.{accounts_ruling}
use Rattle.roster.specs.declared.Refusal.{Refusal}

-- the refusal, or else this reply
abbrev pub behind : Result Unit Refusal → Reply → Reply
behind (Ok tt) r = r
behind (Err refusal) r = reply_with no_crews 0 0 0 (Refused refusal)

abbrev pub policy_answer_of : Way → Accounts → (P s d t ed allowance : ℕ) → Reply
policy_answer_of way a P s d t ed allowance = behind (accounts_ruling a) (policy_reply_of way (merged a) P s d t ed allowance)

abbrev pub named_answer_of : Accounts → (P d t ed A allowance : ℕ) → Reply
named_answer_of a P d t ed A allowance = behind (accounts_ruling a) (named_reply_of (merged a) P d t ed A allowance)
