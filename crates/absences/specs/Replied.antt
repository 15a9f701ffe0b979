-- The reply to a policy question as a definition that runs: `policy_allowed` shows that it is allowed for every input, and `policy_same` that no
-- other is. Nothing here is proved: these are definitions.
use Rattle.std.specs.Prelude.{Bool, true, false, List, ℕ, leb, Err, Ok, Result}
use Rattle.roster.specs.declared.Table.{Table}
use Rattle.roster.specs.declared.Verdict.{Verdict}
use Rattle.roster.specs.declared.Verdict.TheVariants.{Yes, No, Undecided, Refused}
use Rattle.roster.specs.declared.Reply.{Reply}
use Rattle.roster.specs.Refusals.{policy_ruling}
use Rattle.roster.specs.Replies.{no_crews, reply_with}
use Rattle.crews.specs.Named.{first_list}
use Rattle.absences.specs.declared.Way.{Way}
use Rattle.absences.specs.Tried.{Found}
use Rattle.absences.specs.Asked.{found}
use Rattle.roster.specs.declared.Refusal.{Refusal}

-- "undecided, exactly if allowance < need"; else no if an absence that was tried blocks, and yes if none does
abbrev pub judged : (decided blocked : Bool) → Verdict
judged true true = No
judged true false = Yes
judged false blocked = Undecided

abbrev pub verdict_of : Found → ℕ → Verdict
verdict_of w allowance = judged (leb w.need allowance) w.blocked

-- the reply under this ruling, where trying the absences comes to w, and the first list with nobody absent is this one
abbrev pub replied_by : Result Unit Refusal → Found → List ℕ → ℕ → Reply
replied_by (Err refusal) w crews allowance = reply_with no_crews 0 0 allowance (Refused refusal)
replied_by (Ok tt) w crews allowance = reply_with crews w.blocker w.need allowance (verdict_of w allowance)

unfoldable pub policy_reply_of : Way → Table → ℕ → ℕ → ℕ → ℕ → ℕ → ℕ → Reply
policy_reply_of way table P s d t ed allowance =
    replied_by (policy_ruling table.rows P s d t ed) (found way table P s d t ed) (first_list table P d t ed 0) allowance
