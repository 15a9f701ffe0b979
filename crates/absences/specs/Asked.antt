-- The policy question: what each search is allowed to reply, and what a reply tells. Nothing here is proved: these are definitions.
use Rattle.std.specs.Prelude.{◌≡◌, ◌≢◌, ◌↔◌, List, ℕ, ◌≤◌, ◌<◌, take, Err, Ok}
use Rattle.roster.specs.declared.Table.{Table}
use Rattle.roster.specs.declared.Policy.{Policy}
use Rattle.roster.specs.declared.Refusal.{Refusal}
use Rattle.roster.specs.declared.Verdict.TheVariants.{Yes, No, Undecided, Refused}
use Rattle.roster.specs.declared.Reply.{Reply}
use Rattle.roster.specs.Meaning.{CrewList, Holds, FirstBlocker}
use Rattle.roster.specs.Refusals.{policy_ruling}
use Rattle.roster.specs.Replies.{no_crews, Eight, reply_with}
use Rattle.crews.specs.Filling.{filling, filling_before}
use Rattle.crews.specs.Named.{first_list}
use Rattle.absences.specs.declared.Way.{Way}
use Rattle.absences.specs.Tried.{tried, Found, weighed}

-- "Refused, first that applies"; what nothing applies to is admitted
abbrev pub Refuses : Table → ℕ → ℕ → ℕ → ℕ → ℕ → Refusal → Type 0
Refuses table P s d t ed refusal = policy_ruling table.rows P s d t ed ≡ Err refusal

abbrev pub Admits : Table → ℕ → ℕ → ℕ → ℕ → ℕ → Type 0
Admits table P s d t ed = policy_ruling table.rows P s d t ed ≡ Ok tt

-- what trying its absences comes to, by this search
abbrev pub found : Way → Table → ℕ → ℕ → ℕ → ℕ → ℕ → Found
found way table P s d t ed = weighed (filling table P d t ed) (tried way table P s)

-- the need of a policy question by this search
abbrev pub need_policy : Way → Table → ℕ → ℕ → ℕ → ℕ → ℕ → ℕ
need_policy way table P s d t ed = (found way table P s d t ed).need

-- What may come back, a field for each row of the table "What comes back", where trying the absences comes to w and the first list with nobody
-- absent is `crews`.
pub record PolicyReplyBy (w : Found) (crews : List ℕ) (table : Table) (P s d t ed allowance : ℕ) (r : Reply) : Type 0 where
  pub refused : (refusal : Refusal) → Refuses table P s d t ed refusal → r ≡ reply_with no_crews 0 0 allowance (Refused refusal)
  pub undecided : Admits table P s d t ed → allowance < w.need → r ≡ reply_with no_crews 0 w.need allowance Undecided
  pub yes : Admits table P s d t ed → w.need ≤ allowance → Holds table P s d t ed → r ≡ reply_with crews 0 w.need allowance Yes
  pub no : Admits table P s d t ed → w.need ≤ allowance → (A : ℕ) → FirstBlocker table P s d t ed A
      → r ≡ reply_with no_crews A w.need allowance No

-- what may come back from this search
abbrev pub PolicyReply : Way → Table → ℕ → ℕ → ℕ → ℕ → ℕ → ℕ → Reply → Type 0
PolicyReply way table P s d t ed = PolicyReplyBy (found way table P s d t ed) (first_list table P d t ed 0) table P s d t ed

-- the same for a policy as one value
abbrev pub PolicyReplyFor : Way → Table → Policy → ℕ → Reply → Type 0
PolicyReplyFor way table p allowance r = PolicyReply way table p.task p.away p.crews p.size p.edition allowance r

-- what a reply tells whoever reads it: `policy_exactly` shows that each that may come back does
pub record Tells (way : Way) (table : Table) (P s d t ed allowance : ℕ) (r : Reply) : Type 0 where
  -- refused exactly by the rules
  pub refused : (refusal : Refusal) → (r.verdict ≡ Refused refusal) ↔ Refuses table P s d t ed refusal
  -- "undecided, exactly if allowance < need"
  pub undecided : (r.verdict ≡ Undecided) ↔ (Admits table P s d t ed × (allowance < need_policy way table P s d t ed))
  -- else yes exactly if the policy holds
  pub yes : (r.verdict ≡ Yes)
      ↔ (Admits table P s d t ed × (need_policy way table P s d t ed ≤ allowance) × Holds table P s d t ed)
  -- and no exactly if it does not
  pub no : (r.verdict ≡ No)
      ↔ (Admits table P s d t ed × (need_policy way table P s d t ed ≤ allowance) × (Holds table P s d t ed → ⊥))
  -- with yes comes a crew list with nobody absent, the first; else no crews; always "eight sets; those past d are 0"
  pub crews : r.verdict ≡ Yes → (r.crews ≡ first_list table P d t ed 0) × CrewList table P d t ed 0 (take d r.crews)
  pub no_crews_lem : r.verdict ≢ Yes → r.crews ≡ no_crews
  pub eight : Eight d r.crews
  -- with no the first blocking absence; else 0
  pub blocker : r.verdict ≡ No → FirstBlocker table P s d t ed r.blocker
  pub no_blocker : r.verdict ≢ No → r.blocker ≡ 0
  -- the units: none, all that was allowed, or the need
  pub unspent : (refusal : Refusal) → r.verdict ≡ Refused refusal → r.units ≡ 0
  pub spent : r.verdict ≡ Undecided → r.units ≡ allowance
  pub units : r.verdict ≢ Undecided → Admits table P s d t ed → r.units ≡ need_policy way table P s d t ed

-- ---- the rule of filling before, kept as the reference

-- what trying its absences came to, and the first list
abbrev pub found_before : Way → Table → ℕ → ℕ → ℕ → ℕ → ℕ → Found
found_before way table P s d t ed = weighed (filling_before table P d t ed) (tried way table P s)

abbrev pub first_before : Table → ℕ → ℕ → ℕ → ℕ → ℕ → List ℕ
first_before table P d t ed A = (filling_before table P d t ed A).crews

-- what might come back by that rule
abbrev pub PolicyReplyBefore : Way → Table → ℕ → ℕ → ℕ → ℕ → ℕ → ℕ → Reply → Type 0
PolicyReplyBefore way table P s d t ed = PolicyReplyBy (found_before way table P s d t ed) (first_before table P d t ed 0) table P s d t ed
