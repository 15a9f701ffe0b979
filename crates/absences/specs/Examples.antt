-- 01, "Checked examples": the table as one list of questions with their replies, in its order, and one theorem: each of these replies is the one
-- that the contract of its question allows. The definitions run on them.
use Rattle.std.specs.Prelude.{Bool, List, [], ◌∷◌, ◌++◌, ℕ, zero, suc, ◌+◌, ◌-◌, ◌^◌, ltb, length, replicate}
use Rattle.roster.specs.declared.Table.{Table}
use Rattle.roster.specs.declared.Refusal.{Refusal}
use Rattle.roster.specs.declared.Verdict.TheVariants.{Yes, No, Undecided, Crews, None, Refused}
use Rattle.roster.specs.declared.Reply.{Reply}
use Rattle.roster.specs.Limits.{row_limit, crew_limit}
use Rattle.roster.specs.Replies.{no_crews}
use Rattle.crews.specs.Named.{NamedReply, named_reply_of}
use Rattle.absences.specs.declared.Way.{Way}
use Rattle.absences.specs.declared.Way.TheVariants.{Full, Skipping}
use Rattle.absences.specs.Asked.{PolicyReply}
use Rattle.absences.specs.Replied.{policy_reply_of}

-- ---- how the table is written

-- A question of either kind: "H; 1,2,2 skipping" is `policy Skipping H 3 1 2 2 1`, and "H, absent {0}, d 2, t 2" is `named H 3 2 2 1` and that
-- set. The edition stands behind t, and the allowance comes last.
pub data Question : Type 0 where
  policy : Way → (table : Table) (P s d t ed allowance : ℕ) → Question
  named : (table : Table) (P d t ed A allowance : ℕ) → Question

pub record Example : Type 0 where
  pub question : Question
  pub reply : Reply

-- a table of these rows; the holdings past the count are 0
abbrev pub table_of : List ℕ → Table
table_of rows = record { holdings = rows ++ replicate (row_limit - length rows) 0; rows = length rows }

-- the set of these rows
abbrev pub set_of_rows : List ℕ → ℕ
set_of_rows [] = 0
set_of_rows (row ∷ rest) = 2 ^ row + set_of_rows rest

-- "Crews are eight sets; those past d are 0."
abbrev pub crews_of : List (List ℕ) → ℕ → List ℕ
crews_of [] n = replicate n 0
crews_of (crew ∷ rest) zero = []
crews_of (crew ∷ rest) (suc n) = set_of_rows crew ∷ crews_of rest n

abbrev pub yes_with : List (List ℕ) → ℕ → Reply
yes_with crews units = record { verdict = Yes; crews = crews_of crews crew_limit; blocker = 0; units = units }

abbrev pub no_with : List ℕ → ℕ → Reply
no_with blocker units = record { verdict = No; crews = no_crews; blocker = set_of_rows blocker; units = units }

abbrev pub crews-with : List (List ℕ) → ℕ → Reply
crews-with crews units = record { verdict = Crews; crews = crews_of crews crew_limit; blocker = 0; units = units }

abbrev pub none-with : ℕ → Reply
none-with units = record { verdict = None; crews = no_crews; blocker = 0; units = units }

abbrev pub undecided_with : ℕ → Reply
undecided_with units = record { verdict = Undecided; crews = no_crews; blocker = 0; units = units }

abbrev pub refused_with_lem : Refusal → Reply
refused_with_lem refusal = record { verdict = Refused refusal; crews = no_crews; blocker = 0; units = 0 }

-- "Allowance is ample unless given."
abbrev pub ample : ℕ
ample = 4294967295

-- "H is 3, 1, 2, 3 with P = 3. M is 7, 25, 42, 52 with P = 63"
abbrev pub H : Table
H = table_of (3 ∷ 1 ∷ 2 ∷ 3 ∷ [])

abbrev pub M : Table
M = table_of (7 ∷ 25 ∷ 42 ∷ 52 ∷ [])

-- ---- the table

-- rows f to k "hold for both searches"
abbrev pub by_either : Way → List Example
by_either way =
    -- f
    record { question = policy way H 3 0 3 2 1 ample; reply = yes_with ((0 ∷ []) ∷ (1 ∷ 2 ∷ []) ∷ (3 ∷ []) ∷ []) 5 }
    -- g
    ∷ record { question = policy way M 63 1 1 3 1 ample; reply = yes_with ((0 ∷ 1 ∷ 2 ∷ []) ∷ []) 20 }
    -- h
    ∷ record { question = policy way M 63 2 1 3 1 ample; reply = no_with (0 ∷ 1 ∷ []) 21 }
    -- i
    ∷ record { question = policy way M 63 0 1 2 1 ample; reply = no_with [] 7 }
    -- j: "no rows, P = 1"
    ∷ record { question = policy way (table_of []) 1 5 1 1 1 ample; reply = no_with [] 1 }
    -- k: "one row 1, P = 1"
    ∷ record { question = policy way (table_of (1 ∷ [])) 1 64 1 1 1 ample; reply = no_with (0 ∷ []) 3 }
    ∷ []

-- rows l and m
abbrev pub by_name : List Example
by_name =
    -- l
    record { question = named H 3 2 2 1 (set_of_rows (0 ∷ [])) ample; reply = crews-with ((1 ∷ 2 ∷ []) ∷ (3 ∷ []) ∷ []) 3 }
    -- m
    ∷ record { question = named H 3 2 2 1 (set_of_rows (0 ∷ 3 ∷ [])) ample; reply = none-with 2 }
    ∷ []

abbrev pub examples : List Example
examples =
    -- a
    record { question = policy Skipping H 3 1 2 2 1 ample; reply = yes_with ((0 ∷ []) ∷ (1 ∷ 2 ∷ []) ∷ []) 8 }
    -- b
    ∷ record { question = policy Full H 3 1 2 2 1 ample; reply = yes_with ((0 ∷ []) ∷ (1 ∷ 2 ∷ []) ∷ []) 19 }
    -- c
    ∷ record { question = policy Skipping H 3 2 2 2 1 ample; reply = no_with (0 ∷ 3 ∷ []) 11 }
    -- d
    ∷ record { question = policy Full H 3 2 2 2 1 ample; reply = no_with (0 ∷ 3 ∷ []) 22 }
    -- e: "c with allowance 10"
    ∷ record { question = policy Skipping H 3 2 2 2 1 10; reply = undecided_with 10 }
    ∷ (by_either Skipping ++ by_either Full ++ by_name)

-- ---- the fact

-- the contract of the question allows this reply
abbrev pub Allowed : Question → Reply → Type 0
Allowed (policy way table P s d t ed allowance) r = PolicyReply way table P s d t ed allowance r
Allowed (named table P d t ed A allowance) r = NamedReply table P d t ed A allowance r

abbrev pub AllAllowed : List Example → Type 0
AllAllowed [] = Unit {0}
AllAllowed (e ∷ rest) = Allowed e.question e.reply × AllAllowed rest

-- what the definition replies, and whether the task has 32 bits
abbrev pub reply_of : Question → Reply
reply_of (policy way table P s d t ed allowance) = policy_reply_of way table P s d t ed allowance
reply_of (named table P d t ed A allowance) = named_reply_of table P d t ed A allowance

abbrev pub narrow : Question → Bool
narrow (policy way table P s d t ed allowance) = ltb P (2 ^ 32)
narrow (named table P d t ed A allowance) = ltb P (2 ^ 32)
