-- What the definitions say of plain cases, as one table of questions with their answers, and one theorem: the definitions, run, give these
-- answers. It is there so that a definition and the code that goes by it cannot be changed together unseen.
use Rattle.std.specs.Prelude.{◌≡◌, refl, Bool, List, [], ◌∷◌, ◌++◌, map, ℕ, ◌+◌, ◌-◌, ◌^◌, length, replicate, Err, Ok, Result}
use Rattle.std.specs.Int.Count.{ones, ones_in}
use Rattle.sets.specs.Sets.{bit}
use Rattle.sets.specs.Sums.{sum_to, to_n}
use Rattle.sets.specs.Members.{cons?, members, filter}
use Rattle.sets.specs.Arrays.{tabulate}
use Rattle.sets.proofs.Laws.Image.{image, put}
use Rattle.roster.specs.declared.Table.{Table}
use Rattle.roster.specs.declared.Policy.{Policy}
use Rattle.roster.specs.declared.Refusal.TheVariants.{Size}
use Rattle.roster.specs.declared.Verdict.{Verdict}
use Rattle.roster.specs.declared.Verdict.TheVariants.{Yes, No, Undecided, Crews, None, Refused}
use Rattle.roster.specs.declared.Reply.{Reply}
use Rattle.roster.specs.Limits.{row_limit}
use Rattle.roster.specs.Meaning.{outweighsb, ahead, rank}
use Rattle.roster.specs.Refusals.{number_of, policy_ruling, named_ruling, made_of}
use Rattle.roster.specs.Replies.{reply_with}
use Rattle.roster.specs.Laws.Lists.{ranks}
use Rattle.roster.specs.declared.Refusal.{Refusal}

-- ---- how the table is written

-- the first `count` of these rows; the holdings that are not given are 0
abbrev pub table_with : ℕ → List ℕ → Table
table_with count holdings = record { holdings = holdings ++ replicate (row_limit - length holdings) 0; rows = count }

-- all of these rows
abbrev pub table_of : List ℕ → Table
table_of holdings = table_with (length holdings) holdings

-- the set of these rows
abbrev pub set_of_rows : List ℕ → ℕ
set_of_rows [] = 0
set_of_rows (row ∷ rest) = 2 ^ row + set_of_rows rest

pub data Question : Type 0 where
  -- a policy question, and one for a named absence: by which published number are they refused?
  policy : (rows P s d t ed : ℕ) → Question
  named : (rows P d t ed A : ℕ) → Question
  -- which policy is made of these numbers?
  making : (P s d t ed : ℕ) → Question
  -- of each row of the table: which rows outweigh it, which are ahead of it?
  outweighing : Table → (P : ℕ) → Question
  going_ahead : Table → (P : ℕ) → Question
  -- what rank has each row, and which ranks have the rows of an absence?
  each-rank : Table → (P : ℕ) → Question
  ranks_of : Table → (P A : ℕ) → Question
  -- the first list is 1 to 8, the first blocker 9, the need 10 and the allowance 11: which of them come back with this verdict?
  coming_back : Verdict → Question

pub data Answer : Type 0 where
  admitted : Answer
  refused : (number : ℕ) → Answer
  makes : Policy → Answer
  numbers : List ℕ → Answer
  by_row : List (List ℕ) → Answer
  reply : Reply → Answer

-- binds closer than `∷`
infix 68 ◌gives◌
pub data Example : Type 0 where
  ◌gives◌ : Question → Answer → Example

-- H of 01
abbrev pub H : Table
H = table_of (3 ∷ 1 ∷ 2 ∷ 3 ∷ [])

-- Within P = 6 these hold nothing, 2, nothing, 4, 6, 2 and nothing: row 2 holds only outside P, and two rows past the count hold all of it.
abbrev pub mixed : Table
mixed = table_with 7 (0 ∷ 2 ∷ 9 ∷ 4 ∷ 7 ∷ 10 ∷ 0 ∷ 6 ∷ 6 ∷ [])

-- Within P = 15 row 0 holds the most, and yet not what rows 1 and 2 hold.
abbrev pub apart : Table
apart = table_of (7 ∷ 8 ∷ 12 ∷ 3 ∷ [])

-- ---- the table

-- rows, P, s, d, t, edition: each at its limits and past them
abbrev pub policies : List Example
policies =
    policy 4 3 1 2 2 1 gives admitted
    ∷ policy 0 3 1 2 2 1 gives admitted
    ∷ policy 64 3 1 2 2 1 gives admitted
    ∷ policy 65 3 1 2 2 1 gives refused 1
    ∷ policy (2 ^ 64 - 1) 3 1 2 2 1 gives refused 1
    ∷ policy 4 0 1 2 2 1 gives refused 2
    ∷ policy 4 1 1 2 2 1 gives admitted
    ∷ policy 4 (2 ^ 32 - 1) 1 2 2 1 gives admitted
    ∷ policy 4 3 0 2 2 1 gives admitted
    ∷ policy 4 3 64 2 2 1 gives admitted
    ∷ policy 4 3 65 2 2 1 gives refused 3
    ∷ policy 4 3 (2 ^ 32 - 1) 2 2 1 gives refused 3
    ∷ policy 4 3 1 0 2 1 gives refused 4
    ∷ policy 4 3 1 1 2 1 gives admitted
    ∷ policy 4 3 1 8 2 1 gives admitted
    ∷ policy 4 3 1 9 2 1 gives refused 4
    ∷ policy 4 3 1 (2 ^ 64 - 1) 2 1 gives refused 4
    ∷ policy 4 3 1 2 0 1 gives refused 5
    ∷ policy 4 3 1 2 1 1 gives admitted
    ∷ policy 4 3 1 2 64 1 gives admitted
    ∷ policy 4 3 1 2 65 1 gives refused 5
    ∷ policy 4 3 1 2 (2 ^ 32 - 1) 1 gives refused 5
    ∷ policy 4 3 1 2 2 0 gives refused 25
    ∷ policy 4 3 1 2 2 2 gives admitted
    ∷ policy 4 3 1 2 2 3 gives refused 25
    ∷ policy 4 3 1 2 2 (2 ^ 32 - 1) gives refused 25
    ∷ policy 4 3 1 2 1 2 gives admitted
    ∷ policy 0 1 0 1 1 1 gives admitted
    ∷ policy 64 (2 ^ 32 - 1) 64 8 64 2 gives admitted
    ∷ []

-- two faults at once, then three, then all of them, and all but the first of them: the first that applies
abbrev pub policies-at_fault : List Example
policies-at_fault =
    policy 65 0 1 2 2 1 gives refused 1
    ∷ policy 4 0 65 2 2 1 gives refused 2
    ∷ policy 4 3 65 0 2 1 gives refused 3
    ∷ policy 4 3 65 9 2 1 gives refused 3
    ∷ policy 4 3 1 0 0 1 gives refused 4
    ∷ policy 4 3 1 0 65 1 gives refused 4
    ∷ policy 4 3 1 9 0 1 gives refused 4
    ∷ policy 4 3 1 9 65 1 gives refused 4
    ∷ policy 4 3 1 2 0 0 gives refused 5
    ∷ policy 4 3 1 2 65 3 gives refused 5
    ∷ policy 4 3 1 9 2 3 gives refused 4
    ∷ policy 65 3 65 2 2 1 gives refused 1
    ∷ policy 65 3 1 9 2 1 gives refused 1
    ∷ policy 65 3 1 2 0 1 gives refused 1
    ∷ policy 4 0 1 9 2 1 gives refused 2
    ∷ policy 4 0 1 2 0 1 gives refused 2
    ∷ policy 4 3 65 2 65 1 gives refused 3
    ∷ policy 65 0 65 2 2 1 gives refused 1
    ∷ policy 4 0 65 0 2 1 gives refused 2
    ∷ policy 4 3 65 9 0 1 gives refused 3
    ∷ policy 65 0 65 0 0 1 gives refused 1
    ∷ policy 65 0 65 9 65 3 gives refused 1
    ∷ policy 4 0 65 0 0 0 gives refused 2
    ∷ policy 4 0 65 9 65 1 gives refused 2
    ∷ []

-- rows, P, d, t, edition and the set of those absent: 3 is no fault here, and a bit at or past the row count is 6
abbrev pub names : List Example
names =
    named 4 3 2 2 1 0 gives admitted
    ∷ named 0 3 2 2 1 0 gives admitted
    ∷ named 64 3 2 2 1 0 gives admitted
    ∷ named 65 3 2 2 1 0 gives refused 1
    ∷ named 4 0 2 2 1 0 gives refused 2
    ∷ named 4 1 2 2 1 0 gives admitted
    ∷ named 4 (2 ^ 32 - 1) 2 2 1 0 gives admitted
    ∷ named 4 3 0 2 1 0 gives refused 4
    ∷ named 4 3 1 2 1 0 gives admitted
    ∷ named 4 3 8 2 1 0 gives admitted
    ∷ named 4 3 9 2 1 0 gives refused 4
    ∷ named 4 3 2 0 1 0 gives refused 5
    ∷ named 4 3 2 1 1 0 gives admitted
    ∷ named 4 3 2 64 1 0 gives admitted
    ∷ named 4 3 2 65 1 0 gives refused 5
    ∷ named 4 3 2 2 0 0 gives refused 25
    ∷ named 4 3 2 2 2 0 gives admitted
    ∷ named 4 3 2 2 3 0 gives refused 25
    ∷ named 0 3 2 2 1 (set_of_rows (0 ∷ [])) gives refused 6
    ∷ named 4 3 2 2 1 (set_of_rows (3 ∷ [])) gives admitted
    ∷ named 4 3 2 2 1 (set_of_rows (0 ∷ 1 ∷ 2 ∷ 3 ∷ [])) gives admitted
    ∷ named 4 3 2 2 1 (set_of_rows (4 ∷ [])) gives refused 6
    ∷ named 4 3 2 2 1 (set_of_rows (0 ∷ 63 ∷ [])) gives refused 6
    ∷ named 63 3 2 2 1 (set_of_rows (62 ∷ [])) gives admitted
    ∷ named 63 3 2 2 1 (set_of_rows (63 ∷ [])) gives refused 6
    ∷ named 64 3 2 2 1 (set_of_rows (63 ∷ [])) gives admitted
    ∷ named 64 3 2 2 1 (2 ^ 64 - 1) gives admitted
    ∷ []

abbrev pub names-at_fault : List Example
names-at_fault =
    named 65 0 2 2 1 0 gives refused 1
    ∷ named 4 0 0 2 1 0 gives refused 2
    ∷ named 4 0 9 2 1 0 gives refused 2
    ∷ named 4 3 0 0 1 0 gives refused 4
    ∷ named 4 3 0 65 1 0 gives refused 4
    ∷ named 4 3 9 0 1 0 gives refused 4
    ∷ named 4 3 9 65 1 0 gives refused 4
    ∷ named 4 3 2 0 1 (set_of_rows (4 ∷ [])) gives refused 5
    ∷ named 4 3 2 65 1 (set_of_rows (4 ∷ [])) gives refused 5
    ∷ named 4 3 2 0 3 (set_of_rows (4 ∷ [])) gives refused 5
    ∷ named 4 3 2 2 3 (set_of_rows (4 ∷ [])) gives refused 25
    ∷ named 4 3 2 2 0 (set_of_rows (4 ∷ [])) gives refused 25
    ∷ named 4 0 2 2 1 (set_of_rows (4 ∷ [])) gives refused 2
    ∷ named 4 3 9 2 1 (set_of_rows (4 ∷ [])) gives refused 4
    ∷ named 65 0 9 2 1 0 gives refused 1
    ∷ named 4 0 0 65 1 0 gives refused 2
    ∷ named 4 3 0 65 1 (set_of_rows (4 ∷ [])) gives refused 4
    ∷ named 65 0 0 0 1 0 gives refused 1
    ∷ named 4 0 0 0 1 (set_of_rows (4 ∷ [])) gives refused 2
    ∷ named 4 0 9 65 1 (set_of_rows (4 ∷ [])) gives refused 2
    ∷ []

-- P, s, d, t, edition: the policy, or its own first fault
abbrev pub policies-made : List Example
policies-made =
    making 3 1 2 4 1 gives makes (record { task = 3; away = 1; crews = 2; size = 4; edition = 1 })
    ∷ making 3 1 2 4 2 gives makes (record { task = 3; away = 1; crews = 2; size = 4; edition = 2 })
    ∷ making 0 65 2 4 1 gives refused 2
    ∷ making 3 65 9 4 1 gives refused 3
    ∷ making 3 1 9 0 1 gives refused 4
    ∷ making 3 1 2 65 0 gives refused 5
    ∷ making 3 1 2 64 0 gives refused 25
    ∷ making 3 1 2 64 3 gives refused 25
    ∷ []

abbrev pub standing : List Example
standing =
    -- of equal rows the first; of rows 1 and 2 neither, although row 1 is ahead
    outweighing H 3 gives by_row ([] ∷ (0 ∷ 3 ∷ []) ∷ (0 ∷ 3 ∷ []) ∷ (0 ∷ []) ∷ [])
    ∷ going_ahead H 3 gives by_row ([] ∷ (0 ∷ 3 ∷ []) ∷ (0 ∷ 1 ∷ 3 ∷ []) ∷ (0 ∷ []) ∷ [])
    ∷ each-rank H 3 gives numbers (0 ∷ 2 ∷ 3 ∷ 1 ∷ [])
    ∷ ranks_of H 3 (set_of_rows (0 ∷ 2 ∷ [])) gives numbers (0 ∷ 3 ∷ [])
    ∷ ranks_of H 3 (set_of_rows (1 ∷ 2 ∷ 3 ∷ [])) gives numbers (1 ∷ 2 ∷ 3 ∷ [])
    -- a row that holds nothing of P is outweighed by all that hold something, and by those before it that hold nothing
    ∷ outweighing mixed 6
    gives by_row ((1 ∷ 3 ∷ 4 ∷ 5 ∷ []) ∷ (4 ∷ []) ∷ (0 ∷ 1 ∷ 3 ∷ 4 ∷ 5 ∷ []) ∷ (4 ∷ []) ∷ [] ∷ (1 ∷ 4 ∷ []) ∷ (0 ∷ 1 ∷ 2 ∷ 3 ∷ 4 ∷ 5 ∷ []) ∷ [])
    ∷ going_ahead mixed 6
    gives by_row ((1 ∷ 3 ∷ 4 ∷ 5 ∷ []) ∷ (4 ∷ []) ∷ (0 ∷ 1 ∷ 3 ∷ 4 ∷ 5 ∷ []) ∷ (1 ∷ 4 ∷ []) ∷ [] ∷ (1 ∷ 3 ∷ 4 ∷ []) ∷ (0 ∷ 1 ∷ 2 ∷ 3 ∷ 4 ∷ 5 ∷ []) ∷ [])
    ∷ each-rank mixed 6 gives numbers (4 ∷ 1 ∷ 5 ∷ 2 ∷ 0 ∷ 3 ∷ 6 ∷ [])
    ∷ ranks_of mixed 6 (set_of_rows (0 ∷ 3 ∷ 5 ∷ [])) gives numbers (2 ∷ 3 ∷ 4 ∷ [])
    -- more permissions are no more weight
    ∷ outweighing apart 15 gives by_row ([] ∷ (2 ∷ []) ∷ [] ∷ (0 ∷ []) ∷ [])
    ∷ going_ahead apart 15 gives by_row ([] ∷ (0 ∷ 2 ∷ 3 ∷ []) ∷ (0 ∷ []) ∷ (0 ∷ 2 ∷ []) ∷ [])
    ∷ each-rank apart 15 gives numbers (0 ∷ 3 ∷ 1 ∷ 2 ∷ [])
    -- the same rows for other tasks
    ∷ outweighing apart 8 gives by_row ((1 ∷ 2 ∷ []) ∷ [] ∷ (1 ∷ []) ∷ (0 ∷ 1 ∷ 2 ∷ []) ∷ [])
    ∷ outweighing (table_of (2 ^ 31 ∷ (2 ^ 31 + 1) ∷ 2 ^ 31 ∷ [])) (2 ^ 31 + 1) gives by_row ((1 ∷ []) ∷ [] ∷ (0 ∷ 1 ∷ []) ∷ [])
    ∷ []

-- "all 0"
abbrev zeros : List ℕ
zeros = replicate 8 0

-- the table "What comes back"
abbrev pub replies : List Example
replies =
    coming_back Yes gives reply (record { verdict = Yes; crews = 1 ∷ 2 ∷ 3 ∷ 4 ∷ 5 ∷ 6 ∷ 7 ∷ 8 ∷ []; blocker = 0; units = 10 })
    ∷ coming_back No gives reply (record { verdict = No; crews = zeros; blocker = 9; units = 10 })
    ∷ coming_back Undecided gives reply (record { verdict = Undecided; crews = zeros; blocker = 0; units = 11 })
    ∷ coming_back Crews gives reply (record { verdict = Crews; crews = 1 ∷ 2 ∷ 3 ∷ 4 ∷ 5 ∷ 6 ∷ 7 ∷ 8 ∷ []; blocker = 0; units = 10 })
    ∷ coming_back None gives reply (record { verdict = None; crews = zeros; blocker = 0; units = 10 })
    ∷ coming_back (Refused Size) gives reply (record { verdict = Refused Size; crews = zeros; blocker = 0; units = 0 })
    ∷ []

abbrev pub examples : List Example
examples = policies ++ policies-at_fault ++ names ++ names-at_fault ++ policies-made ++ standing ++ replies

-- ---- the fact

abbrev told : Result Unit Refusal → Answer
told (Ok tt) = admitted
told (Err refusal) = refused (number_of refusal)

abbrev told-made : Result Policy Refusal → Answer
told-made (Ok p) = makes p
told-made (Err refusal) = refused (number_of refusal)

-- the table's rows that pass
abbrev below : Table → (ℕ → Bool) → List ℕ
below table test = filter test (tabulate table.rows (λ u. u))

-- what the definitions answer; the tests are the relations `Outweighs` and `Ahead` (`outweighs_iff`, `ahead_iff`)
abbrev pub answer_of : Question → Answer
answer_of (policy rows P s d t ed) = told (policy_ruling rows P s d t ed)
answer_of (named rows P d t ed A) = told (named_ruling rows P d t ed A)
answer_of (making P s d t ed) = told-made (made_of P s d t ed)
answer_of (outweighing table P) = by_row (tabulate table.rows (λ v. below table (λ u. outweighsb table P u v)))
answer_of (going_ahead table P) = by_row (tabulate table.rows (λ v. below table (λ u. ahead table P u v)))
answer_of (each-rank table P) = numbers (tabulate table.rows (rank table P))
answer_of (ranks_of table P A) = numbers (ranks table P A)
answer_of (coming_back verdict) = reply (reply_with (1 ∷ 2 ∷ 3 ∷ 4 ∷ 5 ∷ 6 ∷ 7 ∷ 8 ∷ []) 9 10 11 verdict)

abbrev pub computed : Example → Answer
computed (question gives answer) = answer_of question

abbrev pub stated : Example → Answer
stated (question gives answer) = answer

-- the definitions give each answer of the table
pub examples_hold : map computed examples ≡ map stated examples
unfolding bit sum_to to_n cons? members filter tabulate image put ones ones_in ahead rank outweighsb ranks policy_ruling named_ruling
examples_hold = refl
