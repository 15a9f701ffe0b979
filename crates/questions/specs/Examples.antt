-- The questions over accounts as one table with their replies, and one theorem: each of these replies is the one that the contract of its question
-- allows. The definitions run on them. P is 3, and each row of the accounts is written (holdings : person number).
use Rattle.std.specs.Prelude.{◌≡◌, refl, List, [], ◌∷◌, ◌++◌, map, ℕ}
use Rattle.std.proofs.Common.{subst, arith}
use Rattle.std.specs.Int.Count.{ones, ones_in, count_trailing_zeros}
use Rattle.sets.specs.Sets.{bit}
use Rattle.sets.specs.Sums.{sum_to, to_n}
use Rattle.sets.specs.Members.{cons?, members, filter, hasb, set_of}
use Rattle.sets.specs.Arrays.{tabulate}
use Rattle.roster.specs.declared.Refusal.TheVariants.{Rows, Absence, Edition}
use Rattle.roster.specs.declared.Reply.{Reply}
use Rattle.roster.specs.Meaning.{least_members, outweighsb, ahead, rank}
use Rattle.roster.specs.Refusals.{policy_ruling, named_ruling}
use Rattle.crews.specs.Filling.{place_of, close_of, closes_of, placed_of, pool_of, candidates, try_each, search}
use Rattle.absences.specs.declared.Way.{Way}
use Rattle.absences.specs.declared.Way.TheVariants.{Full, Skipping}
use Rattle.absences.specs.Tried.{row_from, joins, listed, sizes_from, weighed}
use Rattle.absences.specs.Replied.{policy_reply_of}
use Rattle.absences.specs.Examples.{set_of_rows, yes_with, no_with, crews-with, none-with, undecided_with, refused_with_lem, ample}
use Rattle.accounts.specs.declared.Accounts.{Accounts}
use Rattle.accounts.specs.Persons.{first, union_to, first_of, leads, count_of, person_of, held_by}
use Rattle.accounts.specs.Refusals.{accounts_ruling}
use Rattle.accounts.specs.Examples.{accounts_with}
use Rattle.questions.specs.Asked.{PolicyAsked, NamedAsked}
use Rattle.questions.specs.Replied.{policy_answer_of, named_answer_of}
use Rattle.questions.specs.Laws.Replies.{policy_answered, named_answered}

-- ---- how the table is written

-- a question of either kind; the task is 3
pub data Question : Type 0 where
  policy : Way → Accounts → (s d t ed allowance : ℕ) → Question
  named : Accounts → (d t ed A allowance : ℕ) → Question

pub record Example : Type 0 where
  pub question : Question
  pub reply : Reply

-- (1:7) (2:7), and the same two as two persons
abbrev pub one : Accounts
one = accounts_with (1 ∷ 2 ∷ []) (7 ∷ 7 ∷ []) 2

abbrev pub two : Accounts
two = accounts_with (1 ∷ 2 ∷ []) (7 ∷ 8 ∷ []) 2

-- (1:7) (2:7) (3:5), and the same three as three persons
abbrev pub pair : Accounts
pair = accounts_with (1 ∷ 2 ∷ 3 ∷ []) (7 ∷ 7 ∷ 5 ∷ []) 3

abbrev pub three : Accounts
three = accounts_with (1 ∷ 2 ∷ 3 ∷ []) (7 ∷ 6 ∷ 5 ∷ []) 3

-- (1:7) (2:9) (2:7) (1:9) (3:4), and the same five as five persons
abbrev pub mixed : Accounts
mixed = accounts_with (1 ∷ 2 ∷ 2 ∷ 1 ∷ 3 ∷ []) (7 ∷ 9 ∷ 7 ∷ 9 ∷ 4 ∷ []) 5

abbrev pub five : Accounts
five = accounts_with (1 ∷ 2 ∷ 2 ∷ 1 ∷ 3 ∷ []) (7 ∷ 9 ∷ 8 ∷ 6 ∷ 4 ∷ []) 5

-- (0:1) (1:2) (0:1) (2:2) (3:3)
abbrev pub idle : Accounts
idle = accounts_with (0 ∷ 1 ∷ 0 ∷ 2 ∷ 3 ∷ []) (1 ∷ 2 ∷ 1 ∷ 2 ∷ 3 ∷ []) 5

-- two persons who have 65 rows
abbrev pub many : Accounts
many = accounts_with (1 ∷ 2 ∷ []) (7 ∷ 7 ∷ []) 65

-- ---- the table

abbrev pub by_policy : List Example
by_policy =
    -- one person holds what his two accounts hold; two persons are no crew of one
    record { question = policy Skipping one 0 1 1 1 ample; reply = yes_with ((0 ∷ []) ∷ []) 2 }
    ∷ record { question = policy Skipping two 0 1 1 1 ample; reply = no_with [] 2 }
    -- whoever is away is away with all accounts, and crews are persons: the numbers in them are those of persons, not of rows
    ∷ record { question = policy Skipping mixed 1 2 2 1 ample; reply = yes_with ((0 ∷ []) ∷ (1 ∷ []) ∷ []) 6 }
    ∷ record { question = policy Skipping five 1 2 2 1 ample; reply = yes_with ((0 ∷ 1 ∷ []) ∷ (2 ∷ 3 ∷ []) ∷ []) 10 }
    ∷ record { question = policy Skipping pair 1 1 1 1 ample; reply = yes_with ((0 ∷ []) ∷ []) 4 }
    ∷ record { question = policy Skipping three 1 1 1 1 ample; reply = no_with (2 ∷ []) 5 }
    ∷ record { question = policy Skipping pair 2 1 1 1 ample; reply = no_with (0 ∷ 1 ∷ []) 5 }
    -- just the need, and one unit less
    ∷ record { question = policy Skipping pair 2 1 1 1 5; reply = no_with (0 ∷ 1 ∷ []) 5 }
    ∷ record { question = policy Skipping pair 2 1 1 1 4; reply = undecided_with 4 }
    -- one who holds nothing is a person, and the first
    ∷ record { question = policy Skipping idle 64 1 2 1 ample; reply = no_with (1 ∷ 2 ∷ []) 5 }
    -- two accounts of one person are one member: under edition 2 a companion is somebody else
    ∷ record { question = policy Skipping one 0 1 2 2 ample; reply = no_with [] 2 }
    ∷ record { question = policy Skipping two 0 1 2 2 ample; reply = yes_with ((0 ∷ 1 ∷ []) ∷ []) 3 }
    ∷ record { question = policy Skipping pair 0 1 2 2 ample; reply = yes_with ((0 ∷ 1 ∷ []) ∷ []) 3 }
    ∷ record { question = policy Skipping pair 0 1 1 2 ample; reply = no_with [] 3 }
    ∷ record { question = policy Skipping pair 0 1 1 3 ample; reply = refused_with_lem Edition }
    -- rows are what is refused by 1, however few the persons are
    ∷ record { question = policy Skipping many 64 1 2 1 ample; reply = refused_with_lem Rows }
    ∷ record { question = policy Full many 64 1 2 1 0; reply = refused_with_lem Rows }
    ∷ []

abbrev pub by_name : List Example
by_name =
    -- 6 compares with the number of persons
    record { question = named pair 1 1 1 (set_of_rows (1 ∷ [])) ample; reply = crews-with ((0 ∷ []) ∷ []) 1 }
    ∷ record { question = named pair 1 1 1 (set_of_rows (2 ∷ [])) ample; reply = refused_with_lem Absence }
    ∷ record { question = named three 1 1 1 (set_of_rows (2 ∷ [])) ample; reply = none-with 1 }
    ∷ record { question = named pair 1 1 3 (set_of_rows (2 ∷ [])) ample; reply = refused_with_lem Edition }
    ∷ record { question = named many 1 1 3 (set_of_rows (2 ∷ [])) ample; reply = refused_with_lem Rows }
    ∷ []

abbrev pub examples : List Example
examples = by_policy ++ by_name

-- ---- the fact

-- the contract of the question allows this reply
abbrev pub Allowed : Question → Reply → Type 0
Allowed (policy way a s d t ed allowance) r = PolicyAsked way a 3 s d t ed allowance r
Allowed (named a d t ed A allowance) r = NamedAsked a 3 d t ed A allowance r

abbrev pub AllAllowed : List Example → Type 0
AllAllowed [] = Unit {0}
AllAllowed (e ∷ rest) = Allowed e.question e.reply × AllAllowed rest

-- what the definition replies
abbrev pub reply_of : Question → Reply
reply_of (policy way a s d t ed allowance) = policy_answer_of way a 3 s d t ed allowance
reply_of (named a d t ed A allowance) = named_answer_of a 3 d t ed A allowance

allowed : (q : Question) → Allowed q (reply_of q)
allowed (policy way a s d t ed allowance) = policy_answered way a 3 s d t ed allowance (omega arith)
allowed (named a d t ed A allowance) = named_answered a 3 d t ed A allowance (omega arith)

-- where the definition gives the replies of a list, they are allowed
all_allowed : (l : List Example) → map (λ (e : Example). reply_of e.question) l ≡ map Example.reply l → AllAllowed l
all_allowed [] r = tt
all_allowed (e ∷ rest) r =
    let here : reply_of e.question ≡ e.reply = cc in
    (subst (Allowed e.question) here (allowed e.question), all_allowed rest (cc))

-- each reply of the table is the one allowed
pub examples_hold : AllAllowed examples
unfolding bit sum_to to_n cons? members filter hasb set_of ones ones_in count_trailing_zeros ahead rank outweighsb least_members place_of close_of closes_of placed_of pool_of candidates try_each search row_from joins listed sizes_from weighed policy_ruling named_ruling policy_reply_of first union_to first_of leads count_of person_of held_by tabulate accounts_ruling
examples_hold = all_allowed examples refl
