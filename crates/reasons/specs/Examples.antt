-- "Why" as one table of questions with their replies and the published number of each, and one theorem: each of these replies is the one that the
-- contract allows, and the numbers are theirs. The definitions run on them.
use Rattle.std.specs.Prelude.{◌≡◌, Bool, List, [], ◌∷◌, ◌++◌, ℕ, ◌^◌, ltb, length}
use Rattle.roster.specs.declared.Refusal.TheVariants as refusal
use Rattle.roster.specs.Examples.{set_of_rows}
use Rattle.accounts.specs.declared.Accounts.{Accounts}
use Rattle.accounts.specs.Examples.{accounts_with}
use Rattle.reasons.specs.declared.Explanation.{Explanation}
use Rattle.reasons.specs.declared.Explanation.TheVariants.{Scarce, NoCrew, Overlap, Nothing, Undecided, Refused}
use Rattle.reasons.specs.declared.Explained.{Explained}
use Rattle.reasons.specs.Reasons.{reason_number}
use Rattle.reasons.specs.Replies.{explained_with, WhyReply}
use Rattle.reasons.specs.Replied.{why_reply_of}

-- ---- how the table is written

-- "H, P 3, d 2, t 2, absent {0,3}" is `why H 3 2 2 1 (0 ∷ 3 ∷ []) ample`, with edition 1
pub data Question : Type 0 where
  why : Accounts → (P d t ed : ℕ) (absent : List ℕ) (allowance : ℕ) → Question

-- the answer, its published number and the units
pub record Example : Type 0 where
  pub question : Question
  pub answer : Explanation
  pub number : ℕ
  pub units : ℕ

abbrev pub ample : ℕ
ample = 1000000

-- up to eight rows, each a person
abbrev pub each_row : List ℕ → Accounts
each_row holdings = accounts_with holdings (0 ∷ 1 ∷ 2 ∷ 3 ∷ 4 ∷ 5 ∷ 6 ∷ 7 ∷ []) (length holdings)

abbrev pub H : Accounts
H = each_row (3 ∷ 1 ∷ 2 ∷ 3 ∷ [])

abbrev pub M : Accounts
M = each_row (7 ∷ 25 ∷ 42 ∷ 52 ∷ [])

-- three rows of two persons, who hold 1 and 2, and 3; and five of three, who hold 3 each
abbrev pub pair : Accounts
pair = accounts_with (1 ∷ 2 ∷ 3 ∷ []) (7 ∷ 7 ∷ 5 ∷ []) 3

abbrev pub mixed : Accounts
mixed = accounts_with (1 ∷ 2 ∷ 2 ∷ 1 ∷ 3 ∷ []) (7 ∷ 9 ∷ 7 ∷ 9 ∷ 4 ∷ []) 5

-- ---- the table

abbrev pub rows : List Example
rows =
    -- too few present holders, and the same with one of them back
    record { question = why H 3 2 2 1 (0 ∷ 3 ∷ []) ample; answer = Scarce 0; number = 1; units = 2 }
    ∷ record { question = why H 3 2 2 1 (0 ∷ []) ample; answer = Nothing; number = 0; units = 3 }
    -- just enough holders of each, and single crews, but not three of one
    ∷ record { question = why H 3 3 1 1 [] ample; answer = Overlap; number = 3; units = 5 }
    ∷ record { question = why H 3 3 1 1 [] 5; answer = Overlap; number = 3; units = 5 }
    ∷ record { question = why H 3 3 1 1 [] 4; answer = Undecided; number = 0; units = 4 }
    -- undecided although the reason could be told at once
    ∷ record { question = why H 3 5 2 1 [] ample; answer = Scarce 0; number = 1; units = 13 }
    ∷ record { question = why H 3 5 2 1 [] 12; answer = Undecided; number = 0; units = 12 }
    -- no crew of two; and where a permission is scarce too, that comes first
    ∷ record { question = why M 63 1 2 1 [] ample; answer = NoCrew; number = 2; units = 6 }
    ∷ record { question = why M 63 1 3 1 (0 ∷ 1 ∷ []) ample; answer = Scarce 0; number = 1; units = 0 }
    ∷ record { question = why M 63 1 3 1 [] ample; answer = Nothing; number = 0; units = 3 }
    -- the units of the second filling are not counted
    ∷ record { question = why (each_row (1 ∷ 2 ∷ 1 ∷ 2 ∷ [])) 3 2 1 1 [] ample; answer = NoCrew; number = 2; units = 2 }
    ∷ record { question = why (each_row (3 ∷ 5 ∷ 6 ∷ 3 ∷ 5 ∷ 6 ∷ [])) 7 2 1 1 [] ample; answer = NoCrew; number = 2; units = 4 }
    -- the lowest that is scarce, neither the lowest of the task nor the highest; and none outside the task
    ∷ record { question = why (each_row (1 ∷ 3 ∷ 4 ∷ [])) 7 2 3 1 [] ample; answer = Scarce 1; number = 1; units = 5 }
    ∷ record { question = why (each_row (2 ∷ 2 ∷ [])) 6 2 1 1 [] ample; answer = Scarce 2; number = 1; units = 2 }
    -- edition 2: no crew of one; single crews of two but not two of them; and a permission that is scarce, whoever else is free
    ∷ record { question = why H 3 1 1 2 [] ample; answer = NoCrew; number = 2; units = 3 }
    ∷ record { question = why (each_row (1 ∷ 1 ∷ 1 ∷ [])) 1 2 2 2 [] ample; answer = Overlap; number = 3; units = 12 }
    ∷ record { question = why (each_row (1 ∷ 1 ∷ 1 ∷ [])) 1 2 2 2 [] 11; answer = Undecided; number = 0; units = 11 }
    ∷ record { question = why (each_row (1 ∷ 0 ∷ 0 ∷ [])) 1 2 2 2 [] ample; answer = Scarce 0; number = 1; units = 3 }
    -- refused as the named question is
    ∷ record { question = why H 3 2 2 1 (4 ∷ []) ample; answer = Refused refusal.Absence; number = 0; units = 0 }
    ∷ record { question = why H 3 2 2 3 (4 ∷ []) ample; answer = Refused refusal.Edition; number = 0; units = 0 }
    ∷ record { question = why H 0 2 2 1 [] ample; answer = Refused refusal.Task; number = 0; units = 0 }
    ∷ record { question = why H 3 9 2 1 [] ample; answer = Refused refusal.Crews; number = 0; units = 0 }
    ∷ record { question = why H 3 2 65 1 [] 0; answer = Refused refusal.Size; number = 0; units = 0 }
    ∷ []

-- holders and crews are persons
abbrev pub people : List Example
people =
    record { question = why pair 3 2 1 1 [] ample; answer = Nothing; number = 0; units = 2 }
    ∷ record { question = why (each_row (1 ∷ 2 ∷ 3 ∷ [])) 3 2 1 1 [] ample; answer = Overlap; number = 3; units = 2 }
    ∷ record { question = why pair 3 3 2 1 [] ample; answer = Scarce 0; number = 1; units = 3 }
    ∷ record { question = why mixed 3 3 1 1 (0 ∷ []) ample; answer = Scarce 0; number = 1; units = 3 }
    ∷ record { question = why pair 3 1 1 1 (2 ∷ []) ample; answer = Refused refusal.Absence; number = 0; units = 0 }
    ∷ record { question = why (accounts_with [] [] 65) 3 1 1 1 [] ample; answer = Refused refusal.Rows; number = 0; units = 0 }
    ∷ []

abbrev pub examples : List Example
examples = rows ++ people

-- ---- the fact

-- the contract allows the answer with these units
abbrev pub Allowed : Question → Explained → Type 0
Allowed (why a P d t ed absent allowance) r = WhyReply a P d t ed (set_of_rows absent) allowance r

abbrev pub AllAllowed : List Example → Type 0
AllAllowed [] = Unit {0}
AllAllowed (e ∷ rest) = Allowed e.question (explained_with e.answer e.units) × (reason_number e.answer ≡ e.number) × AllAllowed rest

-- what the definition replies
abbrev pub reply_of : Question → Explained
reply_of (why a P d t ed absent allowance) = why_reply_of a P d t ed (set_of_rows absent) allowance

-- the task has 32 bits
abbrev pub narrow : Question → Bool
narrow (why a P d t ed absent allowance) = ltb P (2 ^ 32)
