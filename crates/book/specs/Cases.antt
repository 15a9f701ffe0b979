-- Books and what is told of them, by the published number and the place: one table, one fact, by running the definition. It pins what definition
-- and code could change together: every number, every limit at both ends, the order of faults within an entry and between entries, and places.
use Rattle.std.specs.Prelude.{◌≡◌, refl, ℕ, length, set, take, Result, Ok, Err}
use mathlib.Core.List.{List, [], ◌∷◌, ◌++◌, foldr, map}
use Rattle.sets.specs.Arrays.{tabulate}
use Rattle.roster.specs.Refusals.{policy_ruling}
use Rattle.roster.specs.declared.Policy.{Policy}
use Rattle.book.specs.Layout.{Contents, bytes_of, joined, field_bytes, little_endian}
use Rattle.book.specs.Faults.{fault_number}
use Rattle.book.specs.Reading.{number, fields_at, cut_place, count_look, entry_look, in_turn, section_looks, past, form_of, first_fault, read_of}
use Rattle.book.specs.declared.Form.TheVariants.{Old, Persons, Editions}
use Rattle.book.specs.declared.Row.{Row}
use Rattle.book.specs.declared.Starts.{Starts}
use Rattle.book.specs.declared.FaultAt.{FaultAt}

-- ---- book B

-- "codes 10, 20; staff 101, 102, 103, 104 with holdings 3, 1, 2, 3; policies (3; 1,2,2), (3; 2,2,2), (3; 0,3,1)"; of these editions
abbrev pub policies_b : ℕ → ℕ → ℕ → List Policy
policies_b first second third =
    record { task = 3; away = 1; crews = 2; size = 2; edition = first }
    ∷ record { task = 3; away = 2; crews = 2; size = 2; edition = second }
    ∷ record { task = 3; away = 0; crews = 3; size = 1; edition = third }
    ∷ []

abbrev pub values_b : Contents
values_b = record {
  form = Old;
  codes = 10 ∷ 20 ∷ [];
  rows =
      record { staff = 101; person = 101; holdings = 3 }
      ∷ record { staff = 102; person = 102; holdings = 1 }
      ∷ record { staff = 103; person = 103; holdings = 2 }
      ∷ record { staff = 104; person = 104; holdings = 3 }
      ∷ [];
  policies = policies_b 1 1 1;
}

-- the bytes of the file
abbrev pub book_b : List ℕ
book_b =
    2 ∷ 10 ∷ 0 ∷ 20 ∷ 0
    ∷ 4 ∷ 101 ∷ 0 ∷ 0 ∷ 0 ∷ 3 ∷ 0 ∷ 0 ∷ 0 ∷ 102 ∷ 0 ∷ 0 ∷ 0 ∷ 1 ∷ 0 ∷ 0 ∷ 0
    ∷ 103 ∷ 0 ∷ 0 ∷ 0 ∷ 2 ∷ 0 ∷ 0 ∷ 0 ∷ 104 ∷ 0 ∷ 0 ∷ 0 ∷ 3 ∷ 0 ∷ 0 ∷ 0
    ∷ 3 ∷ 3 ∷ 0 ∷ 0 ∷ 0 ∷ 1 ∷ 2 ∷ 2 ∷ 3 ∷ 0 ∷ 0 ∷ 0 ∷ 2 ∷ 2 ∷ 2 ∷ 3 ∷ 0 ∷ 0 ∷ 0 ∷ 0 ∷ 3 ∷ 1 ∷ []

pub b_bytes : bytes_of values_b ≡ book_b
unfolding bytes_of joined field_bytes little_endian
b_bytes = refl

-- "It has 60 bytes."
pub b_long : length book_b ≡ 60
b_long = refl

-- ---- the same staff as a new book, where 102 and 103 are accounts of one person

abbrev pub rows_new_b : List Row
rows_new_b =
    record { staff = 101; person = 7; holdings = 3 }
    ∷ record { staff = 102; person = 8; holdings = 1 }
    ∷ record { staff = 103; person = 8; holdings = 2 }
    ∷ record { staff = 104; person = 9; holdings = 3 }
    ∷ []

abbrev pub values_new_b : Contents
values_new_b = record {
  form = Persons;
  codes = 10 ∷ 20 ∷ [];
  rows = rows_new_b;
  policies = policies_b 1 1 1;
}

abbrev pub new_b : List ℕ
new_b =
    200 ∷ 2 ∷ 10 ∷ 0 ∷ 20 ∷ 0
    ∷ 4 ∷ 101 ∷ 0 ∷ 0 ∷ 0 ∷ 7 ∷ 0 ∷ 0 ∷ 0 ∷ 3 ∷ 0 ∷ 0 ∷ 0 ∷ 102 ∷ 0 ∷ 0 ∷ 0 ∷ 8 ∷ 0 ∷ 0 ∷ 0 ∷ 1 ∷ 0 ∷ 0 ∷ 0
    ∷ 103 ∷ 0 ∷ 0 ∷ 0 ∷ 8 ∷ 0 ∷ 0 ∷ 0 ∷ 2 ∷ 0 ∷ 0 ∷ 0 ∷ 104 ∷ 0 ∷ 0 ∷ 0 ∷ 9 ∷ 0 ∷ 0 ∷ 0 ∷ 3 ∷ 0 ∷ 0 ∷ 0
    ∷ 3 ∷ 3 ∷ 0 ∷ 0 ∷ 0 ∷ 1 ∷ 2 ∷ 2 ∷ 3 ∷ 0 ∷ 0 ∷ 0 ∷ 2 ∷ 2 ∷ 2 ∷ 3 ∷ 0 ∷ 0 ∷ 0 ∷ 0 ∷ 3 ∷ 1 ∷ []

pub new_b_bytes : bytes_of values_new_b ≡ new_b
unfolding bytes_of joined field_bytes little_endian
new_b_bytes = refl

pub new_b_long : length new_b ≡ 77
new_b_long = refl

-- ---- and with editions: the first policy of the first, the others of the second

abbrev pub values_editions_b : Contents
values_editions_b = record {
  form = Editions;
  codes = 10 ∷ 20 ∷ [];
  rows = rows_new_b;
  policies = policies_b 1 2 2;
}

abbrev pub editions_b : List ℕ
editions_b =
    201 ∷ 2 ∷ 10 ∷ 0 ∷ 20 ∷ 0
    ∷ 4 ∷ 101 ∷ 0 ∷ 0 ∷ 0 ∷ 7 ∷ 0 ∷ 0 ∷ 0 ∷ 3 ∷ 0 ∷ 0 ∷ 0 ∷ 102 ∷ 0 ∷ 0 ∷ 0 ∷ 8 ∷ 0 ∷ 0 ∷ 0 ∷ 1 ∷ 0 ∷ 0 ∷ 0
    ∷ 103 ∷ 0 ∷ 0 ∷ 0 ∷ 8 ∷ 0 ∷ 0 ∷ 0 ∷ 2 ∷ 0 ∷ 0 ∷ 0 ∷ 104 ∷ 0 ∷ 0 ∷ 0 ∷ 9 ∷ 0 ∷ 0 ∷ 0 ∷ 3 ∷ 0 ∷ 0 ∷ 0
    ∷ 3 ∷ 3 ∷ 0 ∷ 0 ∷ 0 ∷ 1 ∷ 2 ∷ 2 ∷ 1 ∷ 3 ∷ 0 ∷ 0 ∷ 0 ∷ 2 ∷ 2 ∷ 2 ∷ 2 ∷ 3 ∷ 0 ∷ 0 ∷ 0 ∷ 0 ∷ 3 ∷ 1 ∷ 2 ∷ []

pub editions_b_bytes : bytes_of values_editions_b ≡ editions_b
unfolding bytes_of joined field_bytes little_endian
editions_b_bytes = refl

pub editions_b_long : length editions_b ≡ 80
editions_b_long = refl

-- ---- how the table is written

-- what is told of a book: good, with where its rows and its policies start, or the number and the place of its first fault
pub data Outcome : Type 0 where
  good : (rows policies : ℕ) → Outcome
  bad : (number place : ℕ) → Outcome

abbrev pub outcome : Result Starts FaultAt → Outcome
outcome (Ok starts) = good starts.rows starts.policies
outcome (Err e) = bad (fault_number e.fault) e.place

-- the bytes of an old row, and of a policy, whose numbers are below 256
abbrev pub person : ℕ → ℕ → List ℕ
person staff holdings = staff ∷ 0 ∷ 0 ∷ 0 ∷ holdings ∷ 0 ∷ 0 ∷ 0 ∷ []

abbrev pub asks : ℕ → ℕ → ℕ → ℕ → List ℕ
asks P s d t = P ∷ 0 ∷ 0 ∷ 0 ∷ s ∷ d ∷ t ∷ []

-- a section of these entries
abbrev pub listing : List (List ℕ) → List ℕ
listing l = length l ∷ foldr ◌++◌ [] l

-- a book of the permissions 10 and 20, with these rows and policies
abbrev pub two : List (List ℕ) → List (List ℕ) → List ℕ
two rows policies = 2 ∷ 10 ∷ 0 ∷ 20 ∷ 0 ∷ (listing rows ++ listing policies)

-- the permissions 0, 1, 2, .., so many
abbrev pub codes_to : ℕ → List ℕ
codes_to n = listing (tabulate n (λ code. code ∷ 0 ∷ []))

-- one row and one policy
abbrev pub little : List ℕ
little = two (person 1 3 ∷ []) (asks 1 0 1 1 ∷ [])

-- ---- the table

-- counts at both ends: 1 to 32 permissions, 0 to 64 rows, 0 to 32 policies. A count that may stand is seen by the first entry that is missing
abbrev pub count_cases : List (List ℕ × Outcome)
count_cases =
    ([], bad 11 0)
    ∷ (0 ∷ [], bad 12 0)
    ∷ (33 ∷ [], bad 12 0)
    ∷ (199 ∷ [], bad 12 0)
    ∷ (202 ∷ [], bad 12 0)
    ∷ (255 ∷ [], bad 12 0)
    -- the least book: one permission, nobody, nothing asked
    ∷ (1 ∷ 0 ∷ 0 ∷ 0 ∷ 0 ∷ [], good 3 4)
    -- 32 permissions that are there, and 32 that are not
    ∷ (codes_to 32 ++ (0 ∷ 0 ∷ []), good 65 66)
    ∷ (32 ∷ [], bad 11 1)
    ∷ (codes_to 1 ++ (64 ∷ []), bad 11 4)
    ∷ (codes_to 1 ++ (65 ∷ []), bad 14 3)
    ∷ (codes_to 1 ++ (255 ∷ []), bad 14 3)
    ∷ (codes_to 1 ++ (0 ∷ 32 ∷ []), bad 11 5)
    ∷ (codes_to 1 ++ (0 ∷ 33 ∷ []), bad 17 4)
    ∷ (codes_to 1 ++ (0 ∷ 255 ∷ []), bad 17 4)
    ∷ []

-- codes: 0 may be the first; then they ascend, by both bytes
abbrev pub code_cases : List (List ℕ × Outcome)
code_cases =
    (2 ∷ 0 ∷ 0 ∷ 1 ∷ 0 ∷ 0 ∷ 0 ∷ [], good 5 6)
    ∷ (2 ∷ 0 ∷ 0 ∷ 0 ∷ 0 ∷ 0 ∷ 0 ∷ [], bad 13 3)
    ∷ (2 ∷ 255 ∷ 0 ∷ 0 ∷ 1 ∷ 0 ∷ 0 ∷ [], good 5 6)
    ∷ (2 ∷ 0 ∷ 1 ∷ 255 ∷ 0 ∷ 0 ∷ 0 ∷ [], bad 13 3)
    ∷ (3 ∷ 1 ∷ 0 ∷ 2 ∷ 0 ∷ 2 ∷ 0 ∷ 0 ∷ 0 ∷ [], bad 13 5)
    ∷ []

-- rows: 0 may be the first staff number; then they ascend, by all four bytes; holdings within the two permissions
abbrev pub row_cases : List (List ℕ × Outcome)
row_cases =
    (two (person 0 0 ∷ []) [], good 5 14)
    ∷ (two (person 0 0 ∷ person 0 0 ∷ []) [], bad 15 14)
    ∷ (two (person 0 0 ∷ person 1 3 ∷ []) [], good 5 22)
    ∷ (two ((255 ∷ 255 ∷ 255 ∷ 0 ∷ 0 ∷ 0 ∷ 0 ∷ 0 ∷ []) ∷ (0 ∷ 0 ∷ 0 ∷ 1 ∷ 0 ∷ 0 ∷ 0 ∷ 0 ∷ []) ∷ []) [], good 5 22)
    ∷ (two ((0 ∷ 0 ∷ 0 ∷ 1 ∷ 0 ∷ 0 ∷ 0 ∷ 0 ∷ []) ∷ (255 ∷ 255 ∷ 255 ∷ 0 ∷ 0 ∷ 0 ∷ 0 ∷ 0 ∷ []) ∷ []) [], bad 15 14)
    ∷ (two (person 1 0 ∷ (255 ∷ 255 ∷ 255 ∷ 255 ∷ 3 ∷ 0 ∷ 0 ∷ 0 ∷ []) ∷ []) [], good 5 22)
    ∷ (two (person 1 4 ∷ []) [], bad 16 10)
    ∷ (two (person 1 3 ∷ person 2 1 ∷ person 3 4 ∷ []) [], bad 16 26)
    ∷ (two ((1 ∷ 0 ∷ 0 ∷ 0 ∷ 0 ∷ 0 ∷ 0 ∷ 128 ∷ []) ∷ []) [], bad 16 10)
    -- 31 permissions, and a row that holds the thirty-second; 32, and it may
    ∷ (codes_to 31 ++ (1 ∷ 1 ∷ 0 ∷ 0 ∷ 0 ∷ 0 ∷ 0 ∷ 0 ∷ 128 ∷ 0 ∷ []), bad 16 68)
    ∷ (codes_to 31 ++ (1 ∷ 1 ∷ 0 ∷ 0 ∷ 0 ∷ 0 ∷ 0 ∷ 0 ∷ 64 ∷ 0 ∷ []), good 63 72)
    ∷ (codes_to 32 ++ (1 ∷ 1 ∷ 0 ∷ 0 ∷ 0 ∷ 0 ∷ 0 ∷ 0 ∷ 128 ∷ 0 ∷ []), good 65 74)
    -- 9 permissions: the ninth is the first bit of the second byte
    ∷ (codes_to 9 ++ (1 ∷ 1 ∷ 0 ∷ 0 ∷ 0 ∷ 0 ∷ 1 ∷ 0 ∷ 0 ∷ 0 ∷ []), good 19 28)
    ∷ (codes_to 9 ++ (1 ∷ 1 ∷ 0 ∷ 0 ∷ 0 ∷ 0 ∷ 2 ∷ 0 ∷ 0 ∷ 0 ∷ []), bad 16 24)
    ∷ []

-- policies: P within the two permissions and not zero, s to 64, d from 1 to 8, t from 1 to 64
abbrev pub policy_cases : List (List ℕ × Outcome)
policy_cases =
    (two [] (asks 3 0 1 1 ∷ []), good 5 6)
    ∷ (two [] (asks 4 0 1 1 ∷ []), bad 18 7)
    ∷ (two [] (asks 0 0 1 1 ∷ []), bad 2 7)
    ∷ (two [] (asks 1 64 1 1 ∷ []), good 5 6)
    ∷ (two [] (asks 1 65 1 1 ∷ []), bad 3 11)
    ∷ (two [] (asks 1 255 1 1 ∷ []), bad 3 11)
    ∷ (two [] (asks 1 0 0 1 ∷ []), bad 4 12)
    ∷ (two [] (asks 1 0 8 1 ∷ []), good 5 6)
    ∷ (two [] (asks 1 0 9 1 ∷ []), bad 4 12)
    ∷ (two [] (asks 1 0 1 0 ∷ []), bad 5 13)
    ∷ (two [] (asks 1 0 1 64 ∷ []), good 5 6)
    ∷ (two [] (asks 1 0 1 65 ∷ []), bad 5 13)
    -- 31 permissions, and a task of the thirty-second; 32, and it may
    ∷ (codes_to 31 ++ (0 ∷ 1 ∷ 0 ∷ 0 ∷ 0 ∷ 128 ∷ 0 ∷ 1 ∷ 1 ∷ []), bad 18 65)
    ∷ (codes_to 32 ++ (0 ∷ 1 ∷ 0 ∷ 0 ∷ 0 ∷ 128 ∷ 0 ∷ 1 ∷ 1 ∷ []), good 65 66)
    ∷ (codes_to 9 ++ (0 ∷ 1 ∷ 0 ∷ 1 ∷ 0 ∷ 0 ∷ 0 ∷ 1 ∷ 1 ∷ []), good 19 20)
    ∷ (codes_to 9 ++ (0 ∷ 1 ∷ 0 ∷ 2 ∷ 0 ∷ 0 ∷ 0 ∷ 1 ∷ 1 ∷ []), bad 18 21)
    ∷ []

-- two and three faults of one entry: 11 before all, 15 before 16, 18 before 2 to 5, 2 before 3 before 4 before 5
abbrev pub faults_together : List (List ℕ × Outcome)
faults_together =
    (two (person 1 3 ∷ person 1 4 ∷ []) [], bad 15 14)
    ∷ (two [] (asks 4 65 0 0 ∷ []), bad 18 7)
    ∷ (two [] (asks 4 65 1 1 ∷ []), bad 18 7)
    ∷ (two [] (asks 4 0 9 1 ∷ []), bad 18 7)
    ∷ (two [] (asks 4 0 1 65 ∷ []), bad 18 7)
    ∷ (two [] (asks 0 65 0 0 ∷ []), bad 2 7)
    ∷ (two [] (asks 0 65 1 1 ∷ []), bad 2 7)
    ∷ (two [] (asks 0 0 9 1 ∷ []), bad 2 7)
    ∷ (two [] (asks 0 0 1 65 ∷ []), bad 2 7)
    ∷ (two [] (asks 1 65 0 0 ∷ []), bad 3 11)
    ∷ (two [] (asks 1 65 9 1 ∷ []), bad 3 11)
    ∷ (two [] (asks 1 65 1 65 ∷ []), bad 3 11)
    ∷ (two [] (asks 1 0 0 0 ∷ []), bad 4 12)
    ∷ (two [] (asks 1 0 9 65 ∷ []), bad 4 12)
    -- cut: a code, a row, a policy, at fault in what there is of them
    ∷ (take 4 (2 ∷ 10 ∷ 0 ∷ 10 ∷ 0 ∷ []), bad 11 3)
    ∷ (take 21 (two (person 1 3 ∷ person 1 4 ∷ []) []), bad 11 18)
    ∷ (take 18 (two (person 1 3 ∷ person 1 4 ∷ []) []), bad 11 18)
    ∷ (take 17 (two (person 1 3 ∷ person 1 4 ∷ []) []), bad 11 14)
    ∷ (take 13 (two [] (asks 4 65 0 0 ∷ [])), bad 11 13)
    ∷ (take 13 (two [] (asks 0 65 0 0 ∷ [])), bad 11 13)
    ∷ (take 13 (two [] (asks 1 65 0 0 ∷ [])), bad 11 13)
    ∷ []

-- faults in two places: the earlier is told
abbrev pub faults_apart : List (List ℕ × Outcome)
faults_apart =
    (0 ∷ 10 ∷ 0 ∷ [], bad 12 0)
    ∷ (33 ∷ 10 ∷ 0 ∷ 10 ∷ 0 ∷ [], bad 12 0)
    ∷ (2 ∷ 10 ∷ 0 ∷ 10 ∷ 0 ∷ 65 ∷ [], bad 13 3)
    ∷ (2 ∷ 10 ∷ 0 ∷ 10 ∷ 0 ∷ [], bad 13 3)
    ∷ (2 ∷ 10 ∷ 0 ∷ 20 ∷ 0 ∷ 65 ∷ 1 ∷ 0 ∷ 0 ∷ 0 ∷ 4 ∷ 0 ∷ 0 ∷ 0 ∷ [], bad 14 5)
    ∷ (two (person 1 4 ∷ person 1 3 ∷ []) [], bad 16 10)
    ∷ (two (person 1 3 ∷ person 1 3 ∷ person 2 4 ∷ []) [], bad 15 14)
    ∷ (two (person 1 3 ∷ person 2 4 ∷ person 2 3 ∷ []) [], bad 16 18)
    ∷ (take 22 (two (person 1 3 ∷ person 2 4 ∷ []) []) ++ (33 ∷ []), bad 16 18)
    ∷ (take 22 (two (person 1 3 ∷ person 1 3 ∷ []) []) ++ (33 ∷ []), bad 15 14)
    ∷ (2 ∷ 10 ∷ 0 ∷ 20 ∷ 0 ∷ 0 ∷ 33 ∷ 4 ∷ 0 ∷ 0 ∷ 0 ∷ 65 ∷ 0 ∷ 0 ∷ [], bad 17 6)
    ∷ (two [] (asks 1 0 1 0 ∷ asks 4 0 1 1 ∷ []), bad 5 13)
    ∷ (two [] (asks 1 0 1 1 ∷ asks 4 0 1 0 ∷ []), bad 18 14)
    ∷ (two [] (asks 1 0 9 1 ∷ asks 1 65 1 1 ∷ []), bad 4 12)
    ∷ (two [] (asks 1 0 1 1 ∷ asks 0 0 1 1 ∷ asks 1 65 1 1 ∷ []), bad 2 14)
    ∷ (take 21 (two [] (asks 1 65 1 1 ∷ asks 1 0 1 1 ∷ [])), bad 3 11)
    ∷ (two [] (asks 4 0 1 1 ∷ []) ++ (0 ∷ []), bad 18 7)
    ∷ (two [] (asks 1 0 1 65 ∷ []) ++ (0 ∷ []), bad 5 13)
    ∷ []

-- a book of two permissions, one row and one policy, whole, cut before and in each count and field, and with bytes after it
abbrev pub cut_cases : List (List ℕ × Outcome)
cut_cases =
    (little, good 5 14)
    ∷ (take 1 little, bad 11 1)
    ∷ (take 2 little, bad 11 1)
    ∷ (take 3 little, bad 11 3)
    ∷ (take 4 little, bad 11 3)
    ∷ (take 5 little, bad 11 5)
    ∷ (take 6 little, bad 11 6)
    ∷ (take 9 little, bad 11 6)
    ∷ (take 10 little, bad 11 10)
    ∷ (take 13 little, bad 11 10)
    ∷ (take 14 little, bad 11 14)
    ∷ (take 15 little, bad 11 15)
    ∷ (take 18 little, bad 11 15)
    ∷ (take 19 little, bad 11 19)
    ∷ (take 20 little, bad 11 20)
    ∷ (take 21 little, bad 11 21)
    ∷ (little ++ (0 ∷ []), bad 19 22)
    ∷ (little ++ (7 ∷ 7 ∷ []), bad 19 22)
    ∷ (1 ∷ 0 ∷ 0 ∷ 0 ∷ 0 ∷ [] ++ (0 ∷ []), bad 19 5)
    ∷ []

-- book B: with one byte more, with a byte changed, cut in a row that is at fault, and with rows that are not there
abbrev pub cases_of_b : List (List ℕ × Outcome)
cases_of_b =
    (book_b, good 5 38)
    ∷ (book_b ++ (0 ∷ []), bad 19 60)
    ∷ (set book_b 0 0, bad 12 0)
    ∷ (set book_b 0 33, bad 12 0)
    ∷ (set book_b 3 10, bad 13 3)
    ∷ (set book_b 5 65, bad 14 5)
    ∷ (set book_b 14 101, bad 15 14)
    ∷ (set book_b 10 4, bad 16 10)
    ∷ (set book_b 18 4, bad 16 18)
    ∷ (set book_b 38 33, bad 17 38)
    ∷ (set book_b 39 4, bad 18 39)
    ∷ (set book_b 39 0, bad 2 39)
    ∷ (set book_b 43 65, bad 3 43)
    ∷ (set book_b 44 0, bad 4 44)
    ∷ (set book_b 45 65, bad 5 45)
    ∷ (set book_b 59 65, bad 5 59)
    ∷ (set (set book_b 14 101) 18 4, bad 15 14)
    ∷ (set (set book_b 10 4) 14 101, bad 16 10)
    ∷ (take 21 (set book_b 14 101), bad 11 18)
    ∷ (take 18 (set book_b 14 101), bad 11 18)
    ∷ (take 17 (set book_b 14 101), bad 11 14)
    ∷ (take 44 (set book_b 39 4), bad 11 44)
    ∷ (take 45 (set (set book_b 39 0) 43 65), bad 11 45)
    ∷ (take 22 (set book_b 5 64), bad 11 22)
    ∷ (take 59 book_b, bad 11 59)
    ∷ []

-- new books: the leading byte by itself, the permission count behind it, and book B of persons with a byte changed, cut before and in counts and
-- fields, and with one byte more
abbrev pub new_cases : List (List ℕ × Outcome)
new_cases =
    (200 ∷ [], bad 11 1)
    ∷ (200 ∷ 0 ∷ [], bad 12 1)
    ∷ (200 ∷ 33 ∷ [], bad 12 1)
    ∷ (200 ∷ 200 ∷ [], bad 12 1)
    ∷ (200 ∷ 1 ∷ 0 ∷ 0 ∷ 0 ∷ 0 ∷ [], good 4 5)
    ∷ (200 ∷ (codes_to 32 ++ (0 ∷ 0 ∷ [])), good 66 67)
    ∷ (new_b, good 6 55)
    ∷ (new_b ++ (0 ∷ []), bad 19 77)
    ∷ (set new_b 1 0, bad 12 1)
    ∷ (set new_b 1 33, bad 12 1)
    ∷ (set new_b 4 10, bad 13 4)
    ∷ (set new_b 6 65, bad 14 6)
    ∷ (set new_b 19 101, bad 15 19)
    -- any person number, in any order
    ∷ (set new_b 23 255, good 6 55)
    ∷ (set new_b 23 0, good 6 55)
    ∷ (set (set new_b 26 255) 38 255, good 6 55)
    ∷ (set new_b 27 4, bad 16 27)
    ∷ (set (set new_b 19 101) 27 4, bad 15 19)
    ∷ (set new_b 55 33, bad 17 55)
    ∷ (set new_b 56 4, bad 18 56)
    ∷ (set new_b 56 0, bad 2 56)
    ∷ (set new_b 60 65, bad 3 60)
    ∷ (set new_b 61 0, bad 4 61)
    ∷ (set new_b 62 65, bad 5 62)
    ∷ (take 2 new_b, bad 11 2)
    ∷ (take 4 new_b, bad 11 4)
    ∷ (take 5 new_b, bad 11 4)
    ∷ (take 6 new_b, bad 11 6)
    ∷ (take 7 new_b, bad 11 7)
    ∷ (take 10 new_b, bad 11 7)
    ∷ (take 11 new_b, bad 11 11)
    ∷ (take 15 new_b, bad 11 15)
    ∷ (take 18 new_b, bad 11 15)
    ∷ (take 19 new_b, bad 11 19)
    ∷ (take 22 (set new_b 19 101), bad 11 19)
    ∷ (take 26 (set new_b 19 101), bad 11 23)
    ∷ (take 30 (set new_b 19 101), bad 11 27)
    ∷ (take 43 new_b, bad 11 43)
    ∷ (take 55 new_b, bad 11 55)
    ∷ (take 56 new_b, bad 11 56)
    ∷ (take 63 new_b, bad 11 63)
    ∷ (take 76 new_b, bad 11 76)
    ∷ []

-- books with editions: the leading byte by itself, and book B with one, with a byte changed, with two faults, cut, and with one byte more
abbrev pub edition_cases : List (List ℕ × Outcome)
edition_cases =
    (201 ∷ [], bad 11 1)
    ∷ (201 ∷ 0 ∷ [], bad 12 1)
    ∷ (201 ∷ 201 ∷ [], bad 12 1)
    ∷ (201 ∷ 1 ∷ 0 ∷ 0 ∷ 0 ∷ 0 ∷ [], good 4 5)
    ∷ (editions_b, good 6 55)
    ∷ (editions_b ++ (0 ∷ []), bad 19 80)
    ∷ (set editions_b 63 0, bad 25 63)
    ∷ (set editions_b 63 2, good 6 55)
    ∷ (set editions_b 63 3, bad 25 63)
    ∷ (set editions_b 63 255, bad 25 63)
    ∷ (set editions_b 79 3, bad 25 79)
    ∷ (set (set editions_b 62 0) 63 0, bad 5 62)
    ∷ (set (set editions_b 61 9) 63 3, bad 4 61)
    ∷ (set (set editions_b 56 4) 63 3, bad 18 56)
    -- before the next policy
    ∷ (set (set editions_b 63 3) 64 4, bad 25 63)
    ∷ (set (set editions_b 70 0) 71 3, bad 5 70)
    ∷ (set editions_b 19 101, bad 15 19)
    ∷ (set editions_b 27 4, bad 16 27)
    ∷ (set editions_b 55 33, bad 17 55)
    ∷ (take 56 editions_b, bad 11 56)
    ∷ (take 62 editions_b, bad 11 62)
    ∷ (take 63 editions_b, bad 11 63)
    ∷ (take 63 (set editions_b 62 0), bad 11 63)
    ∷ (take 64 editions_b, bad 11 64)
    ∷ (take 79 editions_b, bad 11 79)
    -- the same bytes as a book with persons, whose policies have no edition
    ∷ (set editions_b 0 200, bad 18 63)
    ∷ []

abbrev pub cases : List (List ℕ × Outcome)
cases = count_cases ++ code_cases ++ row_cases ++ policy_cases ++ faults_together ++ faults_apart ++ cut_cases ++ cases_of_b ++ new_cases ++ edition_cases

-- ---- the fact

-- what is told of each book is what the table says
pub cases-told : map (λ (c : List ℕ × Outcome). outcome (read_of c.0)) cases ≡ map (λ (c : List ℕ × Outcome). c.1) cases
unfolding tabulate number fields_at cut_place count_look entry_look in_turn section_looks past form_of first_fault read_of policy_ruling
cases-told = refl
