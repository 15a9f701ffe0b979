-- Values and what writing them comes to, by the published number, the place and the buffer: one table, one fact, by running the definitions. It
-- pins what definition and code could change together: every number, every limit at both ends, the order of faults, room that just does, and
-- that nothing is written but the book.
use Rattle.std.specs.Prelude.{◌≡◌, refl, List, [], ◌∷◌, ◌++◌, map, ℕ, length, replicate, Result, Ok, Err}
use Rattle.sets.specs.Arrays.{tabulate}
use Rattle.roster.specs.Refusals.{policy_ruling}
use Rattle.roster.specs.declared.Policy.{Policy}
use Rattle.book.specs.Layout.{Contents, bytes_of, joined, field_bytes, little_endian}
use Rattle.book.specs.Cases.{values_b, book_b, values_new_b, new_b, values_editions_b, editions_b}
use Rattle.book.specs.declared.Form.{Form}
use Rattle.book.specs.declared.Form.TheVariants.{Old, Persons, Editions}
use Rattle.book.proofs.Laws.Longest.{fullest}
use Rattle.book.specs.declared.Row.{Row}
use Rattle.values.specs.Values.{contents_for, values_for}
use Rattle.values.specs.Writing.{unwritten_number, value_looks, first_of}
use Rattle.values.specs.Promises.{outcome_of}
use Rattle.values.specs.declared.NotWritten.{NotWritten}

-- ---- how the table is written

pub data Answer : Type 0 where
  written : (long : ℕ) (buffer : List ℕ) → Answer
  refused : (number place : ℕ) (buffer : List ℕ) → Answer

abbrev pub answer_by : Result ℕ NotWritten → List ℕ → Answer
answer_by (Ok n) buffer = written n buffer
answer_by (Err e) buffer = refused (unwritten_number e.why) e.place buffer

abbrev pub answer : Contents → List ℕ → Answer
answer v old = answer_by (outcome_of v old).reply (outcome_of v old).after

-- a buffer of so many bytes, each 7
abbrev pub room : ℕ → List ℕ
room n = replicate n 7

-- values, how much room there is, and what is answered
pub record Example : Type 0 where
  pub values : Contents
  pub bytes : ℕ
  pub answer : Answer

-- written, with so many bytes of the buffer behind the book
abbrev pub gives : Contents → ℕ → List ℕ → ℕ → Example
gives v n book behind = record { values = v; bytes = n; answer = written (length book) (book ++ room behind) }

-- refused with this number, place 0, and nothing written
abbrev pub is_refused : Contents → ℕ → ℕ → Example
is_refused v n number = record { values = v; bytes = n; answer = refused number 0 (room n) }

abbrev pub person : ℕ → ℕ → Row
person staff holdings = record { staff = staff; person = staff; holdings = holdings }

abbrev pub asks : ℕ → ℕ → ℕ → ℕ → Policy
asks P s d t = record { task = P; away = s; crews = d; size = t; edition = 1 }

-- these rows and policies, with the permissions 10 and 20
abbrev pub two : List Row → List Policy → Contents
two rows policies = record { form = Old; codes = 10 ∷ 20 ∷ []; rows = rows; policies = policies }

-- these codes, rows with staff numbers from 0 on, and policies that ask for permission 0
abbrev pub sized : List ℕ → ℕ → ℕ → Contents
sized codes rows policies = record { form = Old; codes = codes; rows = tabulate rows (λ i. person i 1); policies = tabulate policies (λ i. asks 1 0 1 1) }

-- one policy, beside the permissions 10 and 20
abbrev pub one : Policy → Contents
one p = two [] (p ∷ [])

-- ---- the table

-- room that is just enough, more, and too little; the least book, and the longest
abbrev pub room_cases : List Example
room_cases =
    gives values_b 60 book_b 0
    ∷ gives values_b 61 book_b 1
    ∷ is_refused values_b 59 20
    ∷ is_refused values_b 0 20
    ∷ gives (sized (0 ∷ []) 0 0) 5 (1 ∷ 0 ∷ 0 ∷ 0 ∷ 0 ∷ []) 0
    ∷ is_refused (sized (0 ∷ []) 0 0) 4 20
    ∷ gives (fullest Old) 803 (bytes_of (fullest Old)) 0
    ∷ is_refused (fullest Old) 802 20
    ∷ gives values_new_b 77 new_b 0
    ∷ gives values_new_b 78 new_b 1
    ∷ is_refused values_new_b 76 20
    ∷ gives (fullest Persons) 1060 (bytes_of (fullest Persons)) 0
    ∷ is_refused (fullest Persons) 1059 20
    ∷ gives values_editions_b 80 editions_b 0
    ∷ gives values_editions_b 81 editions_b 1
    ∷ is_refused values_editions_b 79 20
    ∷ gives (fullest Editions) 1092 (bytes_of (fullest Editions)) 0
    ∷ is_refused (fullest Editions) 1091 20
    ∷ []

-- counts at both ends, codes and rows
abbrev pub count_cases : List Example
count_cases =
    is_refused (sized [] 0 0) 100 12
    ∷ is_refused (sized (tabulate 33 (λ i. i)) 0 0) 100 12
    ∷ is_refused (sized (1 ∷ []) 65 0) 1000 14
    ∷ is_refused (sized (1 ∷ []) 0 33) 1000 17
    ∷ is_refused (sized (10 ∷ 10 ∷ []) 0 0) 100 13
    ∷ is_refused (sized (20 ∷ 10 ∷ []) 0 0) 100 13
    ∷ gives (sized (10 ∷ 11 ∷ []) 0 0) 8 (2 ∷ 10 ∷ 0 ∷ 11 ∷ 0 ∷ 0 ∷ 0 ∷ []) 1
    ∷ is_refused (two (person 101 0 ∷ person 101 0 ∷ []) []) 100 15
    ∷ is_refused (two (person 102 0 ∷ person 101 0 ∷ []) []) 100 15
    ∷ is_refused (two (person 101 4 ∷ []) []) 100 16
    ∷ gives (two (person 0 3 ∷ []) []) 15 (2 ∷ 10 ∷ 0 ∷ 20 ∷ 0 ∷ 1 ∷ 0 ∷ 0 ∷ 0 ∷ 0 ∷ 3 ∷ 0 ∷ 0 ∷ 0 ∷ 0 ∷ []) 0
    ∷ []

-- each number of a policy at both ends, and past its byte
abbrev pub policy_cases : List Example
policy_cases =
    is_refused (one (asks 4 65 0 0)) 100 18
    ∷ is_refused (one (asks 0 65 0 0)) 100 2
    ∷ is_refused (one (asks 3 65 0 0)) 100 3
    ∷ is_refused (one (asks 3 256 1 1)) 100 3
    ∷ is_refused (one (asks 3 300 1 1)) 100 3
    ∷ is_refused (one (asks 3 64 0 0)) 100 4
    ∷ is_refused (one (asks 3 64 9 0)) 100 4
    ∷ is_refused (one (asks 3 64 264 1)) 100 4
    ∷ is_refused (one (asks 3 64 8 0)) 100 5
    ∷ is_refused (one (asks 3 64 8 65)) 100 5
    ∷ is_refused (one (asks 3 64 8 257)) 100 5
    ∷ is_refused (one (asks 3 64 8 65)) 0 5
    ∷ gives (one (asks 3 64 8 64)) 14 (2 ∷ 10 ∷ 0 ∷ 20 ∷ 0 ∷ 0 ∷ 1 ∷ 3 ∷ 0 ∷ 0 ∷ 0 ∷ 64 ∷ 8 ∷ 64 ∷ []) 0
    ∷ gives (one (asks 1 0 1 1)) 14 (2 ∷ 10 ∷ 0 ∷ 20 ∷ 0 ∷ 0 ∷ 1 ∷ 1 ∷ 0 ∷ 0 ∷ 0 ∷ 0 ∷ 1 ∷ 1 ∷ []) 0
    ∷ []

-- two faults: the one that is read first is told
abbrev pub faults_together : List Example
faults_together =
    is_refused (sized (tabulate 33 (λ i. 7)) 0 0) 100 12
    ∷ is_refused (sized (10 ∷ 10 ∷ []) 65 0) 1000 13
    ∷ is_refused (sized (10 ∷ []) 65 33) 1000 14
    ∷ is_refused (two (person 101 4 ∷ person 101 0 ∷ []) []) 100 16
    ∷ is_refused (two (person 101 0 ∷ person 101 4 ∷ []) []) 100 15
    ∷ is_refused (two (person 101 4 ∷ []) (tabulate 33 (λ i. asks 1 0 1 1))) 1000 16
    ∷ is_refused (two [] (tabulate 33 (λ i. asks 4 0 1 1))) 1000 17
    ∷ is_refused (two [] (asks 3 0 1 0 ∷ asks 4 0 1 1 ∷ [])) 100 5
    ∷ []

-- book B in arrays, with other counts: one past its array is no less out of range, and what stands past a count plays no part
abbrev pub counting : ℕ → ℕ → ℕ → Contents
counting codes rows policies =
    let v = values_for values_b in
    contents_for (record {
      form = v.form;
      codes = v.codes;
      code_count = codes;
      rows = v.rows;
      row_count = rows;
      policies = v.policies;
      policy_count = policies;
    })

abbrev pub counted_cases : List Example
counted_cases =
    gives (counting 2 4 3) 60 book_b 0
    ∷ gives (counting 1 0 0) 5 (1 ∷ 10 ∷ 0 ∷ 0 ∷ 0 ∷ []) 0
    ∷ is_refused (counting 0 4 3) 100 12
    ∷ is_refused (counting 3 4 3) 100 13
    ∷ is_refused (counting 33 4 3) 100 12
    ∷ is_refused (counting 1 4 3) 100 16
    ∷ is_refused (counting 2 5 3) 100 15
    ∷ is_refused (counting 2 65 3) 100 14
    ∷ is_refused (counting 2 4 4) 100 2
    ∷ is_refused (counting 2 4 33) 100 17
    ∷ []

-- book B with editions in arrays, under each form: an old book has no person numbers and an older one no editions, whatever stands there
abbrev pub under : Form → Contents
under form =
    let v = values_for values_editions_b in
    contents_for (record {
      form = form;
      codes = v.codes;
      code_count = v.code_count;
      rows = v.rows;
      row_count = v.row_count;
      policies = v.policies;
      policy_count = v.policy_count;
    })

abbrev pub form_cases : List Example
form_cases =
    gives (under Old) 60 book_b 0
    ∷ gives (under Persons) 77 new_b 0
    ∷ is_refused (record { form = Persons; codes = 10 ∷ 20 ∷ []; rows = person 102 0 ∷ person 101 0 ∷ []; policies = [] }) 100 15
    ∷ is_refused (record { form = Persons; codes = []; rows = []; policies = [] }) 100 12
    ∷ gives (under Editions) 80 editions_b 0
    ∷ []

-- policies of these sizes and editions, beside the permissions 10 and 20, put into arrays under this form
abbrev pub sizes : Form → List (ℕ × ℕ) → Contents
sizes form l =
    contents_for (values_for (record {
      form = form;
      codes = 10 ∷ 20 ∷ [];
      rows = [];
      policies = map (λ (x : ℕ × ℕ). record { task = 3; away = 0; crews = 1; size = x.0; edition = x.1 }) l;
    }))

-- 25 after 5 and before the next policy; in older forms the edition is not looked at
abbrev pub edition_cases : List Example
edition_cases =
    is_refused (sizes Editions ((1, 0) ∷ [])) 100 25
    ∷ is_refused (sizes Editions ((1, 3) ∷ [])) 100 25
    ∷ is_refused (sizes Editions ((1, 257) ∷ [])) 100 25
    ∷ is_refused (sizes Editions ((0, 3) ∷ [])) 100 5
    ∷ is_refused (sizes Editions ((1, 3) ∷ (0, 1) ∷ [])) 100 25
    ∷ is_refused (sizes Editions ((1, 1) ∷ (0, 3) ∷ [])) 100 5
    ∷ is_refused (sizes Editions ((1, 3) ∷ [])) 0 25
    ∷ gives (sizes Editions ((1, 2) ∷ [])) 16 (201 ∷ 2 ∷ 10 ∷ 0 ∷ 20 ∷ 0 ∷ 0 ∷ 1 ∷ 3 ∷ 0 ∷ 0 ∷ 0 ∷ 0 ∷ 1 ∷ 1 ∷ 2 ∷ []) 0
    ∷ gives (sizes Persons ((1, 9) ∷ [])) 15 (200 ∷ 2 ∷ 10 ∷ 0 ∷ 20 ∷ 0 ∷ 0 ∷ 1 ∷ 3 ∷ 0 ∷ 0 ∷ 0 ∷ 0 ∷ 1 ∷ 1 ∷ []) 0
    ∷ gives (sizes Old ((1, 0) ∷ [])) 14 (2 ∷ 10 ∷ 0 ∷ 20 ∷ 0 ∷ 0 ∷ 1 ∷ 3 ∷ 0 ∷ 0 ∷ 0 ∷ 0 ∷ 1 ∷ 1 ∷ []) 0
    ∷ []

abbrev pub examples : List Example
examples = room_cases ++ count_cases ++ policy_cases ++ faults_together ++ counted_cases ++ form_cases ++ edition_cases

-- ---- the fact

pub examples_hold : map (λ (x : Example). answer x.values (room x.bytes)) examples ≡ map (λ (x : Example). x.answer) examples
unfolding tabulate bytes_of joined field_bytes little_endian policy_ruling contents_for values_for value_looks first_of
examples_hold = refl
