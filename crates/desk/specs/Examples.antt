-- Books, what is taken of them and what is given back, as one table: the definitions run on it.
use Rattle.std.specs.Prelude.{◌≡◌, refl, List, [], ◌∷◌, map, ℕ, take, set, Option, Some, None}
use Rattle.std.specs.Int.Count.{ones, ones_in, count_trailing_zeros}
use Rattle.sets.specs.Sets.{bit}
use Rattle.sets.specs.Sums.{sum_to, to_n}
use Rattle.sets.specs.Members.{cons?, members, hasb, set_of}
use Rattle.sets.specs.Arrays.{tabulate}
use Rattle.roster.specs.Refusals.{policy_ruling}
use Rattle.accounts.specs.Persons.{first, first_of, leads, count_of}
use Rattle.book.specs.Layout.{bytes_of, joined, field_bytes, little_endian}
use Rattle.book.specs.Reading.{number, fields_at, count_look, entry_look, in_turn, section_looks, past, form_of, first_fault, read_of}
use Rattle.book.specs.Parts.{entries_at, contents_by, starts_in, place_of, accounts_in}
use Rattle.book.specs.Cases.{book_b, new_b}
use Rattle.book.specs.declared.Fault.TheVariants.{Short, Permissions}
use Rattle.values.specs.Values.{contents_for, values_for, values_of}
use Rattle.live.specs.Changes.{Call, hire, leave, grant, first_from, told_of, after_from}
use Rattle.desk.specs.Filled.{seated_by, filled_from, roster_from}
use Rattle.desk.specs.Back.{least_of, order_of, given_back}
use Rattle.std.specs.Result.{result_err}
use Rattle.desk.specs.declared.NotTaken.TheVariants.{Shared, Refused}
use Rattle.desk.specs.declared.NotTaken.{NotTaken}

-- ---- how the table is written

-- a new book of one permission and two rows with these person numbers, which hold it and nothing
abbrev pub pair : ℕ → ℕ → List ℕ
pair one other =
    200 ∷ 1 ∷ 10 ∷ 0 ∷ 2 ∷ 101 ∷ 0 ∷ 0 ∷ 0 ∷ one ∷ 0 ∷ 0 ∷ 0 ∷ 1 ∷ 0 ∷ 0 ∷ 0 ∷ 102 ∷ 0 ∷ 0 ∷ 0 ∷ other ∷ 0 ∷ 0 ∷ 0 ∷ 0 ∷ 0 ∷ 0 ∷ 0 ∷ 0 ∷ []

-- the same two rows in the old form
abbrev pub old_pair : List ℕ
old_pair = 1 ∷ 10 ∷ 0 ∷ 2 ∷ 101 ∷ 0 ∷ 0 ∷ 0 ∷ 1 ∷ 0 ∷ 0 ∷ 0 ∷ 102 ∷ 0 ∷ 0 ∷ 0 ∷ 0 ∷ 0 ∷ 0 ∷ 0 ∷ 0 ∷ []

-- the pair in a book with editions, with one policy of the second
abbrev pub named : ℕ → ℕ → List ℕ
named one other =
    201 ∷ 1 ∷ 10 ∷ 0 ∷ 2 ∷ 101 ∷ 0 ∷ 0 ∷ 0 ∷ one ∷ 0 ∷ 0 ∷ 0 ∷ 1 ∷ 0 ∷ 0 ∷ 0 ∷ 102 ∷ 0 ∷ 0 ∷ 0 ∷ other ∷ 0 ∷ 0 ∷ 0 ∷ 0 ∷ 0 ∷ 0 ∷ 0
    ∷ 1 ∷ 1 ∷ 0 ∷ 0 ∷ 0 ∷ 0 ∷ 1 ∷ 2 ∷ 2 ∷ []

-- what is looked at: whether it was taken, and why not, the places, the first staff numbers, holdings and sets
pub record Sight : Type 0 where
  pub why : Option NotTaken
  pub occupied : ℕ
  pub staff : List ℕ
  pub holdings : List ℕ
  pub holders : List ℕ

abbrev pub sight : List ℕ → Sight
sight book =
    let roster = roster_from book in
    record {
      why = result_err (filled_from book);
      occupied = roster.occupied;
      staff = take 5 roster.staff;
      holdings = take 5 roster.holdings;
      holders = take 3 roster.holders;
    }

abbrev pub untaken : NotTaken → Sight
untaken why = record { why = Some why; occupied = 0; staff = 0 ∷ 0 ∷ 0 ∷ 0 ∷ 0 ∷ []; holdings = 0 ∷ 0 ∷ 0 ∷ 0 ∷ 0 ∷ []; holders = 0 ∷ 0 ∷ 0 ∷ [] }

-- the book that is written of a book's roster after these calls, the last one first
abbrev pub rewritten : List ℕ → List Call → List ℕ
rewritten book calls = bytes_of (contents_for (given_back (after_from (roster_from book) calls) (values_of book)))

-- ---- the table

abbrev pub books : List (List ℕ)
books = book_b ∷ new_b ∷ pair 7 8 ∷ pair 8 7 ∷ [] ∷ set book_b 0 0 ∷ []

abbrev pub sights : List Sight
sights =
    record {
      why = None;
      occupied = 15;
      staff = 101 ∷ 102 ∷ 103 ∷ 104 ∷ 0 ∷ [];
      holdings = 3 ∷ 1 ∷ 2 ∷ 3 ∷ 0 ∷ [];
      holders = 11 ∷ 13 ∷ 0 ∷ [];
    }
    ∷ untaken Shared
    ∷ record { why = None; occupied = 3; staff = 101 ∷ 102 ∷ 0 ∷ 0 ∷ 0 ∷ []; holdings = 1 ∷ 0 ∷ 0 ∷ 0 ∷ 0 ∷ []; holders = 1 ∷ 0 ∷ 0 ∷ [] }
    ∷ record { why = None; occupied = 3; staff = 101 ∷ 102 ∷ 0 ∷ 0 ∷ 0 ∷ []; holdings = 1 ∷ 0 ∷ 0 ∷ 0 ∷ 0 ∷ []; holders = 1 ∷ 0 ∷ 0 ∷ [] }
    ∷ untaken (Refused (record { fault = Short; place = 0 }))
    ∷ untaken (Refused (record { fault = Permissions; place = 0 }))
    ∷ []

-- B again; the pair in the old form; the pair where 102 left and 99, who took the place, comes first by number with what was granted; and the pair with
-- editions, which keeps them
abbrev pub written : List (List ℕ)
written =
    rewritten book_b []
    ∷ rewritten (pair 8 7) []
    ∷ rewritten (pair 8 7) (grant 99 0 ∷ hire 99 ∷ leave 102 ∷ [])
    ∷ rewritten (named 8 7) []
    ∷ []

abbrev pub expected : List (List ℕ)
expected =
    book_b
    ∷ old_pair
    ∷ (1 ∷ 10 ∷ 0 ∷ 2 ∷ 99 ∷ 0 ∷ 0 ∷ 0 ∷ 1 ∷ 0 ∷ 0 ∷ 0 ∷ 101 ∷ 0 ∷ 0 ∷ 0 ∷ 1 ∷ 0 ∷ 0 ∷ 0 ∷ 0 ∷ [])
    ∷ named 101 102
    ∷ []

-- ---- the fact

pub examples_hold : (map sight books ≡ sights) × (written ≡ expected)
unfolding bit sum_to to_n cons? members hasb set_of tabulate ones ones_in count_trailing_zeros policy_ruling first first_of leads count_of bytes_of joined field_bytes little_endian number fields_at count_look entry_look in_turn section_looks past form_of first_fault read_of entries_at contents_by starts_in place_of accounts_in contents_for values_for values_of first_from told_of after_from seated_by filled_from least_of order_of given_back
examples_hold = (refl, refl)
