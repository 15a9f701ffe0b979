-- Request 07, for planners: the roster of a book in which no two rows share a person. Nothing here is proved: these are definitions, and they run.
use Rattle.std.specs.Prelude.{Bool, true, false, List, ℕ, ◌-◌, ◌^◌, min, ltb, length, get_or, Result, Ok, Err}
use Rattle.std.proofs.Math.Option.{Option, some, none}
use Rattle.std.proofs.Math.ListN.{get_elem?}
use Rattle.sets.specs.Members.{members}
use Rattle.sets.specs.Arrays.{tabulate, at}
use Rattle.roster.specs.Limits.{row_limit}
use Rattle.crews.specs.Filling.{holders_of}
use Rattle.accounts.specs.Persons.{persons}
use Rattle.accounts.specs.declared.Accounts.{Accounts}
use Rattle.book.specs.Reading.{read_of}
use Rattle.book.specs.Parts.{contents_of, accounts_in}
use Rattle.book.specs.declared.Row.{Row}
use Rattle.values.specs.Values.{nobody}
use Rattle.live.specs.Changes.{empty}
use Rattle.live.specs.Plain.{Somebody, Plain}
use Rattle.live.specs.declared.Roster.{Roster}
use Rattle.std.specs.Result.{result_unwrap_or}
use Rattle.desk.specs.declared.NotTaken.TheVariants.{Shared, Refused}
use Rattle.desk.specs.declared.NotTaken.{NotTaken}
use Rattle.book.specs.declared.Starts.{Starts}
use Rattle.book.specs.declared.FaultAt.{FaultAt}

-- row i of these at place i, as far as n goes
unfoldable pub seated_by : List Row → ℕ → Roster
seated_by rows n =
    let held = tabulate row_limit (λ i. (get_or rows i nobody).holdings) in
    record {
      occupied = 2 ^ min n row_limit - 1;
      staff = tabulate row_limit (λ i. (get_or rows i nobody).staff);
      holdings = held;
      holders = tabulate 32 (holders_of (at held));
    }

-- every row at its place, and nobody after them
abbrev pub seated : List Row → Roster
seated rows = seated_by rows (length rows)

-- the same as a plain list: whoever has a row stands at its place, with the permissions that it holds
abbrev pub whose : Row → Somebody
whose row = record { staff = row.staff; permissions = members 0 32 row.holdings }

abbrev pub seat_of : Option Row → Option Somebody
seat_of none = none
seat_of (some row) = some (whose row)

abbrev pub plain_rows : List Row → Plain
plain_rows rows = tabulate row_limit (λ i. seat_of (get_elem? rows i))

-- "no two rows share a person": two do where there are fewer persons than rows (`shares_none`)
abbrev pub sharing : Accounts → Bool
sharing a = ltb (persons a) a.rows

-- "another is not taken, and says so"
abbrev pub filled_if : Bool → List Row → Result Roster NotTaken
filled_if true rows = Err Shared
filled_if false rows = Ok (seated rows)

abbrev pub filled_by : List ℕ → Result Starts FaultAt → Result Roster NotTaken
filled_by book (Ok starts) = filled_if (sharing (accounts_in book)) (contents_of book).rows
filled_by book (Err e) = Err (Refused e)

unfoldable pub filled_from : List ℕ → Result Roster NotTaken
filled_from book = filled_by book (read_of book)

-- the roster that a book leaves: an empty one, where it is not taken
abbrev pub roster_from : List ℕ → Roster
roster_from book = result_unwrap_or (filled_from book) empty
