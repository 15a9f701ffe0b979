-- Of a book that is not taken the roster is empty. Assumes nothing.
use Rattle.std.specs.Prelude.{◌≡◌, List, ℕ, ◌<◌, Result, Ok, Err}
use Rattle.std.proofs.Common.{ap}
use Rattle.accounts.specs.Persons.{persons}
use Rattle.accounts.specs.declared.Accounts.{Accounts}
use Rattle.book.specs.Reading.{read_of}
use Rattle.book.specs.Parts.{accounts_in}
use Rattle.book.specs.declared.Starts.{Starts}
use Rattle.book.specs.declared.FaultAt.{FaultAt}
use Rattle.live.specs.Changes.{empty}
use Rattle.live.specs.declared.Roster.{Roster}
use Rattle.desk.specs.Filled.{roster_from}
use Rattle.desk.specs.Laws.Taken.{filled_refused, filled_shared}
use Rattle.desk.specs.declared.NotTaken.{NotTaken}
use Rattle.std.specs.Result.{result_unwrap_or}

pub roster_refused : (book : List ℕ) (fault : FaultAt) → read_of book ≡ Err fault → roster_from book ≡ empty
roster_refused book fault e = ap (λ (r : Result Roster NotTaken). result_unwrap_or r empty) (filled_refused book fault e)

pub roster_shared : (book : List ℕ) (s : Starts) → read_of book ≡ Ok s → persons (accounts_in book) < (accounts_in book).rows
    → roster_from book ≡ empty
roster_shared book s e h = ap (λ (r : Result Roster NotTaken). result_unwrap_or r empty) (filled_shared book s e h)
