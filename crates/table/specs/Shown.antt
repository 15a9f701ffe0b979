-- What is shown of a book: its table, or the `bad` line of a refused one, and what the function that writes it promises. Nothing here is proved:
-- these are definitions, and they run.
use Rattle.std.specs.Prelude.{◌≡◌, ℕ, ◌<◌, ◌≤◌, List, ◌++◌, length, drop, Result, Ok, Err}
use Rattle.book.specs.Faults.{fault_number}
use Rattle.book.specs.Reading.{read_of}
use Rattle.book.specs.Parts.{contents_of}
use Rattle.lines.specs.Lines.{bad_line}
use Rattle.table.specs.Table.{table_text_of}
use Rattle.table.specs.declared.Shown.{Shown}
use Rattle.table.specs.declared.Shown.TheVariants.{Table, Bad}
use Rattle.lines.specs.declared.TooShort.{TooShort}
use Rattle.book.specs.declared.Starts.{Starts}
use Rattle.book.specs.declared.FaultAt.{FaultAt}

-- the text, by the reader's reply
unfoldable pub shown_by : List ℕ → Result Starts FaultAt → List ℕ
shown_by book (Ok starts) = table_text_of (contents_of book)
shown_by book (Err e) = bad_line (fault_number e.fault) e.place

unfoldable pub shown_of : List ℕ → List ℕ
shown_of book = shown_by book (read_of book)

-- which of the two it is, of so many bytes
abbrev pub shown_as : Result Starts FaultAt → ℕ → Shown
shown_as (Ok starts) n = Table n
shown_as (Err e) n = Bad n

-- no table is longer (`table_fits`)
abbrev pub longest : ℕ
longest = 8284

-- What is promised: where the buffer is long enough for any table, the book's stands at its front, or the `bad` line, and the rest of it is as it
-- was; a shorter buffer is answered as too short and is as it was.
pub record Shows (book old new : List ℕ) (r : Result Shown TooShort) : Type 0 where
  pub written : longest ≤ length old
      → (r ≡ Ok (shown_as (read_of book) (length (shown_of book)))) × (new ≡ shown_of book ++ drop (length (shown_of book)) old)
  pub short : length old < longest → (r ≡ Err (record {})) × (new ≡ old)
