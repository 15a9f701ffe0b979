-- 01, "The sheet": the whole text as a function of the book's bytes, and what the function that writes it promises. It is made of the reader's
-- reply, of the reply to each policy by the search that skips, over the book's accounts, and of how a line is written. Nothing here is proved: these are definitions,
-- and they run.
use Rattle.std.specs.Prelude.{◌≡◌, List, [], ◌++◌, ℕ, zero, suc, ◌≤◌, ◌<◌, length, drop, Option, Some, None, Result, Ok, Err}
use Rattle.roster.specs.declared.Policy.{Policy}
use Rattle.roster.specs.declared.Reply.{Reply}
use Rattle.absences.specs.declared.Way.{Way}
use Rattle.absences.specs.declared.Way.TheVariants.{Skipping}
use Rattle.accounts.specs.declared.Accounts.{Accounts}
use Rattle.accounts.specs.Persons.{people_of}
use Rattle.questions.specs.Replied.{policy_answer_of}
use Rattle.book.specs.Faults.{fault_number}
use Rattle.book.specs.Reading.{read_of}
use Rattle.book.specs.Parts.{accounts_in, policy_count_of, policy_at}
use Rattle.lines.specs.declared.TooShort.{TooShort}
use Rattle.lines.specs.Lines.{line_of, bad_line}
use Rattle.book.specs.declared.Starts.{Starts}
use Rattle.book.specs.declared.FaultAt.{FaultAt}

-- "The allowance is 1,000,000": each policy is asked with the whole of it
abbrev pub allowance : ℕ
allowance = 1000000

-- the numbers that are printed, by person: "The sheet prints person numbers for new books, staff numbers for old". An old row's person number is its
-- staff number, and each is a person of its own, so that one definition says both (`old_numbers` of the crate printed).
unfoldable pub numbers_in : List ℕ → List ℕ
numbers_in book = (people_of (accounts_in book)).numbers

-- "asks by the search that skips"
abbrev pub way : Way
way = Skipping

-- the reply to a policy over these accounts, and over those of a book
abbrev pub answer_to : Accounts → Policy → Reply
answer_to accounts p = policy_answer_of way accounts p.task p.away p.crews p.size p.edition allowance

unfoldable pub reply_to : List ℕ → Policy → Reply
reply_to book p = answer_to (accounts_in book) p

-- the line of the policy with this index
unfoldable pub line_by : List ℕ → ℕ → Option Policy → List ℕ
line_by book index (Some p) = line_of (numbers_in book) index (reply_to book p)
line_by book index None = []

-- "for each policy in book order": the n lines from this index on
unfoldable pub lines_from : List ℕ → ℕ → ℕ → List ℕ
lines_from book index zero = []
lines_from book index (suc n) = line_by book index (policy_at book index) ++ lines_from book (suc index) n

-- "A refused book prints only one such line of `bad`, the number and the place."
unfoldable pub sheet_by : List ℕ → Result Starts FaultAt → List ℕ
sheet_by book (Err e) = bad_line (fault_number e.fault) e.place
sheet_by book (Ok starts) = lines_from book 0 (policy_count_of book)

unfoldable pub sheet_of : List ℕ → List ℕ
sheet_of book = sheet_by book (read_of book)

-- no sheet is longer (`sheet_fits`)
abbrev pub longest : ℕ
longest = 23232

-- so many bytes of a string decide its sheet (`sheet_front`): one more than the longest book has
abbrev pub enough : ℕ
enough = 1093

-- What is promised: where the buffer is long enough for any sheet, this book's sheet stands at its front, and the rest of it is as it was; a
-- shorter buffer is answered as too short and is as it was.
pub record Promised (book old new : List ℕ) (r : Result ℕ TooShort) : Type 0 where
  pub written : longest ≤ length old → (r ≡ Ok (length (sheet_of book))) × (new ≡ sheet_of book ++ drop (length (sheet_of book)) old)
  pub short : length old < longest → (r ≡ Err (record {})) × (new ≡ old)
