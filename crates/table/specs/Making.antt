-- What is promised of making a book of a table. Nothing here is proved: these are definitions.
use Rattle.std.specs.Prelude.{◌≡◌, ℕ, ◌<◌, ◌≤◌, ◌≢◌, List, Result, Ok, Err, length, take, drop}
use Rattle.book.specs.Reading.{read_of}
use Rattle.book.specs.Parts.{contents_of}
use Rattle.book.specs.declared.Starts.{Starts}
use Rattle.values.specs.Writing.{longest}
use Rattle.table.specs.Table.{table_text_of}
use Rattle.table.specs.Understood.{understood}
use Rattle.table.specs.declared.What.{What}
use Rattle.table.specs.declared.What.TheVariants.{TooLong}
use Rattle.table.specs.declared.Trouble.{Trouble}
use Rattle.table.specs.declared.NotMade.{NotMade}
use Rattle.table.specs.declared.NotMade.TheVariants.{Wrong, TooShort}

-- the book is a good one, and the text of its values is this one
pub record BookOf (text book : List ℕ) : Type 0 where
  pub starts : Starts
  pub good : read_of book ≡ Ok starts
  pub says : table_text_of (contents_of book) ≡ text

-- such a book stands at the front of the buffer, so many bytes long, and the rest of it is as it was
pub record IsMade (text old new : List ℕ) (n : ℕ) : Type 0 where
  pub room : n ≤ length old
  pub book : BookOf text (take n new)
  pub kept : drop n new ≡ drop n old

-- a table of so many bytes is too long
abbrev pub enough : ℕ
enough = 65537

-- this is wrong with the whole table
abbrev pub whole : What → Trouble
whole what = record { line = 0; column = 0; what = what }

abbrev pub wholly : What → Result ℕ NotMade
wholly what = Err (Wrong (whole what))

-- What may be replied where the buffer is long enough for any book, and the table is understood as this text: a book of it, or that something is
-- wrong, and then the buffer is as it was.
pub record MakesOf (text old new : List ℕ) (r : Result ℕ NotMade) : Type 0 where
  pub made : (n : ℕ) → r ≡ Ok n → IsMade text old new n
  pub wrong : (t : Trouble) → r ≡ Err (Wrong t) → new ≡ old
  pub long : r ≢ Err TooShort

-- A shorter buffer is answered as too short, and so is a table of more than 65,536 bytes as too long; nothing is written then.
pub record Makes (text old new : List ℕ) (r : Result ℕ NotMade) : Type 0 where
  pub short : length old < longest → (r ≡ Err TooShort) × (new ≡ old)
  pub too_long : longest ≤ length old → enough ≤ length text → (r ≡ wholly TooLong) × (new ≡ old)
  pub makes : longest ≤ length old → MakesOf (understood text) old new r
