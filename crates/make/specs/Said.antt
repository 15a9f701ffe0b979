-- What the program says of a table, and on which stream. Nothing here is proved: these are definitions.
use Rattle.std.specs.Prelude.{◌≡◌, ◌⊎◌, List, ℕ, Result, Ok, Err, take}
use Rattle.table.specs.Understood.{understood}
use Rattle.table.specs.Making.{BookOf}
use Rattle.output.specs.declared.Said.{Said}
use Rattle.output.specs.Says.{output, errors}

-- a book of the input that was read: a good one, the text of whose values is the input as it is understood; of one that cannot be read there is none
abbrev pub BookOfInput : {E : Type 0} → List ℕ → Result ℕ E → List ℕ → Type 0
BookOfInput buffer (Ok n) book = BookOf (understood (take n buffer)) book
BookOfInput buffer (Err e) book = ⊥

-- Nothing goes to standard output but such a book; everything else is said on standard error. What is said there of a table are words, and nothing is
-- promised of them.
pub record Tells (IsBook : List ℕ → Type 0) (new : List ℕ) (r : Said) : Type 0 where
  pub on : (r.stream ≡ output) ⊎ (r.stream ≡ errors)
  pub book : r.stream ≡ output → IsBook (take r.length new)
