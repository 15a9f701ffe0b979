-- Request 01: what is looked at in values, in reading order, and what writing them comes to. Nothing here is proved: these are definitions, and
-- they run.
use Rattle.std.specs.Prelude.{◌≡◌, List, [], ◌∷◌, ◌++◌, ℕ, ◌≤◌, ◌<◌, length, drop, Option, Some, None, Result, Ok, Err}
use Rattle.book.specs.Faults.{fault_number}
use Rattle.book.specs.Layout.{Contents, bytes_of}
use Rattle.book.specs.Reading.{Kind, amiss_if, codes, rows_of, policies_of}
use Rattle.book.specs.declared.Fault.{Fault}
use Rattle.values.specs.declared.Unwritten.{Unwritten}
use Rattle.values.specs.declared.Unwritten.TheVariants as unwritten
use Rattle.values.specs.declared.NotWritten.{NotWritten}
use Rattle.book.specs.declared.Amiss.{Amiss}

-- "Refusals: 12 to 18 and 2 to 5 as in the reader ..; then 20, the buffer is too short"; 25 as in the reader, too
abbrev pub unwritten_number : Unwritten → ℕ
unwritten_number (unwritten.Fault f) = fault_number f
unwritten_number unwritten.Room = 20

-- not written for this reason, with this place
abbrev pub not_written : {A : Type 0} → Unwritten → ℕ → Result A NotWritten
not_written why at = Err (record { why = why; place = at })

-- ---- what is looked at, in reading order

-- values one after the other, each beside the one before
unfoldable pub value_looks : {A : Type 0} → Kind A → ℕ → Option A → List A → List (Result Unit Amiss)
value_looks kind listed before [] = []
value_looks kind listed before (x ∷ l) = kind.faults listed before x ∷ value_looks kind listed (Some x) l

-- a section: its count, then its values
abbrev pub section_in : {A : Type 0} → Kind A → ℕ → List A → List (Result Unit Amiss)
section_in kind listed l = amiss_if (kind.out_of_range (length l)) kind.count_fault 0 (Ok tt) ∷ value_looks kind listed None l

abbrev pub looks_in : Contents → List (Result Unit Amiss)
looks_in v =
    section_in codes 0 v.codes
    ++ (section_in (rows_of v.form) (length v.codes) v.rows
    ++ section_in (policies_of v.form) (length v.codes) v.policies)

-- the first fault, if there is one; of which field it is plays no part, "with place 0"
unfoldable pub first_of : List (Result Unit Amiss) → Option Fault
first_of [] = None
first_of (x ∷ l) = elim x [ Ok t ↦ first_of l | Err e ↦ Some e.fault ]

abbrev pub fault_in : Contents → Option Fault
fault_in v = first_of (looks_in v)

-- The longest book of any form: the constant `LONGEST`. A buffer that is as long is never too short (`longest-enough`).
abbrev pub longest : ℕ
longest = 1092

-- ---- what may be replied, and what the buffer then holds

-- "It writes exactly the one book ..., answers its length"; "Bytes past the book stay as they were, and a refusal writes nothing"; "with place 0"
pub record Writes (v : Contents) (old new : List ℕ) (r : Result ℕ NotWritten) : Type 0 where
  pub faulty : (f : Fault) → fault_in v ≡ Some f → (r ≡ not_written (unwritten.Fault f) 0) × (new ≡ old)
  pub short : fault_in v ≡ None → length old < length (bytes_of v) → (r ≡ not_written unwritten.Room 0) × (new ≡ old)
  pub written : fault_in v ≡ None → length (bytes_of v) ≤ length old
      → (r ≡ Ok (length (bytes_of v))) × (new ≡ bytes_of v ++ drop (length (bytes_of v)) old)
