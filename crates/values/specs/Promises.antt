-- Request 01: what is promised of writing, in the words of the request. What may be replied stands in `Writes`; here are the assumptions of the
-- theorems, and below which theorem is which sentence. Nothing here is proved: these are definitions.
--
-- "writes exactly the one book that reads back to the same values": `reads_back`, `values_back`, `the_one_book`; "answers its length": `length_is`
-- "reading any good book and writing it gives the same bytes": `values_of_good`, `same_bytes`; a refused book has no values: `values_of_refused`
-- "Bytes past the book stay as they were, and a refusal writes nothing": in `Writes` itself
-- "12 to 18 and 2 to 5 as in the reader, in reading order", and 25: `as_in_the_reader`, `wide_refused`, `sound_iff_admitted`
-- "with place 0; then 20, the buffer is too short": in `Writes` itself; `numbers`, `never_short_never_excess`, `longest-enough`
-- every input has one reply, and one buffer after it: `writes_allowed`, `writes_same`
use Rattle.std.specs.Prelude.{◌⊎◌, ◌≢◌, Bool, true, false, ◌≡◌, List, [], ◌∷◌, ◌++◌, ℕ, ◌^◌, ◌≤◌, ◌<◌, eqb, ltb, length, drop, Option, Some, None, Result, Ok}
use Rattle.roster.specs.declared.Policy.{Policy}
use Rattle.roster.specs.declared.Refusal.TheVariants as refusal
use Rattle.book.specs.Layout.{Contents, OwnEdition, form_has_persons, form_has_editions, bytes_of, Each}
use Rattle.book.specs.Laws.Values.{RowFits}
use Rattle.book.specs.Reading.{codes, rows_of, policies_of, amiss_if, past_listed}
use Rattle.book.specs.Faults.{EntryNumber}
use Rattle.book.specs.declared.Form.TheVariants.{Old}
use Rattle.book.specs.declared.Fault.{Fault}
use Rattle.book.specs.declared.Fault.TheVariants as fault
use Rattle.values.specs.Writing.{not_written, value_looks, section_in, fault_in}
use Rattle.values.specs.declared.Unwritten.TheVariants as unwritten
use Rattle.values.specs.declared.NotWritten.{NotWritten}
use Rattle.book.specs.declared.Amiss.{Amiss}

-- ---- values

-- what the types say: a code is a `u16`; staff number, person number, holdings and P are each a `u32`; and a row and a policy have the fields of
-- their form and no others
pub record Typed (v : Contents) : Type 0 where
  pub codes : Each (λ code. code < 2 ^ 16) v.codes
  pub rows : Each (RowFits (form_has_persons v.form) 32) v.rows
  pub tasks : Each (λ p. p.task < 2 ^ 32) v.policies
  pub editions : Each (OwnEdition (form_has_editions v.form)) v.policies

-- s, d, t and the edition each go into their byte
abbrev pub Narrow : Policy → Type 0
Narrow p = (p.away < 256) × (p.crews < 256) × (p.size < 256) × (p.edition < 256)

-- or one of them does not
abbrev pub Wide : Policy → Type 0
Wide p = (256 ≤ p.away) ⊎ ((256 ≤ p.crews) ⊎ ((256 ≤ p.size) ⊎ (256 ≤ p.edition)))

-- the numbers of their faults
abbrev pub ByteNumber : ℕ → Type 0
ByteNumber n = ((3 ≤ n) × (n ≤ 5)) ⊎ (n ≡ 25)

-- values that have a layout: what the types say, and s, d, t and the edition go into their bytes
pub record Laidable (v : Contents) : Type 0 where
  pub typed : Typed v
  pub narrow : Each Narrow v.policies

-- the layout tells its form: it always does but for an old one of exactly 200 or 201 permissions, which no book has; 12 is told of those values all
-- the same (`many-codes`)
abbrev pub TellsForm : Contents → Type 0
TellsForm v = v.form ≡ Old → (length v.codes ≢ 200) × (length v.codes ≢ 201)

-- ---- the outcome of writing, computed; that it is the one that `Writes` allows is `writes_allowed`

-- the reply, and the buffer after it
pub record Outcome : Type 0 where
  pub reply : Result ℕ NotWritten
  pub after : List ℕ

abbrev pub outcome_by : Option Fault → Bool → List ℕ → List ℕ → Outcome
outcome_by (Some f) short book old = record { reply = not_written (unwritten.Fault f) 0; after = old }
outcome_by None true book old = record { reply = not_written unwritten.Room 0; after = old }
outcome_by None false book old = record { reply = Ok (length book); after = book ++ drop (length book) old }

abbrev pub outcome_of : Contents → List ℕ → Outcome
outcome_of v old = outcome_by (fault_in v) (ltb (length old) (length (bytes_of v))) (bytes_of v) old

-- ---- which refusals

-- what is looked at before s, d, t and the edition of a policy that has these before it: codes, rows, the count, those policies, and its own P
abbrev pub looks_to : Contents → List Policy → Policy → List (Result Unit Amiss)
looks_to v before p =
    let listed = length v.codes in
    section_in codes 0 v.codes
    ++ (section_in (rows_of v.form) listed v.rows
    ++ (amiss_if ((policies_of v.form).out_of_range (length v.policies)) (policies_of v.form).count_fault 0 (Ok tt)
    ∷ (value_looks (policies_of v.form) listed None before
    ++ (amiss_if (past_listed listed p.task) fault.Task 0 (amiss_if (eqb p.task 0) (fault.Policy refusal.Task) 0 (Ok tt)) ∷ []))))

-- a number that values are refused with: that of a count or an entry, or 20
abbrev pub WriterNumber : ℕ → Type 0
WriterNumber n = EntryNumber n ⊎ (n ≡ 20)
