-- 01, "The roster book", its last paragraph, and request 05: the book is read from the front, and the first fault is refused with its number and
-- the place of the count or field concerned. Every count and every entry is looked at, in the order of the bytes; what is looked at stands in a
-- list, and the reply is its first fault. Nothing here is proved: these are definitions, and they run.
use Rattle.std.specs.Prelude.{Bool, true, false, List, [], ◌∷◌, ◌++◌, ℕ, zero, suc, ◌+◌, ◌*◌, ◌^◌, eqb, leb, ltb, length, get_or, Option, Some, None, Result, Ok, Err, option_map}
use Rattle.roster.specs.Limits.{row_limit}
use Rattle.roster.specs.Refusals.{outside, made}
use Rattle.roster.specs.declared.Policy.{Policy}
use Rattle.roster.specs.declared.Refusal.{Refusal}
use Rattle.roster.specs.declared.Refusal.TheVariants as refusal
use Rattle.book.specs.Layout.{code_widths, row_widths, policy_widths, form_has_persons, form_has_editions, permission_limit, policy_limit}
use Rattle.book.specs.declared.Form.{Form}
use Rattle.book.specs.declared.Form.TheVariants.{Old, Persons, Editions}
use Rattle.book.specs.declared.Row.{Row}
use Rattle.book.specs.declared.Fault.{Fault}
use Rattle.book.specs.declared.Fault.TheVariants as fault
use Rattle.book.specs.declared.Amiss.{Amiss}
use Rattle.book.specs.declared.FaultAt.{FaultAt}
use Rattle.book.specs.declared.Starts.{Starts}

-- ---- what stands at a place

-- the little endian number that w bytes from this place on are; past the end every byte counts as 0
unfoldable pub number : ℕ → List ℕ → ℕ → ℕ
number zero book at = 0
number (suc w) book at = get_or book at 0 + 256 * number w book (at + 1)

-- the numbers that fields of these widths are, one after the other
unfoldable pub fields_at : List ℕ → List ℕ → ℕ → List ℕ
fields_at [] book at = []
fields_at (w ∷ ws) book at = number w book at ∷ fields_at ws book (at + w)

-- the width of an entry of these fields
abbrev pub total : List ℕ → ℕ
total [] = 0
total (w ∷ ws) = w + total ws

-- where the k-th field of an entry of these fields starts, the entry being at this place
abbrev pub field_place : List ℕ → ℕ → ℕ → ℕ
field_place ws at zero = at
field_place [] at (suc k) = at
field_place (w ∷ ws) at (suc k) = field_place ws (at + w) k

-- where its first field starts that a book of this length does not have whole
unfoldable pub cut_place : List ℕ → ℕ → ℕ → ℕ
cut_place [] len at = at
cut_place (w ∷ ws) len at = elim (ltb len (at + w)) [ true ↦ at | false ↦ cut_place ws len (at + w) ]

-- ---- what is told

-- what looking at one count or one entry comes to: nothing, or its first fault with the place of the field concerned
abbrev pub Look : Type 0
Look = Result Unit FaultAt

-- this fault at this place, and this fault of the field of this number
abbrev pub refused : {A : Type 0} → Fault → ℕ → Result A FaultAt
refused f at = Err (record { fault = f; place = at })

abbrev pub amiss : Fault → ℕ → Result Unit Amiss
amiss f k = Err (record { fault = f; field = k })

-- ---- a kind of entry

-- What is to be known of a kind of entry: its fields, the value that they are, the counts that are out of range and their fault, and what is
-- amiss with an entry, beside the one before it, which the first has not: nothing, or this fault of its field of this number.
pub record Kind (A : Type 0) : Type 0 where
  pub widths : List ℕ
  pub value : List ℕ → A
  pub out_of_range : ℕ → Bool
  pub count_fault : Fault
  pub faults : ℕ → Option A → A → Result Unit Amiss

-- this fault of this field if it is there, and else what comes after it
abbrev pub amiss_if : Bool → Fault → ℕ → Result Unit Amiss → Result Unit Amiss
amiss_if true f k rest = amiss f k
amiss_if false f k rest = rest

-- "not ascending": not above the one before. The first has none before it.
abbrev pub not_above : Option ℕ → ℕ → Bool
not_above None x = false
not_above (Some last) x = leb x last

-- "a holding past the listed permissions": a bit at or past their number
abbrev pub past_listed : ℕ → ℕ → Bool
past_listed listed set = leb (2 ^ listed) set

-- "**12** permissions not 1 to 32"; "for a code **13** not ascending"
abbrev pub codes : Kind ℕ
codes = record {
  widths = code_widths;
  value = λ f. get_or f 0 0;
  out_of_range = outside permission_limit;
  count_fault = fault.Permissions;
  faults = λ listed before code. amiss_if (not_above before code) fault.Code 0 (Ok tt);
}

abbrev pub staff_of : Option Row → Option ℕ
staff_of before = option_map (λ row. row.staff) before

-- a row's holdings are its last field, after its staff number and, where it has one, its person number
abbrev pub holdings_field : Bool → ℕ
holdings_field false = 1
holdings_field true = 2

-- "for a row **15** staff number not ascending, **16** a holding past the listed permissions"
abbrev pub row_amiss : Bool → Bool → Bool → Result Unit Amiss
row_amiss persons low beyond = amiss_if low fault.Staff 0 (amiss_if beyond fault.Holdings (holdings_field persons) (Ok tt))

-- the row that these fields are, with a person number or without
abbrev pub row_with : Bool → List ℕ → Row
row_with false f = record { staff = get_or f 0 0; person = get_or f 0 0; holdings = get_or f 1 0 }
row_with true f = record { staff = get_or f 0 0; person = get_or f 1 0; holdings = get_or f 2 0 }

-- "**14** rows above 64"
abbrev pub rows : Bool → Kind Row
rows persons = record {
  widths = row_widths persons;
  value = row_with persons;
  out_of_range = ltb row_limit;
  count_fault = fault.Rows;
  faults = λ listed before row. row_amiss persons (not_above (staff_of before) row.staff) (past_listed listed row.holdings);
}

-- the field that a policy's own refusal speaks of: P, s, d, t or the edition. (1 and 6 are of questions: no policy by itself is refused so.)
abbrev pub field_of : Refusal → ℕ
field_of refusal.Rows = 0
field_of refusal.Task = 0
field_of refusal.Away = 1
field_of refusal.Crews = 2
field_of refusal.Size = 3
field_of refusal.Absence = 0
field_of refusal.Edition = 4

abbrev pub by_made : Result Policy Refusal → Result Unit Amiss
by_made (Ok p) = Ok tt
by_made (Err r) = amiss (fault.Policy r) (field_of r)

-- "older books are edition 1"
abbrev pub edition_with : Bool → List ℕ → ℕ
edition_with false f = 1
edition_with true f = get_or f 4 0

-- the policy that these fields are
abbrev pub policy_with : Bool → List ℕ → Policy
policy_with editions f = record { task = get_or f 0 0; away = get_or f 1 0; crews = get_or f 2 0; size = get_or f 3 0; edition = edition_with editions f }

-- "**17** policies above 32"; "for a policy **18** P past the listed permissions, then 2, 3, 4, 5 as above"; "25, edition other than 1 or 2,
-- after 5"
abbrev pub policies : Bool → Kind Policy
policies editions = record {
  widths = policy_widths editions;
  value = policy_with editions;
  out_of_range = ltb policy_limit;
  count_fault = fault.Policies;
  faults = λ listed before p.
      amiss_if (past_listed listed p.task) fault.Task 0
      (by_made (made p));
}

-- ---- a section

abbrev pub width : {A : Type 0} → Kind A → ℕ
width kind = total kind.widths

abbrev pub entry_at : {A : Type 0} → Kind A → List ℕ → ℕ → A
entry_at kind book at = kind.value (fields_at kind.widths book at)

-- the entry before, if there is one
abbrev pub prior : {A : Type 0} → (ℕ → A) → Option ℕ → Option A
prior entry before = option_map entry before

-- this fault at this place if it is there, and else what comes after it
abbrev pub fault_if : Bool → Fault → ℕ → Look → Look
fault_if true f at rest = refused f at
fault_if false f at rest = rest

-- "The place should be the first byte of the field at fault"
abbrev pub placed : List ℕ → ℕ → Result Unit Amiss → Look
placed ws at (Ok t) = Ok tt
placed ws at (Err e) = refused e.fault (field_place ws at e.field)

-- "Within one: **11** the book ends before it is whole; then .."; "for 11, the first byte of the field that isn't whole"
abbrev pub whole_then : List ℕ → ℕ → List ℕ → Look → Look
whole_then book at ws rest = fault_if (ltb (length book) (at + total ws)) fault.Short (cut_place ws (length book) at) rest

-- a count is one field of one byte
unfoldable pub count_look : {A : Type 0} → Kind A → List ℕ → ℕ → Look
count_look kind book at =
    fault_if (ltb (length book) (at + 1)) fault.Short at
    (fault_if (kind.out_of_range (get_or book at 0)) kind.count_fault at
    (Ok tt))

-- an entry: whether it is whole is asked before anything else of it
unfoldable pub entry_look : {A : Type 0} → Kind A → List ℕ → ℕ → Option ℕ → ℕ → Look
entry_look kind book listed before at =
    whole_then book at kind.widths (placed kind.widths at (kind.faults listed (prior (entry_at kind book) before) (entry_at kind book at)))

-- n entries of this width from this place on
unfoldable pub in_turn : (Option ℕ → ℕ → Look) → ℕ → Option ℕ → ℕ → ℕ → List Look
in_turn look wide before at zero = []
in_turn look wide before at (suc n) = look before at ∷ in_turn look wide (Some at) (at + wide) n

-- the count that stands at this place
abbrev pub count_at : List ℕ → ℕ → ℕ
count_at book at = get_or book at 0

-- "each after its count in one byte"
unfoldable pub section_looks : {A : Type 0} → Kind A → List ℕ → ℕ → ℕ → List Look
section_looks kind book listed at =
    count_look kind book at ∷ in_turn (entry_look kind book listed) (width kind) None (at + 1) (count_at book at)

-- where the section ends that starts at this place
unfoldable pub past : {A : Type 0} → Kind A → List ℕ → ℕ → ℕ
past kind book at = at + 1 + width kind * count_at book at

-- ---- the book

-- "A new book has a leading byte 200 before the permission count; an old one .. can't start so"; "books with a leading 201"
abbrev pub form_by : Bool → Bool → Form
form_by true editions = Persons
form_by false true = Editions
form_by false false = Old

unfoldable pub form_of : List ℕ → Form
form_of book = form_by (eqb (get_or book 0 0) 200) (eqb (get_or book 0 0) 201)

-- where the permissions start
abbrev pub front : Form → ℕ
front Old = 0
front Persons = 1
front Editions = 1

-- the rows and the policies of a book of this form
abbrev pub rows_of : Form → Kind Row
rows_of form = rows (form_has_persons form)

abbrev pub policies_of : Form → Kind Policy
policies_of form = policies (form_has_editions form)

-- the number of listed permissions
abbrev pub listed_in : Form → List ℕ → ℕ
listed_in form book = count_at book (front form)

-- "Last, **19** bytes follow the policies; the place is the first of them."
abbrev pub end_look : List ℕ → ℕ → Look
end_look book at = fault_if (ltb at (length book)) fault.Excess at (Ok tt)

-- all that is looked at, in the order of the bytes: from the policies on, from the rows on, from the front
abbrev pub looks_from_policies : Form → List ℕ → ℕ → List Look
looks_from_policies form book at =
    section_looks (policies_of form) book (listed_in form book) at ++ (end_look book (past (policies_of form) book at) ∷ [])

abbrev pub looks_from_rows : Form → List ℕ → ℕ → List Look
looks_from_rows form book at =
    section_looks (rows_of form) book (listed_in form book) at ++ looks_from_policies form book (past (rows_of form) book at)

abbrev pub looks_by : Form → List ℕ → List Look
looks_by form book = section_looks codes book 0 (front form) ++ looks_from_rows form book (past codes book (front form))

abbrev pub looks : List ℕ → List Look
looks book = looks_by (form_of book) book

-- "The book is read from the front; the first fault is refused with its number and the place": the first fault of a list, or what there is
-- without one
unfoldable pub first_fault : {R : Type 0} → R → List Look → Result R FaultAt
first_fault good [] = Ok good
first_fault good (x ∷ l) = elim x [ Ok t ↦ first_fault good l | Err e ↦ Err e ]

-- where the sections of a book start, each with its count
abbrev pub starts_of : Form → List ℕ → Starts
starts_of form book =
    let rows_at = past codes book (front form) in
    record { permissions = front form; rows = rows_at; policies = past (rows_of form) book rows_at }

-- the reply to these bytes, by their form
abbrev pub read_by : Form → List ℕ → Result Starts FaultAt
read_by form book = first_fault (starts_of form book) (looks_by form book)

unfoldable pub read_of : List ℕ → Result Starts FaultAt
read_of book = read_by (form_of book) book
