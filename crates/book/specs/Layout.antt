-- 01, "The roster book", and requests 04 and 08: the bytes of a book as a function of its form, permissions, rows and policies, and which values are
-- admitted. A good book is the layout of admitted values. Nothing here is proved: these are definitions.
use Rattle.std.specs.Prelude.{◌≡◌, Bool, true, false, List, [], ◌∷◌, ◌++◌, ℕ, zero, suc, ◌/◌, ◌%◌, ◌^◌, ◌≤◌, ◌<◌, length, Ok}
use Rattle.roster.specs.Limits.{row_limit}
use Rattle.roster.specs.Refusals.{own_ruling}
use Rattle.roster.specs.declared.Policy.{Policy}
use Rattle.book.specs.declared.Form.{Form}
use Rattle.book.specs.declared.Form.TheVariants.{Old, Persons, Editions}
use Rattle.book.specs.declared.Row.{Row}

-- "Permissions, 1 to 32"
abbrev pub permission_limit : ℕ
permission_limit = 32

-- "Policies, 0 to 32"
abbrev pub policy_limit : ℕ
policy_limit = 32

-- The widths of an entry's fields in bytes, in their order. "a 2-byte code each"
abbrev pub code_widths : List ℕ
code_widths = 2 ∷ []

-- "4-byte staff number, 4-byte holdings"; in a new book "a person number of 4 bytes between staff number and holdings"
abbrev pub row_widths : Bool → List ℕ
row_widths false = 4 ∷ 4 ∷ []
row_widths true = 4 ∷ 4 ∷ 4 ∷ []

-- "A policy names its edition, a byte after t in books with a leading 201"
abbrev pub edition_widths : Bool → List ℕ
edition_widths false = []
edition_widths true = 1 ∷ []

-- "4-byte P, then s, d, t in a byte each", and then the edition, where there is one
abbrev pub policy_widths : Bool → List ℕ
policy_widths editions = 4 ∷ 1 ∷ 1 ∷ 1 ∷ edition_widths editions

-- the values of a book: "The form is one of the values"; "The i-th code is bit i."
pub record Contents : Type 0 where
  pub form : Form
  pub codes : List ℕ
  pub rows : List Row
  pub policies : List Policy

-- "Numbers are little endian."
unfoldable pub little_endian : ℕ → ℕ → List ℕ
little_endian zero x = []
little_endian (suc w) x = x % 256 ∷ little_endian w (x / 256)

-- the fields of an entry one after the other, each as wide as its place in the list of widths says
unfoldable pub field_bytes : List ℕ → List ℕ → List ℕ
field_bytes [] xs = []
field_bytes (w ∷ ws) [] = []
field_bytes (w ∷ ws) (x ∷ xs) = little_endian w x ++ field_bytes ws xs

abbrev pub code_fields : ℕ → List ℕ
code_fields code = code ∷ []

abbrev pub row_fields : Bool → Row → List ℕ
row_fields false row = row.staff ∷ row.holdings ∷ []
row_fields true row = row.staff ∷ row.person ∷ row.holdings ∷ []

abbrev pub edition_fields : Bool → Policy → List ℕ
edition_fields false p = []
edition_fields true p = p.edition ∷ []

abbrev pub policy_fields : Bool → Policy → List ℕ
policy_fields editions p = p.task ∷ p.away ∷ p.crews ∷ p.size ∷ edition_fields editions p

-- "the fields it has and no others": an old row has no person number, and "reads as every row its own person", by its staff number
abbrev pub Own : Bool → Row → Type 0
Own false row = row.person ≡ row.staff
Own true row = Unit {0}

-- "older books are edition 1"
abbrev pub OwnEdition : Bool → Policy → Type 0
OwnEdition false p = p.edition ≡ 1
OwnEdition true p = Unit {0}

-- the entries one after the other
unfoldable pub joined : {A : Type 0} → (A → List ℕ) → List A → List ℕ
joined bytes [] = []
joined bytes (x ∷ l) = bytes x ++ joined bytes l

-- "each after its count in one byte"
abbrev pub section : {A : Type 0} → List ℕ → (A → List ℕ) → List A → List ℕ
section widths fields l = length l ∷ joined (λ x. field_bytes widths (fields x)) l

-- whether the rows of a book of this form have person numbers
abbrev pub form_has_persons : Form → Bool
form_has_persons Old = false
form_has_persons Persons = true
form_has_persons Editions = true

-- whether its policies have editions
abbrev pub form_has_editions : Form → Bool
form_has_editions Old = false
form_has_editions Persons = false
form_has_editions Editions = true

-- "A new book has a leading byte 200 before the permission count"; "books with a leading 201, otherwise as 200"
abbrev pub lead : Form → List ℕ
lead Old = []
lead Persons = 200 ∷ []
lead Editions = 201 ∷ []

-- "three sections in a fixed order"
unfoldable pub bytes_of : Contents → List ℕ
bytes_of v =
    let persons = form_has_persons v.form in
    let editions = form_has_editions v.form in
    lead v.form
    ++ (section code_widths code_fields v.codes
    ++ (section (row_widths persons) (row_fields persons) v.rows
    ++ section (policy_widths editions) (policy_fields editions) v.policies))

-- each of the list is so
unfoldable pub Each : {A : Type 0} → (A → Type 0) → List A → Type 0
Each P [] = Unit
Each P (x ∷ l) = P x × Each P l

-- x comes before the first of the list, if it has one
unfoldable pub Below : {A : Type 0} → (A → ℕ) → A → List A → Type 0
Below key x [] = Unit
Below key x (y ∷ l) = key x < key y

-- "strictly ascending", by this number of each
unfoldable pub Ascends : {A : Type 0} → (A → ℕ) → List A → Type 0
Ascends key [] = Unit
Ascends key (x ∷ l) = Below key x l × Ascends key l

-- What a policy of the book may be: P within the listed permissions, and none of the faults 2, 3, 4, 5, 25.
pub record PolicyFits (listed : ℕ) (p : Policy) : Type 0 where
  pub task : p.task < 2 ^ listed
  pub sound : own_ruling p ≡ Ok tt

-- Which values a book may have, a field for each rule.
pub record Admitted (v : Contents) : Type 0 where
  pub some : 1 ≤ length v.codes
  pub permissions : length v.codes ≤ permission_limit
  pub rows : length v.rows ≤ row_limit
  pub policies : length v.policies ≤ policy_limit
  pub codes : Each (λ code. code < 2 ^ 16) v.codes
  pub codes_ascend : Ascends (λ code. code) v.codes
  pub staff : Each (λ row. row.staff < 2 ^ 32) v.rows
  pub staff_ascends : Ascends (λ row. row.staff) v.rows
  pub persons : Each (λ row. row.person < 2 ^ 32) v.rows
  pub own : Each (Own (form_has_persons v.form)) v.rows
  pub holdings : Each (λ row. row.holdings < 2 ^ length v.codes) v.rows
  pub sound : Each (PolicyFits (length v.codes)) v.policies
  pub editions : Each (OwnEdition (form_has_editions v.form)) v.policies

-- the book is the layout of these values, and they are admitted
pub record LayoutOf (v : Contents) (book : List ℕ) : Type 0 where
  pub admitted : Admitted v
  pub bytes : book ≡ bytes_of v
