-- Request 05, "Point at the field": the field that each fault speaks of, and where 11 is told. `field_place_lem` of proofs/Laws/Fields says that a refused book's
-- place is so. Nothing here is proved: these are definitions.
use Rattle.std.specs.Prelude.{◌≡◌, ◌⊎◌, List, [], ◌∷◌, ℕ, suc, ◌+◌, ◌*◌, ◌≤◌, ◌<◌, length}
use Rattle.book.specs.Layout.{form_has_persons}
use Rattle.book.specs.Reading.{Kind, field_place, holdings_field, field_of, codes, rows_of, policies_of, width, count_at, past, starts_of}
use Rattle.book.specs.declared.Form.{Form}
use Rattle.book.specs.declared.Fault.{Fault}
use Rattle.book.specs.declared.Fault.TheVariants.{Short, Permissions, Code, Rows, Staff, Holdings, Policies, Task, Policy, Excess}

-- where the entry of this index stands in the section that starts here
abbrev pub entry_place : {A : Type 0} → Kind A → ℕ → ℕ → ℕ
entry_place kind start i = start + 1 + width kind * i

-- the place is the first byte of the k-th field of an entry of this section
pub record FieldIn {A : Type 0} (kind : Kind A) (book : List ℕ) (start k at : ℕ) : Type 0 where
  pub index : ℕ
  pub counted : index < count_at book start
  pub place : at ≡ field_place kind.widths (entry_place kind start index) k

-- Of fields of these widths from here on, the place is the first byte of one that the book does not have whole, and it has every field before it
-- whole. (A field ends where the next one starts.)
pub record CutIn (ws : List ℕ) (book : List ℕ) (from at : ℕ) : Type 0 where
  pub field : ℕ
  pub known : field < length ws
  pub place : at ≡ field_place ws from field
  pub missing : length book < field_place ws from (suc field)
  pub whole : (k : ℕ) → k < field → field_place ws from (suc k) ≤ length book

-- so of the section that starts here: of its count, which is one field of one byte, or of one of its entries
abbrev pub CutSection : {A : Type 0} → Kind A → List ℕ → ℕ → ℕ → Type 0
CutSection kind book start at =
    CutIn (1 ∷ []) book start at ⊎ ((i : ℕ) × (i < count_at book start) × CutIn kind.widths book (entry_place kind start i) at)

-- "The place should be the first byte of the field at fault; for 11, the first byte of the field that isn't whole": what a fault speaks of is here
abbrev pub Points : Form → List ℕ → Fault → ℕ → Type 0
Points form book Short at =
    CutSection codes book (starts_of form book).permissions at
    ⊎ (CutSection (rows_of form) book (starts_of form book).rows at ⊎ CutSection (policies_of form) book (starts_of form book).policies at)
Points form book Permissions at = at ≡ (starts_of form book).permissions
Points form book Code at = FieldIn codes book (starts_of form book).permissions 0 at
Points form book Rows at = at ≡ (starts_of form book).rows
Points form book Staff at = FieldIn (rows_of form) book (starts_of form book).rows 0 at
Points form book Holdings at = FieldIn (rows_of form) book (starts_of form book).rows (holdings_field (form_has_persons form)) at
Points form book Policies at = at ≡ (starts_of form book).policies
Points form book Task at = FieldIn (policies_of form) book (starts_of form book).policies 0 at
Points form book (Policy refusal) at = FieldIn (policies_of form) book (starts_of form book).policies (field_of refusal) at
Points form book Excess at = at ≡ past (policies_of form) book (starts_of form book).policies
