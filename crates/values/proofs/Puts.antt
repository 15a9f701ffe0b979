-- Laws of what is put: the sections of a book by index, and how long they are. Assumes nothing.
use mathlib.Core.Path.{◌≡◌, refl, sym, ap, ap₂, ◌∙◌, fun_ext}
use mathlib.Core.List.{List, [], ◌∷◌, ◌++◌}
use Prim.Native.Nat.{ℕ, zero, suc, ◌+◌, ◌*◌, ◌%◌}
use native.Mathlib.Nat.{mul-suc}
use native.Mathlib.Omega.{arith}
use lib.ListN.{length, length-append}
use Rattle.sets.specs.Arrays.{tabulate}
use Rattle.sets.specs.Laws.Arrays.{length-tabulate}
use Rattle.roster.specs.declared.Policy.{Policy}
use Rattle.book.specs.Layout.{little_endian, field_bytes, section, bytes_of, code_widths, row_widths, policy_widths, code_fields, row_fields, policy_fields, form_has_persons, form_has_editions, lead}
use Rattle.book.specs.Reading.{rows_of, policies_of, width, front}
use Rattle.book.proofs.Laws.Books.{lead-front}
use Rattle.book.specs.declared.Form.{Form}
use Rattle.book.specs.declared.Form.TheVariants.{Old, Persons, Editions}
use Rattle.book.specs.declared.Row.{Row}
use Rattle.book.specs.Inner.Steps.{width_in}
use Rattle.book.specs.declared.Section.{Section}
use Rattle.book.specs.declared.Section.TheVariants.{Permissions, Rows, Policies}
use Rattle.values.specs.Values.{row_for, contents_for}
use Rattle.values.specs.Inner.Looks.{count_of, code_in, row_in, policy_in}
use Rattle.values.specs.Inner.Puts.{entry_bytes, in_order, section_bytes}
use Rattle.values.specs.Laws.Order.{joined_order}
use Rattle.values.specs.declared.Values.{Values}

-- one byte, by what it is
pub byte : {x y : ℕ} → x ≡ y → x ∷ [] ≡ y ∷ []
byte e = ap (λ (b : ℕ). b ∷ []) e

-- the lowest byte of a number, by what it is
pub low_of : {x y : ℕ} → x ≡ y → x % 256 ≡ y % 256
low_of e = ap (λ (n : ℕ). n % 256) e

-- ---- the sections

section_order : {A : Type 0} (widths : List ℕ) (fields : A → List ℕ) (f : ℕ → A) (n : ℕ)
    → section widths fields (tabulate n f) ≡ n ∷ in_order (λ i. field_bytes widths (fields (f i))) 0 n
section_order widths fields f n =
    ap₂ (λ (k : ℕ) (l : List ℕ). k ∷ l) (length-tabulate n f)
    (joined_order (λ x. field_bytes widths (fields x)) f n)

-- the fields that a form has are the row's own
fields_for : (form : Form) (row : Row) → row_fields (form_has_persons form) (row_for form row) ≡ row_fields (form_has_persons form) row
fields_for Old row = refl
fields_for Persons row = refl
fields_for Editions row = refl

-- the book by its sections
pub bytes_by_sections : (v : Values)
    → lead v.form ++ (section_bytes v Permissions ++ (section_bytes v Rows ++ section_bytes v Policies)) ≡ bytes_of (contents_for v)
unfolding bytes_of contents_for
bytes_by_sections v =
    let persons = form_has_persons v.form in
    let editions = form_has_editions v.form in
    let bare = fun_ext (λ i. ap (field_bytes (row_widths persons)) (fields_for v.form (row_in v i))) in
    let rows = section_order (row_widths persons) (row_fields persons) (λ i. row_for v.form (row_in v i)) (count_of v Rows)
    ∙ ap (λ (bytes : ℕ → List ℕ). count_of v Rows ∷ in_order bytes 0 (count_of v Rows)) bare in
    sym (ap (λ (l : List ℕ). lead v.form ++ l)
    (ap₂ (λ (a b : List ℕ). a ++ b) (section_order code_widths code_fields (code_in v) (count_of v Permissions))
    (ap₂ (λ (a b : List ℕ). a ++ b) rows (section_order (policy_widths editions) (policy_fields editions) (policy_in v) (count_of v Policies)))))

-- ---- how long

row-length : (form : Form) (row : Row) → length (field_bytes (row_widths (form_has_persons form)) (row_fields (form_has_persons form) row)) ≡ width (rows_of form)
unfolding field_bytes little_endian
row-length Old row = refl
row-length Persons row = refl
row-length Editions row = refl

policy_length : (form : Form) (p : Policy) → length (field_bytes (policy_widths (form_has_editions form)) (policy_fields (form_has_editions form) p)) ≡ width (policies_of form)
unfolding field_bytes little_endian
policy_length Old p = refl
policy_length Persons p = refl
policy_length Editions p = refl

entry_length : (v : Values) (section : Section) (i : ℕ) → length (entry_bytes v section i) ≡ width_in v.form section
unfolding field_bytes little_endian
entry_length v Permissions i = refl
entry_length v Rows i = row-length v.form (row_in v i)
entry_length v Policies i = policy_length v.form (policy_in v i)

order_length : (bytes : ℕ → List ℕ) (wide i n : ℕ) → ((j : ℕ) → length (bytes j) ≡ wide) → length (in_order bytes i n) ≡ wide * n
unfolding in_order
order_length bytes wide i zero h = omega arith
order_length bytes wide i (suc n) h =
    length-append (bytes i) (in_order bytes (suc i) n)
    ∙ omega (arith, h i, order_length bytes wide (suc i) n h, mul-suc wide n)

section-length : (v : Values) (section : Section) → length (section_bytes v section) ≡ 1 + width_in v.form section * count_of v section
section-length v section = omega (arith, order_length (entry_bytes v section) (width_in v.form section) 0 (count_of v section) (entry_length v section))

pub book_length : (v : Values)
    → front v.form + 3 + 2 * count_of v Permissions + width (rows_of v.form) * count_of v Rows + width (policies_of v.form) * count_of v Policies ≡ length (bytes_of (contents_for v))
book_length v =
    let codes = section_bytes v Permissions in
    let rows = section_bytes v Rows in
    let policies = section_bytes v Policies in
    omega (arith, lead-front v.form, length-append (lead v.form) (codes ++ (rows ++ policies)), section-length v Permissions, section-length v Rows, section-length v Policies, length-append codes (rows ++ policies), length-append rows policies)
    ∙ ap length (bytes_by_sections v)
