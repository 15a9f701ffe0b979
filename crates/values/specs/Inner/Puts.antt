-- What the writer's own functions append: the bytes of an entry by its index, and of a section. Nothing here is proved: these are definitions.
use Rattle.std.specs.Prelude.{Bool, true, false, List, [], ◌∷◌, ◌++◌, ℕ, zero, suc, ◌%◌}
use Rattle.book.specs.Layout.{code_widths, row_widths, policy_widths, code_fields, row_fields, policy_fields, form_has_persons, form_has_editions, little_endian, field_bytes}
use Rattle.book.specs.declared.Section.{Section}
use Rattle.book.specs.declared.Section.TheVariants.{Permissions, Rows, Policies}
use Rattle.values.specs.Inner.Looks.{count_of, code_in, row_in, policy_in}
use Rattle.values.specs.declared.Values.{Values}

-- a person number, where there is one
abbrev pub person_bytes : Bool → ℕ → List ℕ
person_bytes false person = []
person_bytes true person = little_endian 4 person

-- an edition, where there is one
abbrev pub edition_bytes : Bool → ℕ → List ℕ
edition_bytes false edition = []
edition_bytes true edition = edition % 256 ∷ []

abbrev pub entry_bytes : Values → Section → ℕ → List ℕ
entry_bytes v Permissions i = field_bytes code_widths (code_fields (code_in v i))
entry_bytes v Rows i = field_bytes (row_widths (form_has_persons v.form)) (row_fields (form_has_persons v.form) (row_in v i))
entry_bytes v Policies i = field_bytes (policy_widths (form_has_editions v.form)) (policy_fields (form_has_editions v.form) (policy_in v i))

-- n entries from this index on
unfoldable pub in_order : (ℕ → List ℕ) → ℕ → ℕ → List ℕ
in_order bytes i zero = []
in_order bytes i (suc n) = bytes i ++ in_order bytes (suc i) n

abbrev pub section_bytes : Values → Section → List ℕ
section_bytes v section = count_of v section ∷ in_order (entry_bytes v section) 0 (count_of v section)
