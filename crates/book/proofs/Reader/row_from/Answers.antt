-- The numbers that stand there are the row's fields, in every form. Assumes nothing.
use mathlib.Core.Path.{◌≡◌, sym, ap, ◌∙◌}
use mathlib.Core.List.{List}
use mathlib.Core.Logic.{inl, inr}
use Prim.Native.Nat.{ℕ, ◌+◌}
use native.Mathlib.Nat.{add_assoc}
use Rattle.book.specs.Reading.{number, fields_at, rows_of, entry_at}
use Rattle.book.specs.declared.Form.{Form}
use Rattle.book.specs.declared.Form.TheVariants.{Old, Persons}
use Rattle.book.specs.declared.Row.{Row}
use Rattle.book.proofs.Reader.row_from.Goals as goal

-- a row of the numbers that stand here is the row that stands here
module _ (book : List ℕ) (at : ℕ) {s h : ℕ} (staff : s ≡ number 4 book at) where
  old_row : h ≡ number 4 book (at + 4) → ◌≡◌ {A = Row} (record { staff = s; person = s; holdings = h }) (entry_at (rows_of Old) book at)
  unfolding fields_at
  old_row e = rw (staff, e)

  new_row : {p : ℕ} → p ≡ number 4 book (at + 4) → h ≡ number 4 book (at + 8)
      → ◌≡◌ {A = Row} (record { staff = s; person = p; holdings = h }) (entry_at (rows_of Persons) book at)
  unfolding fields_at
  new_row f e = rw (staff, f, e) (simp add_assoc)

pub returns-in-Old : goal.returns-in-Old
returns-in-Old c = let a = c.args in
    old_row a.self.bytes.now a.at c.four-staff.ensures c.four-second.ensures
    ∙ ap (λ (form : Form). entry_at (rows_of form) a.self.bytes.now a.at) (sym c.in-Old.is)

pub returns-in-Persons : goal.returns-in-Persons
returns-in-Persons c = let a = c.args in
    let here = new_row a.self.bytes.now a.at c.four-staff.ensures c.four-second.ensures c.four.ensures in
    elim c.in-Persons.is [
      | inl e ↦ here ∙ ap (λ (form : Form). entry_at (rows_of form) a.self.bytes.now a.at) (sym e)
      | inr e ↦ here ∙ ap (λ (form : Form). entry_at (rows_of form) a.self.bytes.now a.at) (sym e)
    ]
