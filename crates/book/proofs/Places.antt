-- How wide a row and a policy are, and that a section's entries are not far from its start. Assumes nothing.
use Prim.Native.Nat.{ℕ, ◌*◌, ◌≤◌, ◌<◌}
use native.Mathlib.Omega.{arith}
use Rattle.book.specs.Reading.{rows_of, policies_of, width}
use Rattle.book.specs.Inner.Steps.{width_in}
use Rattle.book.specs.declared.Form.{Form}
use Rattle.book.specs.declared.Form.TheVariants.{Old, Persons, Editions}
use Rattle.book.specs.declared.Section.{Section}
use Rattle.book.specs.declared.Section.TheVariants.{Permissions, Rows, Policies}

pub near : (form : Form) (section : Section) (i : ℕ) → i < 256 → width_in form section * i ≤ 3060
near form Permissions i h = omega arith
near Old Rows i h = omega arith
near Persons Rows i h = omega arith
near Editions Rows i h = omega arith
near Old Policies i h = omega arith
near Persons Policies i h = omega arith
near Editions Policies i h = omega arith

-- a row has a staff number and holdings in every form
pub row_wide : (form : Form) → 8 ≤ width (rows_of form)
row_wide Old = omega arith
row_wide Persons = omega arith
row_wide Editions = omega arith

pub row-narrow : (form : Form) → width (rows_of form) ≤ 12
row-narrow Old = omega arith
row-narrow Persons = omega arith
row-narrow Editions = omega arith

-- a policy has P, s, d and t in every form
pub policy_wide : (form : Form) → 7 ≤ width (policies_of form)
policy_wide Old = omega arith
policy_wide Persons = omega arith
policy_wide Editions = omega arith
