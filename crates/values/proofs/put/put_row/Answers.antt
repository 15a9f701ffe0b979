-- The numbers one after the other, the person number where the form has it. Assumes nothing.
use mathlib.Core.Path.{◌≡◌, ap}
use mathlib.Core.Bool.{Bool, true, false}
use mathlib.Core.List.{◌++◌, append-nil}
use Rattle.std.proofs.Common.{rules}
use Rattle.book.specs.Layout.{little_endian, field_bytes, row_widths, row_fields, form_has_persons}
use Rattle.book.specs.declared.Row.{Row}
use Rattle.text.specs.Laws.Appends.{◌then◌, read_as}
use Rattle.values.specs.Inner.Puts.{person_bytes}
use Rattle.values.proofs.put.put_row.Goals as goal

parts : (persons : Bool) (row : Row)
    → little_endian 4 row.staff ++ (person_bytes persons row.person ++ little_endian 4 row.holdings) ≡ field_bytes (row_widths persons) (row_fields persons row)
unfolding field_bytes
parts false row = simp append-nil
parts true row = simp append-nil

pub returns : goal.returns
returns c = let a = c.args in
    let staff : c.from.result ≡ a.row.staff = search rules in
    let held : c.from-2.result ≡ a.row.holdings = search rules in
    read_as (parts (form_has_persons a.form) a.row)
    (read_as (ap (little_endian 4) staff) c.put_four-staffed.ensures
    then (c.put_person-named.ensures
    then read_as (ap (little_endian 4) held) c.put_four.ensures))
