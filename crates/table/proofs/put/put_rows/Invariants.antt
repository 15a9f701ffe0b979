-- The loop puts one row after the other. Assumes nothing.
use Rattle.std.proofs.Common.{ℕ, ◌-◌, Bool, List}
use Rattle.table.specs.Table.{row_cells}
use Rattle.table.specs.Inner.Puts.{line}
use Rattle.values.specs.Inner.Looks.{row_in}
use Rattle.text.specs.Laws.Appends.{SoFar}
use Rattle.values.specs.Inner.Puts.{in_order}
use Rattle.values.specs.declared.Values.{Values}
use Rattle.table.proofs.put.put_rows.Given as goal

abbrev pub entry : Bool → Values → ℕ → List ℕ
entry persons values i = line (row_cells persons values.code_count (row_in values i))

abbrev pub invariant-loop-i : goal.invariant-loop-i
invariant-loop-i l = SoFar (in_order (entry l.persons l.contents) 0 l.contents.row_count) (in_order (entry l.persons l.contents) l.i (l.contents.row_count - l.i)) l.initial.out l.at l.out l.next
