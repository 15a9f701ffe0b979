-- The loop puts one policy after the other. Assumes nothing.
use Rattle.std.proofs.Common.{ℕ, ◌-◌, Bool, List}
use Rattle.table.specs.Table.{policy_cells}
use Rattle.table.specs.Inner.Puts.{line}
use Rattle.values.specs.Inner.Looks.{policy_given}
use Rattle.text.specs.Laws.Appends.{SoFar}
use Rattle.values.specs.Inner.Puts.{in_order}
use Rattle.values.specs.declared.Values.{Values}
use Rattle.table.proofs.put.put_policies.Given as goal

abbrev pub entry : Bool → Values → ℕ → List ℕ
entry editions values i = line (policy_cells editions values.code_count (policy_given values i))

abbrev pub invariant-loop-i : goal.invariant-loop-i
invariant-loop-i l = SoFar (in_order (entry l.editions l.contents) 0 l.contents.policy_count) (in_order (entry l.editions l.contents) l.i (l.contents.policy_count - l.i)) l.initial.out l.at l.out l.next
