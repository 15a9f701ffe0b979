-- The loop puts one code after the other. Assumes nothing.
use Rattle.std.proofs.Common.{ℕ, ◌-◌, List, ◌∷◌}
use Rattle.text.specs.Text.{comma, decimal}
use Rattle.values.specs.Inner.Looks.{code_in}
use Rattle.text.specs.Laws.Appends.{SoFar}
use Rattle.values.specs.Inner.Puts.{in_order}
use Rattle.values.specs.declared.Values.{Values}
use Rattle.table.proofs.put.put_codes.Given as goal

abbrev pub entry : Values → ℕ → List ℕ
entry values i = comma ∷ decimal (code_in values i)

abbrev pub invariant-loop-i : goal.invariant-loop-i
invariant-loop-i l = SoFar (in_order (entry l.contents) 0 l.contents.code_count) (in_order (entry l.contents) l.i (l.contents.code_count - l.i)) l.initial.out l.at l.out l.next
