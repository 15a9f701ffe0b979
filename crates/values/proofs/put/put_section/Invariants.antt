-- The count, which is a byte, then the entries: the loop's invariant says which are left. Assumes nothing.
use Prim.Native.Nat.{◌-◌}
use Rattle.text.specs.Laws.Appends.{SoFar}
use Rattle.values.specs.Inner.Puts.{entry_bytes, in_order}
use Rattle.values.proofs.put.put_section.Given as goal

abbrev pub invariant-loop-i : goal.invariant-loop-i
invariant-loop-i l =
    SoFar (in_order (entry_bytes l.values l.section) 0 l.count) (in_order (entry_bytes l.values l.section) l.i (l.count - l.i)) l.initial.out l.initial.next l.out l.next
