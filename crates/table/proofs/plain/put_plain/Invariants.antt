-- The loop's invariant: what is left to be written is the reading of the bytes that are left. Assumes nothing.
use Rattle.std.proofs.Common.{false, drop}
use Rattle.text.specs.Laws.Appends.{SoFar}
use Rattle.table.specs.Understood.{plain_from}
use Rattle.table.proofs.plain.put_plain.Given as goal

abbrev pub invariant-loop-i : goal.invariant-loop-i
invariant-loop-i l = SoFar (plain_from l.separator false (drop l.from l.text)) (plain_from l.separator l.quoted (drop l.i l.text)) l.initial.out 0 l.out l.next
