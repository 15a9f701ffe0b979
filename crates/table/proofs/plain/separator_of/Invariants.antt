-- The loop's invariant: the separator is that of the bytes that are left. Assumes nothing.
use Rattle.std.proofs.Common.{◌≡◌, false, drop}
use Rattle.table.specs.Understood.{separator_from}
use Rattle.table.proofs.plain.separator_of.Given as goal

abbrev pub invariant-loop-i : goal.invariant-loop-i
invariant-loop-i l = separator_from false (drop l.from l.text) ≡ separator_from l.quoted (drop l.i l.text)
