-- The loop's invariant: the bytes of the word so far are appended. Assumes nothing.
use Rattle.std.proofs.Common.{take}
use Rattle.text.specs.Text.{Appended}
use Rattle.text.proofs.word.Given as goal

abbrev pub invariant-loop-byte : goal.invariant-loop-byte
invariant-loop-byte l = Appended (take l.byte-index l.bytes) l.initial.out l.at l.out l.next
