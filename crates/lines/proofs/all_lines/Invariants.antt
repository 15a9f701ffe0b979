-- The loop writes one policy's line after the other. Assumes nothing.
use Rattle.std.proofs.Common.{◌-◌}
use Rattle.lines.specs.Sheet.{lines_from}
use Rattle.text.specs.Laws.Appends.{SoFar}
use Rattle.lines.proofs.all_lines.Given as goal

abbrev pub invariant-loop-index : goal.invariant-loop-index
invariant-loop-index l = SoFar (lines_from l.book 0 l.count) (lines_from l.book l.index (l.count - l.index)) l.initial.out 0 l.out l.at
