-- The empty line stands only where a heading does before it. Assumes nothing.
use Rattle.text.specs.Laws.Appends.{none, read_as}
use Rattle.table.proofs.Lines.{gap_begun, gap_none}
use Rattle.table.proofs.fit.put_gap.Goals as goal

pub returns-then-begun : goal.returns-then-begun
returns-then-begun c = read_as (gap_begun _ c.if-begun.true) c.put.ensures

pub returns : goal.returns
returns c = read_as (gap_none _ c.if-begun.false) (none _ _)
