-- The dash stands only where no cell does. Assumes nothing.
use Rattle.text.specs.Laws.Appends.{read_as}
use Rattle.table.proofs.Lines.{end_begun, end_none}
use Rattle.table.proofs.fit.put_end.Goals as goal

pub returns-then-begun : goal.returns-then-begun
returns-then-begun c = read_as (end_begun _ c.if-begun.true) c.put.ensures

pub returns : goal.returns
returns c = read_as (end_none _ c.if-begun.false) c.word.ensures.appended
