-- The word after its comma, or nothing. Assumes nothing.
use Rattle.text.specs.Laws.Appends.{◌then◌, none, read_as}
use Rattle.table.proofs.Puts.{present, absent}
use Rattle.table.proofs.put.put_word.Goals as goal

pub returns-then-not-there : goal.returns-then-not-there
returns-then-not-there c = let a = c.args in
    read_as (absent a.word.now c.if-not-there.true) (none _ _)

pub returns : goal.returns
returns c = read_as (present c.if-not-there.false) (c.put-next.ensures then c.word.ensures.appended)
