-- The words and the codes one after the other are the heading. Assumes nothing.
use Rattle.text.specs.Laws.Appends.{◌then◌, read_as}
use Rattle.table.proofs.Puts.{row_heading_lem}
use Rattle.table.proofs.put.put_row_heading.Goals as goal

pub returns : goal.returns
returns c = let a = c.args in
    read_as (row_heading_lem a.persons a.contents.now) (c.word-staffed.ensures.appended then (c.put_word-named.ensures then (c.put_codes-coded.ensures then c.put.ensures)))
