-- The cells one after the other are the line. Assumes nothing.
use Rattle.std.proofs.Common.{◌≡◌, ap, rules}
use Rattle.text.specs.Text.{decimal}
use Rattle.text.specs.Laws.Appends.{◌then◌, read_as}
use Rattle.table.specs.Table.{only_if, marks}
use Rattle.table.proofs.Puts.{row-parts}
use Rattle.table.proofs.put.put_row.Goals as goal

pub returns : goal.returns
returns c = let a = c.args in
    let same : c.from.result ≡ a.row.staff = search rules in
    let staff = read_as (ap decimal same) c.decimal-staffed.ensures in
    read_as (row-parts (decimal a.row.staff) (only_if a.persons (decimal a.row.person)) (marks a.listed a.row.holdings))
    (staff then (c.put_number-named.ensures then (c.put_marks-held.ensures then c.put.ensures)))
