-- A book that is shown as a table is a good one, and the table is its text. Assumes nothing.
use Rattle.std.proofs.Common.{◌≡◌, true, Ok, take, rules}
use Rattle.table.specs.declared.Shown.TheVariants.{Table}
use Rattle.table.proofs.Made.{is_book}
use Rattle.table.proofs.is_shown.Goals as goal

pub returns-then-length-le-LONGEST : goal.returns-then-length-le-LONGEST
returns-then-length-le-LONGEST c =
    let length = c.in-Ok-Table.length in
    let same : c.eq.result ≡ true → take length c.show.new.out ≡ c.args.text.now = search rules in
    let is : c.show.result ≡ Ok (Table length) = cc in
    λ e. is_book _ _ _ _ c.show.result length c.show.ensures.shown is (same e)
