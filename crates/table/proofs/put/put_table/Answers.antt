-- The parts of the table one after the other, by what the form has. Assumes nothing.
use Rattle.std.proofs.Common.{Bool, [], ◌∷◌, ◌++◌, ◌∙◌, ap₂}
use Rattle.book.specs.declared.Section.TheVariants.{Permissions, Rows, Policies}
use Rattle.text.specs.Text.{newline}
use Rattle.text.specs.Laws.Appends.{◌then◌, read_as}
use Rattle.values.specs.Values.{contents_for}
use Rattle.table.specs.Table.{row_heading, policy_heading}
use Rattle.table.specs.Inner.Puts.{line, rows_text, policies_text}
use Rattle.table.proofs.Puts.{table_parts}
use Rattle.table.proofs.put.put_table.Goals as goal

pub put_row_heading-headed-requires : goal.put_row_heading-headed-requires
put_row_heading-headed-requires c = c.requires Permissions

pub put_rows-staffed-requires : goal.put_rows-staffed-requires
put_rows-staffed-requires c = c.requires Rows

pub put_policy_heading-asked-requires : goal.put_policy_heading-asked-requires
put_policy_heading-asked-requires c = c.requires Permissions

pub put_policies-requires : goal.put_policies-requires
put_policies-requires c = c.requires Policies

pub returns : goal.returns
returns c = let v = c.args.contents.now in
    let form = ap₂
    (λ (p e : Bool). line (row_heading p (contents_for v).codes) ++ (rows_text p v ++ ((newline ∷ []) ++ (line (policy_heading e (contents_for v).codes) ++ policies_text e v))))
    c.has_persons-persons.ensures
    c.has_editions-editions.ensures in
    read_as (form ∙ table_parts v)
    (c.put_row_heading-headed.ensures
    then (c.put_rows-staffed.ensures
    then (c.put-parted.ensures
    then (c.put_policy_heading-asked.ensures
    then c.put_policies.ensures))))
