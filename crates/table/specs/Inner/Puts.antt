-- What the crate's own functions append. Nothing here is proved: these are definitions.
use Rattle.std.specs.Prelude.{ℕ, Bool, List, [], ◌∷◌, ◌++◌}
use Rattle.text.specs.Text.{newline, comma, decimal, marked}
use Rattle.values.specs.Inner.Looks.{code_in, row_in, policy_given}
use Rattle.values.specs.Inner.Puts.{in_order}
use Rattle.values.specs.declared.Values.{Values}
use Rattle.table.specs.Table.{row_cells, policy_cells, line_of}

-- cells that are not a line's first, each after its comma
abbrev pub further : List (List ℕ) → List ℕ
further cells = marked comma comma cells

-- cells as a line that is ended
abbrev pub line : List (List ℕ) → List ℕ
line cells = line_of cells ++ (newline ∷ [])

-- the codes, and the lines of the rows and of the policies, by index
abbrev pub code_cells : Values → List ℕ
code_cells v = in_order (λ i. comma ∷ decimal (code_in v i)) 0 v.code_count

abbrev pub rows_text : Bool → Values → List ℕ
rows_text persons v = in_order (λ i. line (row_cells persons v.code_count (row_in v i))) 0 v.row_count

abbrev pub policies_text : Bool → Values → List ℕ
policies_text editions v = in_order (λ i. line (policy_cells editions v.code_count (policy_given v i))) 0 v.policy_count
