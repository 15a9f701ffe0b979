-- The book as a table: the text of a book's values, one line for each row and each policy, as a spreadsheet saves it. Nothing here is proved: these
-- are definitions, and they run (specs/Examples.antt).
use Rattle.std.specs.Prelude.{ℕ, zero, suc, Bool, true, false, List, [], ◌∷◌, ◌++◌, map, length}
use Rattle.sets.specs.Arrays.{tabulate}
use Rattle.sets.specs.Mask.{bit}
use Rattle.roster.specs.declared.Policy.{Policy}
use Rattle.book.specs.Layout.{Contents, form_has_persons, form_has_editions}
use Rattle.book.specs.declared.Row.{Row}
use Rattle.text.specs.Text.{quoted, comma, decimal, joined}
use Rattle.text.specs.Cut.{ended}

-- a cell that is there only where the form has its column
abbrev pub only_if : Bool → List ℕ → List (List ℕ)
only_if false cell = []
only_if true cell = cell ∷ []

-- a mark is "holds" or "the task asks for"; where there is none the cell is empty
abbrev pub mark : ℕ → List ℕ
mark zero = []
mark (suc n) = quoted "x"

-- a cell for each permission: "The i-th code is bit i."
unfoldable pub marks : ℕ → ℕ → List (List ℕ)
marks listed set = tabulate listed (λ i. mark (bit set i))

-- the cells of the rows' heading, and of a row, where so many permissions are listed
abbrev pub row_heading : Bool → List ℕ → List (List ℕ)
row_heading persons codes = quoted "staff" ∷ only_if persons (quoted "person") ++ map decimal codes

abbrev pub row_cells : Bool → ℕ → Row → List (List ℕ)
row_cells persons listed row = decimal row.staff ∷ only_if persons (decimal row.person) ++ marks listed row.holdings

-- the cells of the policies' heading, and of a policy
abbrev pub policy_heading : Bool → List ℕ → List (List ℕ)
policy_heading editions codes = quoted "s" ∷ quoted "d" ∷ quoted "t" ∷ only_if editions (quoted "edition") ++ map decimal codes

abbrev pub policy_cells : Bool → ℕ → Policy → List (List ℕ)
policy_cells editions listed p =
    decimal p.away ∷ decimal p.crews ∷ decimal p.size ∷ only_if editions (decimal p.edition) ++ marks listed p.task

-- cells as a line
abbrev pub line_of : List (List ℕ) → List ℕ
line_of cells = joined comma cells

-- the lines under a heading, and the heading
unfoldable pub row_lines : Contents → List (List ℕ)
row_lines v =
    let persons = form_has_persons v.form in
    line_of (row_heading persons v.codes) ∷ map (λ row. line_of (row_cells persons (length v.codes) row)) v.rows

unfoldable pub policy_lines : Contents → List (List ℕ)
policy_lines v =
    let editions = form_has_editions v.form in
    line_of (policy_heading editions v.codes) ∷ map (λ p. line_of (policy_cells editions (length v.codes) p)) v.policies

-- the rows, an empty line, the policies; each line ended by a newline
unfoldable pub table_text_of : Contents → List ℕ
table_text_of v = ended (row_lines v ++ ([] ∷ policy_lines v))
