-- As which text a table is understood, whatever program saved it. First its bytes are made alike (`plain`), then its lines are fitted to their
-- headings (`parts`). Nothing here is proved: these are definitions, and they run (specs/Readings.antt).
use Rattle.std.specs.Prelude.{ℕ, ◌+◌, Bool, true, false, not, ◌&&◌, ◌||◌, List, [], ◌∷◌, ◌++◌, length, drop, ◌==◌, nat_lt, slice_index}
use Rattle.text.specs.Text.{comma, newline, joined}
use Rattle.text.specs.Cut.{longer, ended}

-- ---- bytes made alike

abbrev pub semicolon : ℕ
semicolon = 59

abbrev pub tab : ℕ
tab = 9

abbrev pub return : ℕ
return = 13

abbrev pub quote : ℕ
quote = 34

abbrev pub hash : ℕ
hash = 35

-- "a byte order mark .. does no harm": how many bytes it takes at the front
unfoldable pub mark_length : List ℕ → ℕ
mark_length text = elim (slice_index text 0 == 239 && (slice_index text 1 == 187 && slice_index text 2 == 191)) [ true ↦ 3 | false ↦ 0 ]

-- a quotation mark switches quoting on and off
unfoldable pub turned : Bool → ℕ → Bool
turned quoted c = elim (c == quote) [ true ↦ not quoted | false ↦ quoted ]

-- what may part cells: one of three bytes, outside quotes
unfoldable pub parting : Bool → ℕ → Bool
parting true c = false
parting false c = c == comma || (c == semicolon || c == tab)

-- what parts them: the first such byte, "as the first line has it"; a comma where there is none
unfoldable pub separator_from : Bool → List ℕ → ℕ
separator_from quoted [] = comma
separator_from quoted (c ∷ text) = elim (parting quoted c) [ true ↦ c | false ↦ separator_from (turned quoted c) text ]

-- a small letter for a capital one
unfoldable pub small : ℕ → ℕ
small c = elim (nat_lt c 65) [ true ↦ c | false ↦ elim (nat_lt 90 c) [ true ↦ c | false ↦ c + 32 ] ]

-- a byte of a cell: a comma among them is read as a semicolon, so that from here on commas only part
unfoldable pub content : ℕ → ℕ
content c = elim (c == comma) [ true ↦ semicolon | false ↦ small c ]

-- a byte as it is read, within quotes, where a line break is part of a cell, and outside them
unfoldable pub byte_read_as : ℕ → Bool → ℕ → ℕ
byte_read_as separator true c = elim (c == newline) [ true ↦ semicolon | false ↦ content c ]
byte_read_as separator false c = elim (c == separator) [ true ↦ comma | false ↦ content c ]

-- quotation marks and carriage returns are left out
unfoldable pub plain_byte : ℕ → Bool → ℕ → List ℕ
plain_byte separator quoted c = elim (c == quote || c == return) [ true ↦ [] | false ↦ byte_read_as separator quoted c ∷ [] ]

unfoldable pub plain_from : ℕ → Bool → List ℕ → List ℕ
plain_from separator quoted [] = []
plain_from separator quoted (c ∷ text) = plain_byte separator quoted c ++ plain_from separator (turned quoted c) text

unfoldable pub plain : List ℕ → List ℕ
plain text =
    let bytes = drop (mark_length text) text in
    plain_from (separator_from false bytes) false bytes

-- ---- lines fitted to their headings

-- the text cut at a mark; what is behind the last mark is a piece too, unless it is empty
unfoldable pub cut : ℕ → List ℕ → List (List ℕ)
cut mark [] = []
cut mark (c ∷ text) = elim (c == mark) [ true ↦ [] ∷ cut mark text | false ↦ longer c (cut mark text) ]

-- nothing but empty cells
unfoldable pub blank : List ℕ → Bool
blank [] = true
blank (c ∷ line) = c == comma && blank line

-- A cell under its heading. "A column whose heading begins with `#` is .. passed over". Where there is neither a heading nor a cell there is
-- nothing; a cell without a heading stays, so that its line is none of a book.
unfoldable pub under : List ℕ → List ℕ → List (List ℕ)
under [] [] = []
under [] (c ∷ cell) = (c ∷ cell) ∷ []
under (h ∷ heading) cell = elim (h == hash) [ true ↦ [] | false ↦ cell ∷ [] ]

-- the cells of a line under those of its heading; to whichever is shorter empty cells are added
unfoldable pub fit : List (List ℕ) → List (List ℕ) → List (List ℕ)
fit [] [] = []
fit [] (cell ∷ cells) = under [] cell ++ fit [] cells
fit (heading ∷ headings) [] = under heading [] ++ fit headings []
fit (heading ∷ headings) (cell ∷ cells) = under heading cell ++ fit headings cells

unfoldable pub fitted : List ℕ → List ℕ → List ℕ
fitted heading line = joined comma (fit (cut comma heading) (cut comma line))

-- The lines of the parts. The first line that is not blank is a heading, and so is the first such line after a blank one; `heading` is empty as
-- long as one is waited for. Blank lines are left out, and one empty line stands before every heading but the first (`gap`).
unfoldable pub parts : List (List ℕ) → List ℕ → List (List ℕ) → List (List ℕ)
parts gap heading [] = []
parts gap heading (line ∷ lines) =
    elim (blank line) [
      | true ↦ parts gap [] lines
      | false ↦ elim (length heading == 0) [
        | true ↦ gap ++ (fitted line line ∷ parts ([] ∷ []) line lines)
        | false ↦ fitted heading line ∷ parts gap heading lines
      ]
    ]

-- the plain text, line by line
unfoldable pub tidy : List ℕ → List ℕ
tidy text = ended (parts [] [] (cut newline text))

unfoldable pub understood : List ℕ → List ℕ
understood text = tidy (plain text)
