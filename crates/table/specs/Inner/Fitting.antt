-- What the functions that fit lines to their headings answer. Nothing here is proved: these are definitions.
use Rattle.std.specs.Prelude.{◌≡◌, ℕ, ◌-◌, ◌<◌, ◌≤◌, Bool, true, false, List, [], ◌∷◌, ◌++◌, Option, Some, None, length, take, drop}
use Rattle.text.specs.Text.{comma, joined, marked, Appended}
use Rattle.text.specs.Cut.{ended}
use Rattle.table.specs.Understood.{cut, parts}
use Rattle.table.specs.declared.Piece.{Piece}
use Rattle.table.specs.declared.Span.{Span}
use Rattle.table.specs.declared.Turn.{Turn}

-- from one place up to another
abbrev pub between : ℕ → ℕ → List ℕ → List ℕ
between from to text = take (to - from) (drop from text)

abbrev pub Within : ℕ → ℕ → List ℕ → Type 0
Within from to text = (from ≤ to) × (to ≤ length text)

-- the heading that counts: none is as an empty one
abbrev pub heading_of : List ℕ → Option Span → List ℕ
heading_of text None = []
heading_of text (Some s) = between s.from s.to text

-- a heading is a part of the text, and not empty
abbrev pub HeadingIn : Option Span → List ℕ → Type 0
HeadingIn None text = Unit {0}
HeadingIn (Some s) text = (s.from < s.to) × (s.to ≤ length text)

-- the first piece, nothing where there is none, and the others
unfoldable pub first_of : List (List ℕ) → List ℕ
first_of [] = []
first_of (x ∷ l) = x

unfoldable pub others_of : List (List ℕ) → List (List ℕ)
others_of [] = []
others_of (x ∷ l) = l

-- the piece of a text that begins at a place: where it ends, and where the next one begins
pub record IsPiece (text : List ℕ) (at mark : ℕ) (p : Piece) : Type 0 where
  pub begins : at ≤ p.end
  pub onward : p.end ≤ p.next
  pub within : p.next ≤ length text
  pub moves : at < length text → at < p.next
  pub first : first_of (cut mark (drop at text)) ≡ between at p.end text
  pub others : others_of (cut mark (drop at text)) ≡ cut mark (drop p.next text)

-- both lines are at their ends, or else something is left of one of them
pub record IsOver (over : Bool) (left : ℕ) : Type 0 where
  pub ends : over ≡ true → left ≡ 0
  pub goes : over ≡ false → 0 < left

-- the cell, if it stays
abbrev pub kept_if : Bool → List ℕ → List (List ℕ)
kept_if false cell = []
kept_if true cell = cell ∷ []

-- what is written of it: it stands behind a comma if cells stand before it
abbrev pub mark_if : Bool → List ℕ
mark_if false = []
mark_if true = comma ∷ []

abbrev pub cell_if : Bool → Bool → List ℕ → List ℕ
cell_if false begun cell = []
cell_if true begun cell = mark_if begun ++ cell

-- cells that are left to be written, if cells stand before them or not
unfoldable pub cells_after : Bool → List (List ℕ) → List ℕ
cells_after false cells = joined comma cells
cells_after true cells = marked comma comma cells

-- one empty line before every heading but the first
abbrev pub gap_if : Bool → List (List ℕ)
gap_if false = []
gap_if true = [] ∷ []

-- what is left to be written at a turn, where these lines are left to be read
abbrev pub rest_at : List ℕ → Turn → List (List ℕ) → List ℕ
rest_at text turn lines = ended (parts (gap_if turn.begun) (heading_of text turn.heading) lines)

-- a line's turn: what it writes, and that the rest is what is left
pub record TakesLine (text line old new : List ℕ) (before after : Turn) : Type 0 where
  pub bytes : List ℕ
  pub put : Appended bytes old before.next new after.next
  pub rest : (lines : List (List ℕ)) → rest_at text before (line ∷ lines) ≡ bytes ++ rest_at text after lines
  pub heading : HeadingIn after.heading text
