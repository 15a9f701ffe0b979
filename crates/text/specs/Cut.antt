-- How a text is taken apart: at its newlines, and at its marks. Nothing here is proved: these are definitions, and they run.
use Rattle.std.specs.Prelude.{true, false, ℕ, eqb}
use mathlib.Core.List.{List, [], ◌∷◌, ◌++◌, Memᴰ}
use Rattle.text.specs.Text.{space, newline}

infixr 5 ◌␣◌
-- a word, one space, and what follows it
abbrev pub ◌␣◌ : List ℕ → List ℕ → List ℕ
word ␣ rest = word ++ (space ∷ rest)

-- this byte is not in the text
abbrev pub Lacks : ℕ → List ℕ → Type 0
Lacks mark text = Memᴰ mark text → ⊥

-- each of the list is so
abbrev pub Every : {A : Type 0} → (A → Type 0) → List A → Type 0
Every {A} P l = (x : A) → Memᴰ x l → P x

-- one byte more at the front of the first line
unfoldable pub longer : ℕ → List (List ℕ) → List (List ℕ)
longer c [] = (c ∷ []) ∷ []
longer c (line ∷ lines) = (c ∷ line) ∷ lines

-- the text cut at its newlines
unfoldable pub lines_of : List ℕ → List (List ℕ)
lines_of [] = []
lines_of (c ∷ text) = elim (eqb c newline) [ true ↦ [] ∷ lines_of text | false ↦ longer c (lines_of text) ]

-- these lines, each ended by a newline
unfoldable pub ended : List (List ℕ) → List ℕ
ended [] = []
ended (line ∷ lines) = line ++ (newline ∷ ended lines)

-- the text has this line
abbrev pub HasLine : List ℕ → List ℕ → Type 0
HasLine text line = Memᴰ line (lines_of text)
