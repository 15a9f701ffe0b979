-- How numbers and lists are written, in bytes, and what appending to a buffer leaves. Nothing here is proved: these are definitions, and they run.
use Rattle.std.specs.Prelude.{◌≡◌, true, false, List, [], ◌∷◌, ◌++◌, ℕ, zero, suc, ◌+◌, ◌-◌, ◌/◌, ◌%◌, ◌≤◌, ltb, length, take}
use Prim.Native.Char.{code}
use Prim.Native.String.{String, [] as []ˢ, ◌∷◌ as ◌∷ˢ◌}
use Rattle.std.proofs.lemmas.List.Edits.{sets}

-- the bytes of a quoted text of plain characters
abbrev pub quoted : String → List ℕ
quoted []ˢ = []
quoted (c ∷ˢ s) = code c ∷ quoted s

-- the marks
abbrev pub space : ℕ
space = code " "

abbrev pub newline : ℕ
newline = code "\n"

abbrev pub comma : ℕ
comma = code ","

abbrev pub slash : ℕ
slash = code "/"

abbrev pub dash : ℕ
dash = code "-"

-- the digit d, 0 to 9
abbrev pub digit : ℕ → ℕ
digit d = code "0" + d

-- n in decimal, of at most w digits more than one
unfoldable pub decimal_in : ℕ → ℕ → List ℕ
decimal_in zero n = digit n ∷ []
decimal_in (suc w) n = elim (ltb n 10) [ true ↦ digit n ∷ [] | false ↦ decimal_in w (n / 10) ++ (digit (n % 10) ∷ []) ]

-- "numbers in decimal": no number has more digits than it counts. (`decimal_value` shows that the digits are n's, `decimal-first` that no 0
-- leads them.)
unfoldable pub decimal : ℕ → List ℕ
decimal n = decimal_in n n

-- each item after a mark: the first after `mark`, the others after `between`
unfoldable pub marked : ℕ → ℕ → List (List ℕ) → List ℕ
marked mark between [] = []
marked mark between (x ∷ l) = mark ∷ (x ++ marked between between l)

-- the items joined by a mark; `-` where there is none
unfoldable pub joined : ℕ → List (List ℕ) → List ℕ
joined between [] = dash ∷ []
joined between (x ∷ l) = x ++ marked between between l

-- ---- appending to a buffer

-- there is room for these bytes at this place of the buffer
abbrev pub Room : List ℕ → List ℕ → ℕ → Type 0
Room bytes buffer at = at + length bytes ≤ length buffer

-- as many of these bytes as there is room for (all where there is room for all: `fitting_all`)
abbrev pub fitting : List ℕ → List ℕ → ℕ → List ℕ
fitting bytes buffer at = take (length buffer - at) bytes

-- What appending these bytes at a place leaves: those that fit stand there one after the other, all else is as it was, and the next place is past
-- them.
pub record Appended (bytes old : List ℕ) (at : ℕ) (new : List ℕ) (next : ℕ) : Type 0 where
  pub stand : new ≡ sets old at (fitting bytes old at)
  pub past : next ≡ at + length (fitting bytes old at)
