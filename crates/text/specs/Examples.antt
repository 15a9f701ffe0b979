-- How numbers and lists are written, how a text is cut, and what an append leaves, by running the definitions. One fact: a change of a definition that can be seen in
-- a text is seen here.
use Rattle.std.specs.Prelude.{◌≡◌, refl, [], ◌∷◌}
use Rattle.text.specs.Cut.{◌␣◌, longer, lines_of, ended}
use Rattle.text.specs.Text.{quoted, space, newline, comma, slash, dash, decimal_in, decimal, marked, joined, Appended}

pub text-examples :
    -- quoted text is its ASCII codes, and so are the marks
    (quoted "0 9,A/-z\n" ≡ 48 ∷ 32 ∷ 57 ∷ 44 ∷ 65 ∷ 47 ∷ 45 ∷ 122 ∷ 10 ∷ [])
    × (space ∷ newline ∷ comma ∷ slash ∷ dash ∷ [] ≡ quoted " \n,/-")
    -- one digit and two; every digit; the largest numbers of 32 and of 64 bits
    × (decimal 0 ≡ quoted "0")
    × (decimal 9 ≡ quoted "9")
    × (decimal 10 ≡ quoted "10")
    × (decimal 1234567890 ≡ quoted "1234567890")
    × (decimal 4294967295 ≡ quoted "4294967295")
    × (decimal 18446744073709551615 ≡ quoted "18446744073709551615")
    -- lists of two and more, of one, of none
    × (marked space comma (quoted "a" ∷ quoted "bc" ∷ quoted "d" ∷ []) ≡ quoted " a,bc,d")
    × (marked space comma [] ≡ [])
    × (joined slash (quoted "a" ∷ quoted "bc" ∷ quoted "d" ∷ []) ≡ quoted "a/bc/d")
    × (joined slash (quoted "a" ∷ []) ≡ quoted "a")
    × (joined slash [] ≡ quoted "-")
    -- lines: none, one, an empty one between, the last without its newline
    × (lines_of [] ≡ [])
    × (lines_of (quoted "a b\n") ≡ quoted "a b" ∷ [])
    × (lines_of (quoted "a\n\nbc") ≡ quoted "a" ∷ [] ∷ quoted "bc" ∷ [])
    × (ended (quoted "a" ∷ [] ∷ []) ≡ quoted "a\n\n")
    × (quoted "a" ␣ quoted "bc" ␣ quoted "d" ≡ quoted "a bc d")
    -- where all fits, up to the last byte; where a part of it fits; at the end and past it
    × Appended (quoted "ab") (quoted ".....") 3 (quoted "...ab") 5
    × Appended (quoted "abc") (quoted ".....") 3 (quoted "...ab") 5
    × Appended (quoted "abc") (quoted ".....") 5 (quoted ".....") 5
    × Appended (quoted "abc") (quoted ".....") 7 (quoted ".....") 7
unfolding decimal_in decimal marked joined longer lines_of ended
text-examples = (
  refl,
  refl,
  refl,
  refl,
  refl,
  refl,
  refl,
  refl,
  refl,
  refl,
  refl,
  refl,
  refl,
  refl,
  refl,
  refl,
  refl,
  refl,
  record { stand = refl; past = refl },
  record { stand = refl; past = refl },
  record { stand = refl; past = refl },
  record { stand = refl; past = refl },
)
