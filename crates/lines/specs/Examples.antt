-- Lines by running the definitions: each verdict, numbers of several digits, the first and the last row, crews of one and of several members, eight
-- crews, everyone, and no set. One fact: a change of a definition that can be seen in a line is seen here. (Whole sheets: proofs/BookB.antt.)
use Rattle.std.specs.Prelude.{◌≡◌, refl, List, [], ◌∷◌, ◌++◌, map, ℕ, ◌+◌, ◌-◌, ◌^◌}
use Rattle.sets.specs.Arrays.{tabulate}
use Rattle.sets.specs.Members.{cons?, members}
use Rattle.roster.specs.Limits.{row_limit}
use Rattle.roster.specs.Replies.{no_crews, reply_with}
use Rattle.roster.specs.declared.Verdict.TheVariants.{Yes, No, Undecided}
use Rattle.text.specs.Text.{quoted, comma, decimal_in, decimal, marked, joined}
use Rattle.lines.specs.Lines.{verdict_word, names, filled, sets_text, line_of, bad_line}
use Rattle.lines.specs.Sheet.{allowance}

-- 64 people: row u has the number 1000 + u
abbrev pub people : List ℕ
people = tabulate row_limit (λ row. 1000 + row)

pub line-examples :
    -- crews of one, two and three; the last row
    (line_of people 9 (reply_with (1 ∷ 6 ∷ (2 ^ 3 + 2 ^ 10 + 2 ^ 63) ∷ 0 ∷ 0 ∷ 0 ∷ 0 ∷ 0 ∷ []) 0 27 allowance Yes)
    ≡ quoted "9 yes 27 1000/1001,1002/1003,1010,1063\n")
    -- eight crews; the last policy of a book; as many units as may be
    × (line_of people 31 (reply_with (1 ∷ 2 ∷ 4 ∷ 8 ∷ 16 ∷ 32 ∷ 64 ∷ 128 ∷ []) 0 1000000 allowance Yes)
    ≡ quoted "31 yes 1000000 1000/1001/1002/1003/1004/1005/1006/1007\n")
    -- a blocker, an empty one, and everyone
    × (line_of people 10 (reply_with no_crews (2 ^ 62 + 2 ^ 63) 101 allowance No) ≡ quoted "10 no 101 1062,1063\n")
    × (line_of people 2 (reply_with no_crews 0 6 allowance No) ≡ quoted "2 no 6 -\n")
    × (line_of people 0 (reply_with no_crews (2 ^ 64 - 1) 5 allowance No) ≡ quoted "0 no 5 " ++ joined comma (map decimal people) ++ quoted "\n")
    -- "undecided" has spent the allowance
    × (line_of people 3 (reply_with no_crews 0 0 allowance Undecided) ≡ quoted "3 undecided 1000000 -\n")
    -- the least and the largest number
    × (line_of (0 ∷ 4294967295 ∷ []) 0 (reply_with no_crews 3 4 allowance No) ≡ quoted "0 no 4 0,4294967295\n")
    -- refused books
    × (bad_line 2 11 ≡ quoted "bad 2 11\n")
    × (bad_line 19 803 ≡ quoted "bad 19 803\n")
unfolding tabulate cons? members decimal_in decimal marked joined verdict_word names filled sets_text line_of bad_line
line-examples = (refl, refl, refl, refl, refl, refl, refl, refl, refl)
