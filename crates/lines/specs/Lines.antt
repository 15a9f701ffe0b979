-- 01, "The sheet": how a reply is written as a line, and the line of a refused book. Nothing here is proved: these are definitions, and they run
-- (specs/Examples.antt).
use Rattle.std.specs.Prelude.{List, [], ◌∷◌, ◌++◌, map, ℕ, zero, suc, get_or}
use Rattle.sets.specs.Members.{members}
use Rattle.roster.specs.Limits.{row_limit}
use Rattle.roster.specs.declared.Verdict.{Verdict}
use Rattle.roster.specs.declared.Verdict.TheVariants.{Yes, No, Undecided, Crews, None, Refused}
use Rattle.roster.specs.declared.Reply.{Reply}
use Rattle.text.specs.Text.{quoted, space, newline, comma, slash, dash, decimal, joined}

-- "the verdict": a word each for yes, no and undecided, and none for the others, which no policy of a good book gets (`allowed_shown` of the crate
-- printed)
unfoldable pub verdict_word : Verdict → List ℕ
verdict_word Yes = quoted "yes"
verdict_word No = quoted "no"
verdict_word Undecided = quoted "undecided"
verdict_word Crews = []
verdict_word None = []
verdict_word (Refused refusal) = []

-- "Members are staff numbers in row order": the number of each person, in person order
unfoldable pub names : List ℕ → ℕ → List (List ℕ)
names numbers set = map (λ person. decimal (get_or numbers person 0)) (members 0 row_limit set)

-- "joined by `,`"
abbrev pub between_members : ℕ
between_members = comma

-- "an empty blocker .. print `-`"
abbrev pub set_text : List ℕ → ℕ → List ℕ
set_text numbers set = joined between_members (names numbers set)

-- "Crews are eight sets; those past d are 0": those before the first that is empty
unfoldable pub filled : List ℕ → List ℕ
filled [] = []
filled (zero ∷ l) = []
filled (suc crew ∷ l) = suc crew ∷ filled l

-- "crews are joined by `/`"
abbrev pub between_crews : ℕ
between_crews = slash

-- "in the order filled"
abbrev pub crews_text : List ℕ → List ℕ → List ℕ
crews_text numbers crews = joined between_crews (map (set_text numbers) (filled crews))

-- "the sets"; "undecided, print `-`"
unfoldable pub sets_text : List ℕ → Reply → Verdict → List ℕ
sets_text numbers reply Yes = crews_text numbers reply.crews
sets_text numbers reply No = set_text numbers reply.blocker
sets_text numbers reply Undecided = dash ∷ []
sets_text numbers reply Crews = dash ∷ []
sets_text numbers reply None = dash ∷ []
sets_text numbers reply (Refused refusal) = dash ∷ []

-- "its index from 0, the verdict, the units and the sets, numbers in decimal, one space between, each line ended by a newline"
unfoldable pub line_of : List ℕ → ℕ → Reply → List ℕ
line_of numbers index reply =
    joined space (decimal index ∷ verdict_word reply.verdict ∷ decimal reply.units ∷ sets_text numbers reply reply.verdict ∷ [])
    ++ (newline ∷ [])

-- "A refused book prints only one such line of `bad`, the number and the place."
unfoldable pub bad_line : ℕ → ℕ → List ℕ
bad_line number place = joined space (quoted "bad" ∷ decimal number ∷ decimal place ∷ []) ++ (newline ∷ [])
