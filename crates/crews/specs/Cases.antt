-- Filling crews, run: one table of tables, tasks and absences with the crews that are filled and the placements that it takes, and one
-- theorem: the definition gives these. Wherever the rules make a choice, some case here moves with another one: which permission, which
-- candidate, which row begins a crew, when a crew is closed, when and how far to go back, and what is counted. Nothing but the definition
-- runs.
use Rattle.std.specs.Prelude.{◌≡◌, refl, true, false, List, [], ◌∷◌, ◌++◌, map, ℕ, ◌-◌, ◌*◌, ◌^◌, length, replicate}
use Rattle.std.specs.Int.Count.{ones, ones_in, count_trailing_zeros}
use Rattle.sets.specs.Sets.{bit}
use Rattle.sets.specs.Sums.{sum_to, to_n}
use Rattle.sets.specs.Members.{cons?, members, filter, hasb, set_of}
use Rattle.roster.specs.declared.Table.{Table}
use Rattle.roster.specs.Examples.{table_with, table_of, set_of_rows, H}
use Rattle.roster.specs.Meaning.{least_members}
use Rattle.crews.specs.Filling.{Outcome, place_of, close_of, closes_of, placed_of, pool_of, candidates, try_each, search, filling}

-- ---- how the table is written

-- "H, absent {0}, d 2, t 2" is `filled H 3 (0 ∷ []) 2 2 1`: the table, P, those absent, d, t and the edition
pub data Question : Type 0 where
  filled : (table : Table) (P : ℕ) (absent : List ℕ) (d t ed : ℕ) → Question

infix 68 ◌gives◌
pub data Case : Type 0 where
  ◌gives◌ : Question → Outcome → Case

-- "Crews are eight sets; those past d are 0."
abbrev pub eight : List (List ℕ) → List ℕ
eight crews = map set_of_rows crews ++ replicate (8 - length crews) 0

-- these crews by so many placements, or none
abbrev pub crews : List (List ℕ) → ℕ → Outcome
crews list need = record { found = true; crews = eight list; need = need }

abbrev pub none : ℕ → Outcome
none need = record { found = false; crews = eight []; need = need }

-- ---- the table

abbrev pub cases : List Case
cases =
    -- 01, row l, row m, and "holdings 1, 3 with P = 3 and d = t = 1 give a crew only by going back"
    filled H 3 (0 ∷ []) 2 2 1 gives crews ((1 ∷ 2 ∷ []) ∷ (3 ∷ []) ∷ []) 3
    ∷ filled H 3 (0 ∷ 3 ∷ []) 2 2 1 gives none 2
    ∷ filled (table_of (1 ∷ 3 ∷ [])) 3 [] 1 1 1 gives crews ((1 ∷ []) ∷ []) 2
    -- nobody there, nobody present, nobody who holds anything of P
    ∷ filled (table_of []) 1 [] 1 1 1 gives none 0
    ∷ filled (table_of (3 ∷ [])) 3 (0 ∷ []) 1 1 1 gives none 0
    ∷ filled (table_of (4 ∷ 8 ∷ 12 ∷ [])) 3 [] 1 64 1 gives none 0
    -- the lowest permission: with the highest, in all crews, in the first, in the last or in all but the first, other crews are filled
    ∷ filled (table_of (1 ∷ 4 ∷ 6 ∷ 5 ∷ 3 ∷ [])) 7 [] 2 3 1 gives crews ((0 ∷ 2 ∷ []) ∷ (3 ∷ 4 ∷ []) ∷ []) 4
    ∷ filled (table_of (8 ∷ 3 ∷ 14 ∷ 3 ∷ 7 ∷ [])) 15 [] 2 3 1 gives crews ((1 ∷ 2 ∷ []) ∷ (0 ∷ 3 ∷ 4 ∷ []) ∷ []) 5
    -- of P, which does not begin at permission 0; rows 0 and 4 hold more than P asks
    ∷ filled (table_of (75 ∷ 12 ∷ 28 ∷ 4 ∷ 90 ∷ 12 ∷ [])) 28 (5 ∷ []) 2 64 1 gives crews ((1 ∷ 2 ∷ []) ∷ (0 ∷ 3 ∷ 4 ∷ []) ∷ []) 5
    -- candidates in ascending order, each time all of them: not the later or the stronger first, nor only those not tried yet, nor one of
    -- two equal ones; the row past the count would do
    ∷ filled (table_with 7 (16 ∷ 18 ∷ 22 ∷ 6 ∷ 20 ∷ 6 ∷ 6 ∷ 22 ∷ [])) 22 (4 ∷ 5 ∷ []) 3 2 1
    gives crews ((1 ∷ 3 ∷ []) ∷ (2 ∷ []) ∷ (0 ∷ 6 ∷ []) ∷ []) 11
    ∷ filled (table_of (10 ∷ 0 ∷ 9 ∷ 2 ∷ 11 ∷ 3 ∷ 0 ∷ [])) 11 [] 3 2 1 gives crews ((2 ∷ 3 ∷ []) ∷ (4 ∷ []) ∷ (0 ∷ 5 ∷ []) ∷ []) 10
    ∷ filled (table_of (6 ∷ 1 ∷ 6 ∷ 0 ∷ 5 ∷ 14 ∷ 13 ∷ 5 ∷ [])) 15 [] 2 2 1 gives crews ((1 ∷ 5 ∷ []) ∷ (0 ∷ 6 ∷ []) ∷ []) 9
    -- a crew is closed as soon as it covers and no sooner, with at most t rows, and keeps a row that it could do without
    ∷ filled (table_of (14 ∷ 4 ∷ 2 ∷ 0 ∷ 14 ∷ 6 ∷ 12 ∷ [])) 14 [] 2 2 1 gives crews ((0 ∷ []) ∷ (2 ∷ 4 ∷ []) ∷ []) 4
    ∷ filled (table_of (18 ∷ 29 ∷ 22 ∷ 16 ∷ 0 ∷ 2 ∷ 4 ∷ [])) 22 [] 3 2 1 gives crews ((0 ∷ 6 ∷ []) ∷ (2 ∷ []) ∷ (1 ∷ 5 ∷ []) ∷ []) 16
    -- going back, also into earlier crews and past the one before, and with no look ahead
    ∷ filled (table_of (12 ∷ 10 ∷ 4 ∷ 11 ∷ 13 ∷ 9 ∷ 7 ∷ 2 ∷ [])) 15 (0 ∷ 5 ∷ []) 3 3 1
    gives crews ((2 ∷ 3 ∷ []) ∷ (4 ∷ 7 ∷ []) ∷ (1 ∷ 6 ∷ []) ∷ []) 9
    ∷ filled (table_with 5 (5 ∷ 21 ∷ 1 ∷ 21 ∷ 16 ∷ 21 ∷ [])) 21 (2 ∷ []) 3 2 1 gives crews ((0 ∷ 4 ∷ []) ∷ (1 ∷ []) ∷ (3 ∷ []) ∷ []) 8
    ∷ filled (table_of (4 ∷ 36 ∷ 12 ∷ 36 ∷ 56 ∷ 40 ∷ [])) 44 [] 3 64 1 gives crews ((0 ∷ 4 ∷ []) ∷ (1 ∷ 2 ∷ []) ∷ (3 ∷ 5 ∷ []) ∷ []) 27
    -- all exhausted, with fewer rows than crews to fill
    ∷ filled (table_of (26 ∷ 2 ∷ 64 ∷ 88 ∷ [])) 26 [] 4 2 1 gives none 6
    ∷ filled (table_of (5 ∷ 13 ∷ 1 ∷ 127 ∷ [])) 13 (2 ∷ []) 4 1 1 gives none 4
    -- eight crews, with row 0 tried for the first of them only; the last permissions that there are
    ∷ filled (table_of (1 ∷ 3 ∷ 3 ∷ 0 ∷ 3 ∷ 3 ∷ 2 ∷ 3 ∷ 3 ∷ 3 ∷ 3 ∷ [])) 3 [] 8 1 1
    gives crews ((1 ∷ []) ∷ (2 ∷ []) ∷ (4 ∷ []) ∷ (5 ∷ []) ∷ (7 ∷ []) ∷ (8 ∷ []) ∷ (9 ∷ []) ∷ (10 ∷ []) ∷ []) 9
    ∷ filled (table_of (2 ^ 31 ∷ 0 ∷ 2 ^ 30 ∷ [])) (3 * 2 ^ 30) [] 1 64 1 gives crews ((0 ∷ 2 ∷ []) ∷ []) 2
    -- crews begin in ascending order: book B's third policy; none but the first placed is bound, so that row 0 comes second; seven equal rows
    ∷ filled H 3 [] 3 1 1 gives none 5
    ∷ filled (table_of (2 ∷ 3 ∷ 1 ∷ [])) 3 [] 2 2 1 gives crews ((1 ∷ []) ∷ (0 ∷ 2 ∷ []) ∷ []) 3
    ∷ filled (table_of (1 ∷ 3 ∷ [])) 3 [] 2 1 1 gives none 2
    ∷ filled (table_of (1 ∷ 1 ∷ 1 ∷ 1 ∷ 1 ∷ 1 ∷ 1 ∷ [])) 1 [] 8 1 1 gives none 127
    ∷ filled (table_of (1 ∷ 2 ∷ 3 ∷ 1 ∷ 2 ∷ [])) 3 [] 3 2 1 gives crews ((0 ∷ 1 ∷ []) ∷ (2 ∷ []) ∷ (3 ∷ 4 ∷ []) ∷ []) 5
    ∷ filled (table_of (1 ∷ 2 ∷ 3 ∷ 1 ∷ 2 ∷ [])) 3 [] 4 2 1 gives none 27
    ∷ filled (table_of (5 ∷ 3 ∷ 5 ∷ 3 ∷ 6 ∷ [])) 7 [] 3 3 1 gives none 59
    -- edition 2: a companion, the lowest free row, tried while the crew is below t; a crew of two that covers takes none
    ∷ filled H 3 [] 2 2 2 gives crews ((0 ∷ 1 ∷ []) ∷ (2 ∷ 3 ∷ []) ∷ []) 4
    ∷ filled H 3 [] 1 1 2 gives none 3
    ∷ filled H 3 [] 3 2 2 gives none 24
    ∷ filled H 3 (0 ∷ []) 2 2 2 gives none 7
    ∷ filled H 3 (0 ∷ 3 ∷ []) 2 2 2 gives none 2
    ∷ filled H 3 (0 ∷ []) 1 2 2 gives crews ((1 ∷ 2 ∷ []) ∷ []) 2
    -- the companion below the first row, holding nothing; nobody to be had; one who is needed elsewhere; none above the first of the crew before
    ∷ filled (table_of (0 ∷ 1 ∷ [])) 1 [] 1 2 2 gives crews ((0 ∷ 1 ∷ []) ∷ []) 2
    ∷ filled (table_of (1 ∷ [])) 1 [] 1 2 2 gives none 1
    ∷ filled (table_of (1 ∷ [])) 1 [] 1 64 2 gives none 1
    ∷ filled (table_of (1 ∷ 0 ∷ 0 ∷ 1 ∷ [])) 1 [] 2 2 2 gives crews ((0 ∷ 1 ∷ []) ∷ (2 ∷ 3 ∷ []) ∷ []) 4
    ∷ filled (table_of (1 ∷ 1 ∷ 1 ∷ [])) 1 [] 2 2 2 gives none 12
    ∷ filled (table_of (0 ∷ 3 ∷ 3 ∷ 0 ∷ [])) 3 [] 2 2 2 gives crews ((0 ∷ 1 ∷ []) ∷ (2 ∷ 3 ∷ []) ∷ []) 4
    ∷ []

-- ---- the fact

abbrev pub computed : Case → Outcome
computed (filled table P absent d t ed gives outcome) = filling table P d t ed (set_of_rows absent)

abbrev pub stated : Case → Outcome
stated (question gives outcome) = outcome

-- the definition fills each case of the table as it says
pub cases_hold : map computed cases ≡ map stated cases
unfolding bit sum_to to_n cons? members filter hasb set_of ones ones_in count_trailing_zeros least_members place_of close_of closes_of placed_of pool_of candidates try_each search
cases_hold = refl
