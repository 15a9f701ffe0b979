-- Filling under the rule before, run, so that the reference is what it was: one table in the form of Cases, and one theorem. The lists are
-- those that are filled now; book B's third policy, the third case, takes 9 placements here and 5 now.
use Rattle.std.specs.Prelude.{◌≡◌, refl, List, [], ◌∷◌, map}
use Rattle.std.specs.Int.Count.{ones, ones_in, count_trailing_zeros}
use Rattle.sets.specs.Sets.{bit}
use Rattle.sets.specs.Sums.{sum_to, to_n}
use Rattle.sets.specs.Members.{cons?, members, filter, hasb, set_of}
use Rattle.roster.specs.Examples.{table_of, set_of_rows, H}
use Rattle.roster.specs.Meaning.{least_members}
use Rattle.crews.specs.Filling.{Outcome, place_of, close_of, closes_of, placed_of, pool_of, candidates, try_each, search, filling_before}
use Rattle.crews.specs.Cases.{filled, Case, ◌gives◌, crews, none, stated}

abbrev pub before : List Case
before =
    filled H 3 (0 ∷ []) 2 2 1 gives crews ((1 ∷ 2 ∷ []) ∷ (3 ∷ []) ∷ []) 3
    ∷ filled H 3 (0 ∷ 3 ∷ []) 2 2 1 gives none 2
    ∷ filled H 3 [] 3 1 1 gives none 9
    ∷ filled (table_of (2 ∷ 3 ∷ 1 ∷ [])) 3 [] 2 2 1 gives crews ((1 ∷ []) ∷ (0 ∷ 2 ∷ []) ∷ []) 3
    ∷ filled (table_of (1 ∷ 3 ∷ [])) 3 [] 2 1 1 gives none 3
    ∷ filled (table_of (1 ∷ 1 ∷ 1 ∷ 1 ∷ [])) 1 [] 8 1 1 gives none 64
    ∷ filled (table_of (1 ∷ 2 ∷ 3 ∷ 1 ∷ 2 ∷ [])) 3 [] 3 2 1 gives crews ((0 ∷ 1 ∷ []) ∷ (2 ∷ []) ∷ (3 ∷ 4 ∷ []) ∷ []) 5
    ∷ filled (table_of (1 ∷ 2 ∷ 3 ∷ 1 ∷ 2 ∷ [])) 3 [] 4 2 1 gives none 57
    ∷ filled (table_of (5 ∷ 3 ∷ 5 ∷ 3 ∷ 6 ∷ [])) 7 [] 3 3 1 gives none 124
    ∷ []

abbrev pub computed : Case → Outcome
computed (filled table P absent d t ed gives outcome) = filling_before table P d t ed (set_of_rows absent)

-- the reference fills each case of the table as it says
pub before-holds : map computed before ≡ map stated before
unfolding bit sum_to to_n cons? members filter hasb set_of ones ones_in count_trailing_zeros least_members place_of close_of closes_of placed_of pool_of candidates try_each search
before-holds = refl
