-- A second table beside that of `Examples`: questions that another order of ranks, of sizes or of equal rows, another rule of
-- skipping or of filling, another unit, limit or order of refusals would answer otherwise. The replies were worked out from 01's words, apart from
-- the definitions.
use Rattle.std.specs.Prelude.{◌≡◌, refl, List, [], ◌∷◌, ◌++◌, ℕ, replicate}
use Rattle.std.specs.Int.Count.{ones, ones_in, count_trailing_zeros}
use Rattle.sets.specs.Sets.{bit}
use Rattle.sets.specs.Sums.{sum_to, to_n}
use Rattle.sets.specs.Members.{cons?, members, filter, hasb, set_of}
use Rattle.roster.specs.declared.Table.{Table}
use Rattle.roster.specs.declared.Refusal.{Refusal}
use Rattle.roster.specs.declared.Refusal.TheVariants.{Rows, Task, Away, Crews, Size, Absence, Edition}
use Rattle.roster.specs.Meaning.{least_members, outweighsb, ahead, rank}
use Rattle.crews.specs.Filling.{place_of, close_of, closes_of, placed_of, pool_of, candidates, try_each, search}
use Rattle.absences.specs.declared.Way.{Way}
use Rattle.absences.specs.declared.Way.TheVariants.{Full, Skipping}
use Rattle.absences.specs.Tried.{row_from, joins, listed, sizes_from, weighed}
use Rattle.absences.specs.Asked.{found_before}
use Rattle.absences.specs.Examples.{policy, named, Example, table_of, set_of_rows, yes_with, no_with, crews-with, none-with, undecided_with, refused_with_lem, ample, H}

-- ---- the tables

-- P = 13 is the permissions 0, 2 and 3. Of these row 2 holds all; rows 1, 4 and 5 two each, no two of them the same; row 6 what row 1 does, and more
-- outside P; row 0 none, but one outside; row 3 nothing at all.
abbrev pub W : Table
W = table_of (2 ∷ 5 ∷ 13 ∷ 0 ∷ 12 ∷ 11 ∷ 7 ∷ [])

-- P = 3: two kinds of rows, each several times
abbrev pub E : Table
E = table_of (2 ∷ 2 ∷ 1 ∷ 2 ∷ 1 ∷ [])

-- P = 3: one row, and holdings past it
abbrev pub short : Table
short = record { holdings = 1 ∷ 3 ∷ 3 ∷ replicate 61 0; rows = 1 }

-- P = 3: each kind of row twice
abbrev pub twice : Table
twice = table_of (1 ∷ 2 ∷ 3 ∷ 1 ∷ 2 ∷ 3 ∷ [])

-- n rows that hold P = 1
abbrev pub all_of : ℕ → Table
all_of n = table_of (replicate n 1)

-- eight crews of one
abbrev pub eight : List (List ℕ)
eight = (0 ∷ []) ∷ (1 ∷ []) ∷ (2 ∷ []) ∷ (3 ∷ []) ∷ (4 ∷ []) ∷ (5 ∷ []) ∷ (6 ∷ []) ∷ (7 ∷ []) ∷ []

-- ---- the search

-- what both searches answer alike
abbrev pub by_both : Way → List Example
by_both way =
    -- three crews of one, each set of them tried in one order only: the third policy of book B
    record { question = policy way H 3 0 3 1 1 ample; reply = no_with [] 6 }
    -- one crew, and three
    ∷ record { question = policy way W 13 0 1 1 1 ample; reply = yes_with ((2 ∷ []) ∷ []) 3 }
    ∷ record { question = policy way W 13 0 3 2 1 ample; reply = yes_with ((1 ∷ 4 ∷ []) ∷ (2 ∷ []) ∷ (5 ∷ 6 ∷ []) ∷ []) 14 }
    -- nobody absent blocks; and one person does, the only one who holds all, whatever s is
    ∷ record { question = policy way W 13 0 2 1 1 ample; reply = no_with [] 7 }
    ∷ record { question = policy way W 13 64 1 1 1 ample; reply = no_with (2 ∷ []) 7 }
    ∷ record { question = policy way W 13 1 3 3 1 ample; reply = no_with (2 ∷ []) 34 }
    -- fewer rows than crews, where what can be placed is placed all the same; and nobody who holds anything of P
    ∷ record { question = policy way (table_of (3 ∷ [])) 3 0 2 1 1 ample; reply = no_with [] 2 }
    ∷ record { question = policy way (table_of (1 ∷ 1 ∷ [])) 1 0 8 1 1 ample; reply = no_with [] 4 }
    ∷ record { question = policy way (table_of (2 ∷ 0 ∷ [])) 5 2 1 1 1 ample; reply = no_with [] 1 }
    -- a crew of four, and the same limited to three
    ∷ record { question = policy way (table_of (1 ∷ 2 ∷ 4 ∷ 8 ∷ [])) 15 0 1 64 1 ample; reply = yes_with ((0 ∷ 1 ∷ 2 ∷ 3 ∷ []) ∷ []) 5 }
    ∷ record { question = policy way (table_of (1 ∷ 2 ∷ 4 ∷ 8 ∷ [])) 15 0 1 3 1 ample; reply = no_with [] 4 }
    -- eight crews
    ∷ record { question = policy way (all_of 8) 1 0 8 1 1 ample; reply = yes_with eight 9 }
    -- the last permission of 32; and holdings past the row count, which play no part
    ∷ record { question = policy way (table_of (2147483648 ∷ 1 ∷ [])) 2147483649 0 1 2 1 ample; reply = yes_with ((0 ∷ 1 ∷ []) ∷ []) 3 }
    ∷ record { question = policy way short 3 0 1 2 1 ample; reply = no_with [] 2 }
    -- an allowance of just the need, which is one unit, and none
    ∷ record { question = policy way (table_of []) 1 0 1 1 1 1; reply = no_with [] 1 }
    ∷ record { question = policy way (table_of []) 1 0 1 1 1 0; reply = undecided_with 0 }
    ∷ []

-- the second edition, alike by both: two members in each crew, so crews of one are none, and anyone free is a companion
abbrev pub by_second : Way → List Example
by_second way =
    record { question = policy way H 3 0 1 1 2 ample; reply = no_with [] 4 }
    ∷ record { question = policy way H 3 0 2 2 2 ample; reply = yes_with ((0 ∷ 1 ∷ []) ∷ (2 ∷ 3 ∷ []) ∷ []) 5 }
    ∷ record { question = policy way H 3 1 2 2 2 ample; reply = no_with (0 ∷ []) 13 }
    ∷ record { question = policy way H 3 0 3 2 2 ample; reply = no_with [] 25 }
    ∷ []

-- the search that skips
abbrev pub by_skipping : List Example
by_skipping =
    -- any one or two away, but not the three who hold permission 3
    record { question = policy Skipping W 13 1 1 64 1 ample; reply = yes_with ((1 ∷ 2 ∷ []) ∷ []) 6 }
    ∷ record { question = policy Skipping W 13 2 1 3 1 ample; reply = yes_with ((1 ∷ 2 ∷ []) ∷ []) 15 }
    ∷ record { question = policy Skipping W 13 3 1 2 1 ample; reply = no_with (2 ∷ 4 ∷ 5 ∷ []) 27 }
    -- three crews of two, unless both who hold all are away
    ∷ record { question = policy Skipping twice 3 2 3 2 1 ample; reply = no_with (2 ∷ 5 ∷ []) 23 }
    -- two crews: any one away, but not rows 1 and 2
    ∷ record { question = policy Skipping W 13 1 2 2 1 ample; reply = yes_with ((1 ∷ 2 ∷ []) ∷ (4 ∷ 5 ∷ []) ∷ []) 10 }
    ∷ record { question = policy Skipping W 13 64 2 64 1 ample; reply = no_with (1 ∷ 2 ∷ []) 18 }
    -- equal rows: the first of a kind is absent before the others
    ∷ record { question = policy Skipping E 3 2 1 2 1 ample; reply = no_with (2 ∷ 4 ∷ []) 16 }
    ∷ record { question = policy Skipping E 3 1 2 64 1 ample; reply = no_with (2 ∷ []) 15 }
    ∷ record { question = policy Skipping (table_of (1 ∷ 1 ∷ [])) 1 64 1 1 1 ample; reply = no_with (0 ∷ 1 ∷ []) 5 }
    ∷ record { question = policy Skipping (all_of 9) 1 1 8 1 1 ample; reply = yes_with eight 18 }
    -- a no and a yes, each with just the need and with one unit less; one unit, and none
    ∷ record { question = policy Skipping W 13 3 1 2 1 27; reply = no_with (2 ∷ 4 ∷ 5 ∷ []) 27 }
    ∷ record { question = policy Skipping W 13 3 1 2 1 26; reply = undecided_with 26 }
    ∷ record { question = policy Skipping W 13 1 1 64 1 6; reply = yes_with ((1 ∷ 2 ∷ []) ∷ []) 6 }
    ∷ record { question = policy Skipping W 13 1 1 64 1 5; reply = undecided_with 5 }
    ∷ record { question = policy Skipping W 13 1 1 64 1 1; reply = undecided_with 1 }
    ∷ record { question = policy Skipping W 13 1 1 64 1 0; reply = undecided_with 0 }
    ∷ []

-- the full search: the same, at a higher need
abbrev pub by_full : List Example
by_full =
    record { question = policy Full W 13 1 1 64 1 ample; reply = yes_with ((1 ∷ 2 ∷ []) ∷ []) 23 }
    ∷ record { question = policy Full W 13 3 1 2 1 ample; reply = no_with (2 ∷ 4 ∷ 5 ∷ []) 99 }
    ∷ record { question = policy Full twice 3 2 3 2 1 ample; reply = no_with (2 ∷ 5 ∷ []) 51 }
    ∷ record { question = policy Full W 13 1 2 2 1 ample; reply = yes_with ((1 ∷ 2 ∷ []) ∷ (4 ∷ 5 ∷ []) ∷ []) 39 }
    ∷ record { question = policy Full W 13 64 2 64 1 ample; reply = no_with (1 ∷ 2 ∷ []) 47 }
    ∷ record { question = policy Full E 3 2 1 2 1 ample; reply = no_with (2 ∷ 4 ∷ []) 43 }
    ∷ record { question = policy Full E 3 1 2 64 1 ample; reply = no_with (2 ∷ []) 20 }
    ∷ record { question = policy Full (table_of (1 ∷ 1 ∷ [])) 1 64 1 1 1 ample; reply = no_with (0 ∷ 1 ∷ []) 7 }
    ∷ record { question = policy Full W 13 1 1 64 1 23; reply = yes_with ((1 ∷ 2 ∷ []) ∷ []) 23 }
    ∷ record { question = policy Full W 13 1 1 64 1 22; reply = undecided_with 22 }
    ∷ record { question = policy Full W 13 1 1 64 1 0; reply = undecided_with 0 }
    ∷ []

-- named absences
abbrev pub by_name : List Example
by_name =
    record { question = named W 13 2 2 1 (set_of_rows (1 ∷ 2 ∷ [])) ample; reply = none-with 7 }
    ∷ record { question = named W 13 3 2 1 0 13; reply = crews-with ((1 ∷ 4 ∷ []) ∷ (2 ∷ []) ∷ (5 ∷ 6 ∷ []) ∷ []) 13 }
    ∷ record { question = named W 13 3 2 1 0 12; reply = undecided_with 12 }
    ∷ record { question = named H 3 2 2 1 (set_of_rows (0 ∷ [])) 3; reply = crews-with ((1 ∷ 2 ∷ []) ∷ (3 ∷ []) ∷ []) 3 }
    ∷ record { question = named H 3 2 2 1 (set_of_rows (0 ∷ [])) 2; reply = undecided_with 2 }
    ∷ record { question = named H 3 2 2 1 (set_of_rows (0 ∷ [])) 0; reply = undecided_with 0 }
    -- of no rows there is nothing to place, and nothing to be allowed
    ∷ record { question = named (table_of []) 1 1 1 1 0 0; reply = none-with 0 }
    -- the last row of four
    ∷ record { question = named H 3 1 1 1 (set_of_rows (3 ∷ [])) ample; reply = crews-with ((0 ∷ []) ∷ []) 1 }
    ∷ []

-- ---- refusals

-- asked by either search and by name; by the searches alone; by name alone
abbrev pub each : (table : Table) (P s d t ed : ℕ) → Refusal → List Example
each table P s d t ed refusal =
    record { question = policy Skipping table P s d t ed ample; reply = refused_with_lem refusal }
    ∷ record { question = policy Full table P s d t ed ample; reply = refused_with_lem refusal }
    ∷ record { question = named table P d t ed 0 ample; reply = refused_with_lem refusal }
    ∷ []

abbrev pub searches : (P s d t ed allowance : ℕ) → Refusal → List Example
searches P s d t ed allowance refusal =
    record { question = policy Skipping H P s d t ed allowance; reply = refused_with_lem refusal }
    ∷ record { question = policy Full H P s d t ed allowance; reply = refused_with_lem refusal }
    ∷ []

abbrev pub alone : (P d t ed A allowance : ℕ) → Refusal → List Example
alone P d t ed A allowance refusal = record { question = named H P d t ed A allowance; reply = refused_with_lem refusal } ∷ []

-- each by itself, at both ends of its range
abbrev pub by_one : List Example
by_one =
    each (all_of 65) 1 0 1 1 1 Rows
    ++ each (all_of 64) 0 1 1 1 1 Task
    ++ searches 3 65 1 1 1 ample Away
    ++ each H 3 1 0 1 1 Crews
    ++ each H 3 1 9 1 1 Crews
    ++ each H 3 1 1 0 1 Size
    ++ each H 3 1 1 65 1 Size
    ++ each H 3 1 1 1 0 Edition
    ++ each H 3 1 1 1 3 Edition
    ++ alone 3 1 1 1 (set_of_rows (4 ∷ [])) ample Absence

-- two at once, and all: the first that applies, before the allowance is looked at
abbrev pub by_first : List Example
by_first =
    each (all_of 65) 0 1 1 1 1 Rows
    ++ searches 0 65 1 1 1 ample Task
    ++ alone 0 9 1 1 0 ample Task
    ++ searches 3 65 9 1 1 ample Away
    ++ each H 3 1 9 0 1 Crews
    ++ alone 3 1 65 1 (set_of_rows (4 ∷ [])) ample Size
    ++ each H 3 1 1 0 3 Size
    ++ alone 3 1 1 3 (set_of_rows (4 ∷ [])) ample Edition
    ++ each (all_of 65) 0 65 9 65 3 Rows
    ++ searches 0 1 1 1 1 0 Task
    ++ alone 3 1 1 1 (set_of_rows (4 ∷ [])) 0 Absence

-- ---- the fact

abbrev pub more : List Example
more = by_both Skipping ++ by_both Full ++ by_second Skipping ++ by_second Full ++ by_skipping ++ by_full ++ by_name ++ by_one ++ by_first

-- ---- the rule of filling before

-- what three of these questions needed by it
pub needs_before : (found_before Skipping H 3 0 3 1 1).need ∷ (found_before Skipping twice 3 2 3 2 1).need ∷ (found_before Full twice 3 2 3 2 1).need ∷ []
    ≡ 10 ∷ 27 ∷ 55 ∷ []
unfolding bit sum_to to_n cons? members filter hasb set_of ones ones_in count_trailing_zeros ahead rank outweighsb least_members place_of close_of closes_of placed_of pool_of candidates try_each search row_from joins listed sizes_from weighed
needs_before = refl
