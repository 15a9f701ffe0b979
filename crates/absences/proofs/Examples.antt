-- The facts of the table of computed examples (specs/Examples). Assumes nothing.
use Rattle.std.specs.Prelude.{◌≡◌, refl, true, List, [], ◌∷◌, map, ◌^◌}
use Rattle.std.proofs.Common.{subst, ltb-true}
use Rattle.std.specs.Int.Count.{ones, ones_in, count_trailing_zeros}
use Rattle.sets.specs.Sets.{bit}
use Rattle.sets.specs.Sums.{sum_to, to_n}
use Rattle.sets.specs.Members.{cons?, members, filter, hasb, set_of}
use Rattle.roster.specs.Meaning.{least_members, outweighsb, ahead, rank}
use Rattle.roster.specs.Refusals.{policy_ruling, named_ruling}
use Rattle.crews.specs.Filling.{place_of, close_of, closes_of, placed_of, pool_of, candidates, try_each, search}
use Rattle.crews.proofs.Laws.Allowed.{named_allowed}
use Rattle.absences.specs.Tried.{row_from, joins, listed, sizes_from, weighed}
use Rattle.absences.specs.Replied.{policy_reply_of}
use Rattle.absences.proofs.Laws.Demands.{policy_allowed}
use Rattle.absences.specs.Examples.{policy, named, Question, Example, Allowed, AllAllowed, reply_of, narrow, examples}

allowed : (q : Question) → narrow q ≡ true → Allowed q (reply_of q)
allowed (policy way table P s d t ed allowance) w = policy_allowed way table P s d t ed (ltb-true P (2 ^ 32) w) allowance
allowed (named table P d t ed A allowance) w = named_allowed table P d t ed A allowance (ltb-true P (2 ^ 32) w)

-- where the definition gives the replies of a list, they are allowed
pub all_allowed : (l : List Example)
    → map (λ (e : Example). narrow e.question) l ≡ map (λ (e : Example). true) l
    → map (λ (e : Example). reply_of e.question) l ≡ map Example.reply l
    → AllAllowed l
all_allowed [] w r = tt
all_allowed (e ∷ rest) w r =
    let one : reply_of e.question ≡ e.reply = cc in
    (subst (Allowed e.question) one (allowed e.question (cc)), all_allowed rest (cc) (cc))

-- each reply of the table is the one allowed
pub examples_hold : AllAllowed examples
unfolding bit sum_to to_n cons? members filter hasb set_of ones ones_in count_trailing_zeros ahead rank outweighsb least_members place_of close_of closes_of placed_of pool_of candidates try_each search row_from joins listed sizes_from weighed policy_ruling named_ruling policy_reply_of
examples_hold = all_allowed examples refl refl
