-- The facts of the table of computed examples (specs/Examples). Assumes nothing.
use Rattle.std.specs.Prelude.{◌≡◌, refl, true, List, [], ◌∷◌, map, ◌^◌}
use Rattle.std.proofs.Common.{subst, ltb-true}
use Rattle.std.specs.Int.Count.{ones, ones_in, count_trailing_zeros}
use Rattle.sets.specs.Sets.{bit}
use Rattle.sets.specs.Sums.{sum_to, to_n}
use Rattle.sets.specs.Members.{cons?, members, filter, hasb, set_of}
use Rattle.sets.specs.Arrays.{tabulate}
use Rattle.roster.specs.Meaning.{least_members}
use Rattle.roster.specs.Refusals.{policy_ruling}
use Rattle.roster.specs.Examples.{set_of_rows}
use Rattle.crews.specs.Filling.{place_of, close_of, closes_of, placed_of, pool_of, candidates, try_each, search}
use Rattle.accounts.specs.Persons.{first, union_to, first_of, leads, count_of, person_of, held_by}
use Rattle.reasons.specs.Reasons.{reason_number}
use Rattle.reasons.specs.Replies.{explained_with}
use Rattle.reasons.specs.Replied.{scarce_in}
use Rattle.reasons.proofs.Laws.Replies.{why_allowed}
use Rattle.reasons.specs.Examples.{narrow, Question, Example, examples, Allowed, AllAllowed, reply_of, why}

allowed : (q : Question) → narrow q ≡ true → Allowed q (reply_of q)
allowed (why a P d t ed absent allowance) wide = why_allowed a P d t ed (set_of_rows absent) allowance (ltb-true P (2 ^ 32) wide)

-- where the definition gives the replies and numbers of a list, they are allowed
all_allowed : (l : List Example) → map (λ (e : Example). reply_of e.question) l ≡ map (λ (e : Example). explained_with e.answer e.units) l
    → map (λ (e : Example). reason_number e.answer) l ≡ map Example.number l
    → map (λ (e : Example). narrow e.question) l ≡ map (λ (e : Example). true) l → AllAllowed l
all_allowed [] r n w = tt
all_allowed (e ∷ rest) r n w =
    let here : reply_of e.question ≡ explained_with e.answer e.units = cc in
    (subst (Allowed e.question) here (allowed e.question (cc)), cc, all_allowed rest (cc) (cc) (cc))

-- each reply of the table is the one allowed, and each number the one published
pub examples_hold : AllAllowed examples
unfolding bit sum_to to_n cons? members filter hasb set_of ones ones_in count_trailing_zeros least_members place_of close_of closes_of placed_of pool_of candidates try_each search policy_ruling first union_to first_of leads count_of person_of held_by tabulate scarce_in
examples_hold = all_allowed examples refl refl refl
