-- The fact of the second table of computed examples (specs/More). Assumes nothing.
use Rattle.std.specs.Prelude.{refl}
use Rattle.std.specs.Int.Count.{ones, ones_in, count_trailing_zeros}
use Rattle.sets.specs.Sets.{bit}
use Rattle.sets.specs.Sums.{sum_to, to_n}
use Rattle.sets.specs.Members.{cons?, members, filter, hasb, set_of}
use Rattle.roster.specs.Meaning.{least_members, outweighsb, ahead, rank}
use Rattle.roster.specs.Refusals.{policy_ruling, named_ruling}
use Rattle.crews.specs.Filling.{place_of, close_of, closes_of, placed_of, pool_of, candidates, try_each, search}
use Rattle.absences.specs.Tried.{row_from, joins, listed, sizes_from, weighed}
use Rattle.absences.specs.Replied.{policy_reply_of}
use Rattle.absences.specs.Examples.{AllAllowed}
use Rattle.absences.specs.More.{more}
use Rattle.absences.proofs.Examples.{all_allowed}

-- each reply of the table is the one allowed
pub more_hold : AllAllowed more
unfolding bit sum_to to_n cons? members filter hasb set_of ones ones_in count_trailing_zeros ahead rank outweighsb least_members place_of close_of closes_of placed_of pool_of candidates try_each search row_from joins listed sizes_from weighed policy_ruling named_ruling policy_reply_of
more_hold = all_allowed more refl refl
