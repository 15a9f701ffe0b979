-- What filling answers under an allowance, in the terms of its definition. Nothing here is proved: these are definitions, and they run.
use Rattle.std.specs.Prelude.{Bool, true, false, List, ℕ, ◌+◌, leb}
use Rattle.roster.specs.Limits.{crew_limit}
use Rattle.roster.specs.Replies.{no_crews}
use Rattle.crews.specs.declared.Ending.{Ending}
use Rattle.crews.specs.declared.Ending.TheVariants.{Complete, Exhausted, Undecided}
use Rattle.crews.specs.declared.Filled.{Filled}
use Rattle.crews.specs.declared.Wanted.{Wanted}
use Rattle.crews.specs.Filling.{Work, Outcome, nothing, orderly, search_from}
use Rattle.sets.specs.Arrays.{at}

-- "Filling ends at the first complete crew list, or when all are exhausted."
abbrev pub ending_of : Bool → Ending
ending_of true = Complete
ending_of false = Exhausted

abbrev pub filled_with : Ending → List ℕ → ℕ → Filled
filled_with ending crews units = record { ending = ending; crews = crews; units = units }

-- what is answered of an outcome where `spent` units are spent already: "undecided, exactly if allowance < need", then units are the allowance
unfoldable pub filled_of : ℕ → ℕ → Outcome → Filled
filled_of allowance spent o =
    elim (leb (spent + o.need) allowance) [
      | true ↦ filled_with (ending_of o.found) o.crews (spent + o.need)
      | false ↦ filled_with Undecided no_crews allowance
    ]

-- the search from these free rows; crews for no permission, and more of them than a reply has room for, are not looked for
unfoldable pub found_from : Work → ℕ → Outcome
found_from w free =
    elim (leb 1 w.task) [
      | true ↦ elim (leb w.crews crew_limit) [ true ↦ search_from w free | false ↦ nothing ]
      | false ↦ nothing
    ]

-- the rule by which what is wanted is filled
abbrev pub rule_of : Wanted → Work
rule_of w = orderly (at w.holds) (at w.holders) w.task w.crews w.size w.least
