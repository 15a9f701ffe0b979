-- Filling under the rule before, over a table: for every absence it comes to the same list, or to none, with no fewer placements; and where a
-- list exists it finds one. Assumes nothing.
use Rattle.std.specs.Prelude.{◌≡◌, true, List, ℕ, ◌^◌, ◌<◌, get_or}
use Rattle.roster.specs.declared.Table.{Table}
use Rattle.roster.specs.Meaning.{least_members, CrewList}
use Rattle.crews.specs.Filling.{holds_of, holders_of, work_before, present, filling, filling_before}
use Rattle.crews.proofs.Laws.Complete.{complete}
use Rattle.crews.proofs.Laws.Fair.{Fair, work_ready, list_solves}
use Rattle.crews.proofs.Laws.Ordered.{Alike, ordered}

module _ {table : Table} {P d : ℕ} (fair : Fair table P d) (t ed A : ℕ) where
  -- "The first crew list is the same as under the old rule", for every absence, and the need is no more.
  pub same_as_before : Alike (filling table P d t ed A) (filling_before table P d t ed A)
  same_as_before = ordered (holds_of table P) (holders_of (holds_of table P)) P d t (least_members ed) (present table A) (work_ready table P d fair t ed A)

  -- where a set of rows has a list the rule before finds one
  pub found_before_lem : A < 2 ^ table.rows → (cs : List ℕ) → CrewList table P d t ed A cs → (filling_before table P d t ed A).found ≡ true
  found_before_lem rows cs c =
      complete (work_before table P d t ed) (present table A) (λ j. get_or cs j 0) (work_ready table P d fair t ed A) (list_solves table P d fair t ed A rows cs c)
