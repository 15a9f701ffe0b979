-- After each row the arrays are those of the persons of the rows so far (`Merging`). Assumes nothing.
use mathlib.Core.Path.{◌≡◌, ap, ◌∙◌}
use Rattle.std.specs.Prelude.{Option, unwrap_or}
use Prim.Native.Nat.{ℕ, ◌<◌}
use native.Mathlib.Omega.{arith}
use borrow.Author.Rules.{rules}
use Rattle.sets.specs.Arrays.{at}
use Rattle.accounts.specs.declared.Accounts.{Accounts}
use Rattle.accounts.specs.Persons.{person_of}
use Rattle.accounts.proofs.Laws.Merging.{Merging, merging_none, position_place, place_below, merging_new, merging_known, merged_all}
use Rattle.accounts.proofs.merged.Goals as goal
use Rattle.accounts.proofs.merged.Goals.{After-unwrap_or-place, then-place-count, else-place-count}

-- a row's turn: the place that was looked up is the row's person, and within the arrays
module _ (k : After-unwrap_or-place) where
  abbrev asked : Accounts
  asked = k.args.accounts

  abbrev place : ℕ
  place = k.unwrap_or-place.result

  abbrev row : ℕ
  row = k.loop-row.row

  abbrev so_far : Merging (at asked.persons) (at asked.holdings) row k.loop-row.held k.loop-row.numbers k.loop-row.count
  so_far = k.loop-row.invariant

  more : row < 64
  more = omega arith

  his : place ≡ person_of (at asked.persons) row
  his = position_place _ _ row _ _ _ so_far place (k.unwrap_or-place.ensures ∙ ap (λ (o : Option ℕ). unwrap_or o k.loop-row.count) k.place_of.ensures)

  within : place < 64
  within = place_below _ _ row _ _ _ so_far place his more

pub loop-row-init : goal.loop-row-init
loop-row-init c = merging_none _ _

pub offset_bounds-held-place : goal.offset_bounds-held-place
offset_bounds-held-place c = let q = within (goal.at.offset_bounds-held-place c).After-unwrap_or-place in
    search rules

pub bounds-held-place : goal.bounds-held-place
bounds-held-place c = within (goal.at.bounds-held-place c).After-unwrap_or-place

pub bounds-held-place-in-loop-row : goal.bounds-held-place-in-loop-row
bounds-held-place-in-loop-row c = within (goal.at.bounds-held-place-in-loop-row c).After-unwrap_or-place

pub loop-row-preserved : goal.loop-row-preserved
loop-row-preserved c =
    let k = (goal.at.loop-row-preserved c).After-unwrap_or-place in
    elim c.if-place-count.branch [
      | then-place-count w ↦ rw w.numbers-is (rw w.count-is (merging_new _ _ (row k) _ _ _ (so_far k) (place k) (his k) (more k) w.if-place-count.true))
      | else-place-count w ↦ rw w.numbers-is (rw w.count-is (merging_known _ _ (row k) _ _ _ (so_far k) (place k) (his k) (more k) w.if-place-count.false))
    ]

pub returns : goal.returns
returns c = let l = c.loop-row in
    let a = c.args.accounts in
    merged_all a l.held l.numbers l.count l.row (omega (arith, c.min-row-end.ensures)) l.invariant
