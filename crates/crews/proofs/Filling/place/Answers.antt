-- The fields are the definition's, `1 << row` being 2 ^ row; from which row on the next crew may begin, by whether the row is the first.
-- Assumes nothing.
use mathlib.Core.Path.{◌≡◌, refl, sym, ◌∙◌}
use Rattle.sets.specs.Sets.{shl_one}
use Rattle.crews.specs.Filling.{place_of}
use Rattle.crews.proofs.Laws.Search.{from_first, from_next}
use Rattle.crews.proofs.Filling.place.Goals as goal
use Rattle.crews.proofs.Filling.place.Goals.{then-self-eq0, else-self-eq0}

pub returns : goal.returns
unfolding place_of
returns c = let a = c.args in
    let from : c.if-self-eq0.from ≡ (place_of a.self a.row a.holds).from =
    elim c.if-self-eq0.branch [
      | then-self-eq0 w ↦ w.from-is ∙ sym (from_first a.self a.row a.holds w.if-self-eq0.true)
      | else-self-eq0 w ↦ w.from-is ∙ sym (from_next a.self a.row a.holds w.if-self-eq0.false)
    ] in
    rw (shl_one 64 a.row c.requires) (rw from refl)
