-- One case for each place that `place_of` can give. Assumes nothing.
use mathlib.Core.Path.{sym, ap, ◌∙◌}
use Rattle.live.specs.Changes.{done, standing}
use Rattle.live.specs.Laws.First.{from_below}
use Rattle.live.proofs.Laws.Told.{leave_done, leave_nobody}
use Rattle.live.proofs.Roster.leave.Goals as goal

pub left-requires : goal.left-requires
left-requires c = let a = c.args in
    from_below (standing a.self.occupied a.self.staff a.number) 64 0 _
    (sym c.place_of.ensures ∙ c.in-Some.is)

pub returns-in-Some : goal.returns-in-Some
returns-in-Some c = let a = c.args in
    let k = c.in-Some.place in
    c.done.ensures
    ∙ ap (done k) c.left.ensures
    ∙ sym (leave_done a.self a.number k (sym c.place_of.ensures ∙ c.in-Some.is))

pub returns-in-None : goal.returns-in-None
returns-in-None c = let a = c.args in
    c.refusing.ensures
    ∙ sym (leave_nobody a.self a.number (sym c.place_of.ensures ∙ c.in-None.is))
