-- One case for a number that is there, one for a full roster, and one for the lowest free place. Assumes nothing.
use Rattle.std.specs.Prelude.{◌≡◌, true, false, ℕ, Option, Some, None, is_some}
use Rattle.std.proofs.Common.{refl, sym, ap, ◌∙◌}
use Rattle.live.specs.Changes.{hired_at, done}
use Rattle.live.proofs.Laws.Told.{hire_present, hire_full, hire_done}
use Rattle.live.proofs.Roster.hire.Goals as goal

-- what `is_some` tells of where somebody stands
somewhere : (o : Option ℕ) → is_some o ≡ true → (k : ℕ) × (o ≡ Some k)
somewhere (Some k) e = (k, refl)
somewhere None e = cc

nowhere : (o : Option ℕ) → is_some o ≡ false → o ≡ None
nowhere (Some k) e = cc
nowhere None e = refl

pub returns-then-is_some : goal.returns-then-is_some
returns-then-is_some c =
    let s = somewhere c.place_of.result (sym c.is_some.ensures ∙ c.if-is_some.true) in
    c.refusing.ensures ∙ sym (hire_present c.args.self c.args.number s.0 (sym c.place_of.ensures ∙ s.1))

pub returns-then-self : goal.returns-then-self
returns-then-self c =
    let n = nowhere c.place_of.result (sym c.is_some.ensures ∙ c.if-is_some.false) in
    c.refusing-then-self.ensures ∙ sym (hire_full c.args.self c.args.number (sym c.place_of.ensures ∙ n) c.if-self.true)

pub returns : goal.returns
returns c = let a = c.args in
    let n = nowhere c.place_of.result (sym c.is_some.ensures ∙ c.if-is_some.false) in
    c.done.ensures
    ∙ ap (done c.free_place-place.result) c.hired.ensures
    ∙ ap (λ (k : ℕ). done k (hired_at k a.number a.self)) c.free_place-place.ensures
    ∙ sym (hire_done a.self a.number (sym c.place_of.ensures ∙ n) c.if-self.false)
