-- Each return stands behind the tests that pick its line of the definition. Assumes nothing.
use mathlib.Core.Path.{◌≡◌, refl, sym, ap}
use Prim.Native.Nat.{ℕ, zero, suc, ◌+◌, ◌≤◌, ◌<◌}
use borrow.Author.Tests.{lt-ltb, le-ltb}
use Rattle.input.specs.Input.{grown_by}
use Rattle.input.specs.declared.Progress.TheVariants.{Whole, More}
use Rattle.input.proofs.grown_by.Goals as goal

at_end : (room have more : ℕ) → more ≡ 0 → Whole have ≡ grown_by room have more
unfolding grown_by
at_end room have more e = sym (ap (grown_by room have) e)

to_follow : (room have more : ℕ) → (more ≡ 0 → ⊥) → have + more < room → More (have + more) ≡ grown_by room have more
unfolding grown_by
to_follow room have zero some h = absurd (some refl)
to_follow room have (suc k) some h = rw (grown_by, lt-ltb (have + suc k) room h)

filled : (room have more : ℕ) → (more ≡ 0 → ⊥) → room ≤ have + more → Whole (have + more) ≡ grown_by room have more
unfolding grown_by
filled room have zero some h = absurd (some refl)
filled room have (suc k) some h = rw (grown_by, le-ltb (have + suc k) room h)

pub returns-then-more-eq0 : goal.returns-then-more-eq0
returns-then-more-eq0 c = at_end _ _ _ c.if-more-eq0.true

pub returns-then-there-room : goal.returns-then-there-room
returns-then-there-room c = to_follow _ _ _ c.if-more-eq0.false c.if-there-room.true

pub returns-else-there-room : goal.returns-else-there-room
returns-else-there-room c = filled _ _ _ c.if-more-eq0.false c.if-there-room.false
