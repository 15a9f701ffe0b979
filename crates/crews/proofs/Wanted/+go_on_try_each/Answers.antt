-- A placement is one call of `go_on`: stuck, or on to `try_each`, by the laws of a placement in Turns. In `try_each` the return before the
-- loop is `search-done`, and each turn ends by a law of Turns. Assumes nothing.
use mathlib.Core.Path.{◌≡◌, sym, ap, ◌∙◌}
use Prim.Native.Nat.{ℕ}
use native.Mathlib.Omega.{arith}
use lib.Count.{ones}
use Rattle.sets.specs.Arrays.{at}
use Rattle.sets.specs.declared.Members.{Members}
use Rattle.crews.specs.declared.Filling.{Filling}
use Rattle.crews.specs.declared.Wanted.{Wanted}
use Rattle.crews.specs.Filling.{pool_of}
use Rattle.crews.specs.Inner.Placing.{eligible_of}
use Rattle.crews.proofs.Laws.Search.{search-done}
use Rattle.crews.proofs.Laws.Steps as step
use Rattle.crews.proofs.Turns as turn
use Rattle.crews.proofs.Wanted.+go_on_try_each.Goals as goal

abbrev asked : Wanted → Filling → ℕ → turn.Asked
asked w state spent =
    record {
      holds = w.holds;
      holders = w.holders;
      task = w.task;
      crews = w.crews;
      size = w.size;
      least = w.least;
      state = state;
      spent = spent;
      allowance = w.allowance;
    }

-- ---- a placement

pub go_on-returns-then-stuck : goal.go_on-returns-then-stuck
go_on-returns-then-stuck t c =
    let a = c.args in
    let w = a.self.now in
    c.without_crews.ensures
    ∙ turn.stuck_here (at w.holds) (at w.holders) w.task w.crews w.size w.least a.before a.row a.spent w.allowance c.requires
    c.place-placed.ensures (sym c.stuck.ensures ∙ c.if-stuck.true)

pub go_on-try_each-requires : goal.go_on-try_each-requires
go_on-try_each-requires t c =
    let a = c.args in
    let w = a.self.now in
    let eq = c.place-placed.ensures in (
      omega (
        arith,
        turn.free_falls (at w.holds) (at w.holders) w.task w.crews w.size w.least a.before a.row a.spent w.allowance c.requires eq,
        c.decreases,
      ),
      turn.next_ready (at w.holds) (at w.holders) w.task w.crews w.size w.least a.before a.row a.spent w.allowance c.requires eq
          (sym c.stuck.ensures ∙ c.if-stuck.false),
    )

pub go_on-returns : goal.go_on-returns
go_on-returns t c =
    let a = c.args in
    let w = a.self.now in
    turn.went_on (at w.holds) (at w.holders) w.task w.crews w.size w.least a.before a.row a.spent w.allowance c.requires
    c.place-placed.ensures c.try_each.ensures

-- ---- each candidate in turn

pub try_each-returns-then-f-self : goal.try_each-returns-then-f-self
try_each-returns-then-f-self t c =
    let s = c.args in
    let a = asked s.self.now c.settled-f.result s.spent in
    c.complete.ensures
    ∙ step.says_complete a.allowance a.spent a.state.crews _ (search-done (turn.rule a) a.state _ c.if-f-self.true) c.requires.within
    ∙ turn.settled_answer a s.placed c.settled-f.ensures

pub try_each-loop-row-init : goal.try_each-loop-row-init
try_each-loop-row-init t c =
    let s = c.args in
    let a = asked s.self.now c.settled-f.result s.spent in
    let all_left : c.into_iter-row-iterator.result.left ≡ c.eligible-wanted.result =
    ap (λ (m : Members). m.left) c.into_iter-row-iterator.ensures.into_iter_gives ∙ c.of-row-items.ensures in
    turn.begun a s.placed c.settled-f.ensures c.requires
    (all_left
    ∙ c.eligible-wanted.ensures
    ∙ ap (eligible_of a.state)
    (c.candidates.ensures ∙ ap (λ (m : ℕ). pool_of (at a.holders) m a.state.free) c.missing.ensures))
    c.if-f-self.false

pub try_each-returns-then-units-self : goal.try_each-returns-then-units-self
try_each-returns-then-units-self t c =
    let s = c.args in
    let a = asked s.self.now c.settled-f.result s.spent in
    c.without_crews.ensures
    ∙ turn.spent_out c.loop-row.invariant _ _ c.in-Some.ensures.steps
    (omega (arith, c.if-units-self.true))
    ∙ turn.settled_answer a s.placed c.settled-f.ensures

pub try_each-go_on-filled-requires : goal.try_each-go_on-filled-requires
try_each-go_on-filled-requires t c =
    let s = c.args in
    let g = c.loop-row.invariant in
    let same = ap (λ (f : Filling). ones f.free) c.settled-f.ensures ∙ ap ones (step.closed_free s.self.now.task s.self.now.least s.placed) in (
      omega (arith, turn.some_free g _ _ c.in-Some.ensures.steps, same, c.decreases),
      turn.placing g _ _ c.in-Some.ensures.steps c.if-units-self.false,
    )

pub try_each-returns-in_default : goal.try_each-returns-in_default
try_each-returns-in_default t c =
    let s = c.args in
    let a = asked s.self.now c.settled-f.result s.spent in
    turn.ended_here c.loop-row.invariant _ _ c.in-Some.ensures.steps c.go_on-filled.ensures c.in_default.not-Exhausted
    ∙ turn.settled_answer a s.placed c.settled-f.ensures

pub try_each-loop-row-preserved : goal.try_each-loop-row-preserved
try_each-loop-row-preserved t c =
    turn.exhausted_here c.loop-row.invariant _ _ c.in-Some.ensures.steps c.go_on-filled.ensures c.in-Exhausted.is

pub try_each-returns : goal.try_each-returns
try_each-returns t c =
    let s = c.args in
    let a = asked s.self.now c.settled-f.result s.spent in
    c.without_crews-2.ensures ∙ turn.ended c.loop-row.invariant c.in-None.ensures.steps.0 ∙ turn.settled_answer a s.placed c.settled-f.ensures
