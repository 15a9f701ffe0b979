-- The loop's invariant: the whole section comes to what is left of it from the cursor on. Assumes nothing.
use mathlib.Core.Path.{◌≡◌, sym, ap, ap₂, ◌∙◌}
use Prim.Native.Nat.{ℕ, ◌-◌, ◌+◌}
use native.Mathlib.Omega.{arith}
use Rattle.book.specs.Inner.Steps.{look_in, width_in, past_entry}
use Rattle.book.specs.declared.Cursor.{Cursor}
use Rattle.book.proofs.Looks.{passed_up, step_none, step_faulty, step_sound, whole_entry}
use Rattle.book.proofs.Reader.entries.Invariants.{steps}
use Rattle.book.proofs.Reader.entries.Goals as goal

pub past-cursor-requires : goal.past-cursor-requires
past-cursor-requires c = let a = c.args in
    let h = whole_entry a.self.form a.section a.self.bytes.now a.listed c.loop-passed.cursor.before c.loop-passed.cursor.at (sym c.look_entry.ensures ∙ c.in_ok-look_entry.was) in
    omega (arith, c.loop-passed.invariant.0)

pub loop-passed-preserved : goal.loop-passed-preserved
loop-passed-preserved c = let a = c.args in
    let l = c.loop-passed in
    let passed = step_sound (look_in a.self.form a.section a.self.bytes.now a.listed) (width_in a.self.form a.section) l.cursor (a.count - l._passed)
    (omega (arith, c.loop-passed-test.true)) (sym c.look_entry.ensures ∙ c.in_ok-look_entry.was) in
    let moved : past_entry l.cursor (width_in a.self.form a.section) ≡ c.past-cursor.result =
    ap (past_entry l.cursor) (sym l.invariant.0) ∙ sym c.past-cursor.ensures in
    let less : a.count - l._passed - 1 ≡ a.count - (l._passed + 1) = omega arith in
    (l.invariant.0, l.invariant.1 ∙ passed ∙ ap₂ (λ (x : Cursor) (n : ℕ). steps a.self.bytes.now a.self.form a.section a.listed x n) moved less)

pub returns-in_err-look_entry : goal.returns-in_err-look_entry
returns-in_err-look_entry c = let a = c.args in
    passed_up _ c.from_residual.ensures.1
    ∙ sym (c.loop-passed.invariant.1
    ∙ step_faulty (look_in a.self.form a.section a.self.bytes.now a.listed) (width_in a.self.form a.section) c.loop-passed.cursor (a.count - c.loop-passed._passed) _
    (omega (arith, c.loop-passed-test.true)) (sym c.look_entry.ensures ∙ c.in_err-look_entry.was))

pub returns : goal.returns
returns c = let a = c.args in
    sym (c.loop-passed.invariant.1
    ∙ step_none (look_in a.self.form a.section a.self.bytes.now a.listed) (width_in a.self.form a.section) c.loop-passed.cursor (a.count - c.loop-passed._passed) (omega (arith, c.loop-passed-test.false)))
