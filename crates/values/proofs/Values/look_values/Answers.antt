-- The loop's invariant: the entries passed are sound. Assumes nothing.
use mathlib.Core.Path.{sym, ap, ◌∙◌}
use native.Mathlib.Omega.{arith}
use Rattle.values.specs.Inner.Looks.{count_of, look_at, told}
use Rattle.values.proofs.Looks.{one_more, first-at, first-none}
use Rattle.values.proofs.Values.look_values.Goals as goal

pub returns-in-Err : goal.returns-in-Err
returns-in-Err c = let a = c.args in
    sym (ap told (first-at (count_of a.self.now a.section) (look_at a.self.now a.section) c.loop-i.i _
    (omega (arith, c.requires.0, c.loop-i-test.true)) c.loop-i.invariant (sym c.look_value.ensures ∙ c.in-Err.is)))

pub loop-i-preserved : goal.loop-i-preserved
loop-i-preserved c = let a = c.args in
    one_more (look_at a.self.now a.section) c.loop-i.i c.loop-i.invariant (sym c.look_value.ensures ∙ c.in_default.is)

pub returns : goal.returns
returns c = let a = c.args in
    sym (ap told (first-none (count_of a.self.now a.section) (look_at a.self.now a.section)
    (λ j k. c.loop-i.invariant j (omega (arith, c.requires.0, c.loop-i-test.false)))))
