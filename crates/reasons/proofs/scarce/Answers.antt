-- A permission outside the task is not scarce; else its free holders are counted. Assumes nothing.
use mathlib.Core.Path.{◌≡◌, sym, ap, ◌∙◌}
use mathlib.Core.Bool.{Bool, false, ◌&&◌}
use mathlib.Core.Logic.{◌≢◌}
use Prim.Native.Nat.{ℕ, ◌/◌, ◌^◌}
use native.Mathlib.Omega.{arith}
use lib.Bits.{bit_and}
use lib.Count.{ones}
use lib.Dec.{ltb}
use Rattle.sets.specs.Sets.{bit_le, shr_and_one}
use Rattle.sets.specs.Laws.Tests.{has_hasb, out_hasb}
use Rattle.sets.specs.Arrays.{at}
use Rattle.reasons.specs.Replied.{scarce_in}
use Rattle.reasons.proofs.scarce.Goals as goal

outside : (there : ℕ → ℕ) (P d p : ℕ) → bit_and (P / 2 ^ p) 1 ≡ 0 → scarce_in there P d p ≡ false
unfolding scarce_in
outside there P d p e = ap (λ (b : Bool). b && ltb (ones (there p)) d) (out_hasb P p (sym (shr_and_one P p) ∙ e))

inside : (there : ℕ → ℕ) (P d p : ℕ) → bit_and (P / 2 ^ p) 1 ≢ 0 → scarce_in there P d p ≡ ltb (ones (there p)) d
unfolding scarce_in
inside there P d p n =
    ap (λ (b : Bool). b && ltb (ones (there p)) d) (has_hasb P p (omega (arith, n, bit_le P p, shr_and_one P p)))

pub returns-then-task-permission-eq0 : goal.returns-then-task-permission-eq0
returns-then-task-permission-eq0 c = let s = c.args in
    sym (outside (λ p. bit_and (at s.holders.now p) s.free) s.task s.crews s.permission c.if-task-permission-eq0.true)

pub returns : goal.returns
returns c = let s = c.args in
    ap (λ (n : ℕ). ltb n s.crews) c.size-present.ensures
    ∙ sym (inside (λ p. bit_and (at s.holders.now p) s.free) s.task s.crews s.permission c.if-task-permission-eq0.false)
