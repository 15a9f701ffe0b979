-- After each row the set is that of the rows so far that hold the permission. Assumes nothing.
use mathlib.Core.Path.{◌≡◌, sym, ap, ◌∙◌}
use mathlib.Core.Logic.{◌≢◌}
use mathlib.Core.List.{List}
use Prim.Native.Nat.{ℕ, ◌+◌, ◌*◌, ◌/◌, ◌%◌, ◌^◌, ◌<◌}
use native.Mathlib.Omega.{arith}
use lib.Bits.{bit_and, bit_or}
use Rattle.sets.specs.Sets.{bit, bit_le, shr_and_one}
use Rattle.sets.specs.Members.{set_of}
use Rattle.sets.specs.Laws.Tests.{has_hasb, out_hasb}
use Rattle.sets.proofs.Laws.Build.{set_of-none, set_of_added, set_of_passed}
use Rattle.sets.specs.Arrays.{at}
use Rattle.crews.proofs.holders_at.Invariants.{holding}
use Rattle.crews.proofs.holders_at.Goals as goal
use Rattle.crews.proofs.holders_at.Goals.{then-holds-row-eq1, else-holds-row-eq1}

out : (m i : ℕ) → bit m i ≢ 1 → bit m i ≡ 0
out m i n = omega (arith, bit_le m i)

-- the row is added where the code's test says so, and passed over where not
more : (holds : List ℕ) (p row : ℕ) → row < 64 → bit_and (at holds row / 2 ^ p) 1 ≡ 1
    → bit_or (set_of row (holding holds p)) ((1 * 2 ^ row) % 2 ^ 64) ≡ set_of (row + 1) (holding holds p)
more holds p row l e =
    set_of_added row (holding holds p) l (has_hasb (at holds row) p (sym (shr_and_one (at holds row) p) ∙ e))

same : (holds : List ℕ) (p row : ℕ) → bit_and (at holds row / 2 ^ p) 1 ≢ 1 → set_of row (holding holds p) ≡ set_of (row + 1) (holding holds p)
same holds p row n =
    let z : bit (at holds row) p ≡ 0 = out (at holds row) p (λ e. n (shr_and_one (at holds row) p ∙ e)) in
    set_of_passed row (holding holds p) (out_hasb (at holds row) p z)

pub loop-row-init : goal.loop-row-init
loop-row-init c = (omega arith, sym (set_of-none (holding c.args.holds.now c.args.permission)))

pub loop-row-preserved : goal.loop-row-preserved
loop-row-preserved c = let s = c.args in
    let l = c.loop-row in
    let lt = c.loop-row-test.true in
    elim c.if-holds-row-eq1.branch [
      | then-holds-row-eq1 w ↦ (
        omega (arith, lt),
        w.set-is ∙ ap (λ (x : ℕ). bit_or x ((1 * 2 ^ l.row) % 2 ^ 64)) l.invariant.1 ∙ more s.holds.now s.permission l.row lt w.if-holds-row-eq1.true,
      )
      | else-holds-row-eq1 w ↦ (omega (arith, lt), w.set-is ∙ l.invariant.1 ∙ same s.holds.now s.permission l.row w.if-holds-row-eq1.false)
    ]
