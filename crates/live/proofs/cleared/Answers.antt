-- The sets passed are without the place, and the others are as they were. Assumes nothing.
use Rattle.std.specs.Prelude.{◌≡◌, ◌≢◌, ℕ, ◌-◌, ◌*◌, ◌%◌, ◌^◌, ◌<◌, bit_and}
use Rattle.std.proofs.Common.{refl, ap, ◌∙◌, arith, below_more, get_or-set_same, get_or-set_other}
use Rattle.sets.specs.Sets.{less, shl_one}
use Rattle.sets.specs.Arrays.{at}
use Rattle.sets.specs.Laws.Arrays.{tabulated}
use Rattle.live.proofs.cleared.Goals as goal

-- a set as the code takes the place out
without : (set place : ℕ) → place < 64 → bit_and set ((2 ^ 64 - 1) - (1 * 2 ^ place) % 2 ^ 64) ≡ less 64 set place
without set place b = ap (λ (x : ℕ). bit_and set ((2 ^ 64 - 1) - x)) (shl_one 64 place b)

pub loop-set-init : goal.loop-set-init
loop-set-init c = record { passed = λ p b. absurd (omega arith); ahead = λ p b. refl }

pub loop-set-preserved : goal.loop-set-preserved
loop-set-preserved c = let l = c.loop-set in
    record {
      passed =
          below_more _ _ (λ p b. let n : p ≢ l.set-index = omega arith in rw get_or-set_other (l.invariant.passed p b))
          (get_or-set_same l.set-items l.set-index _ 0 (omega arith)
          ∙ without _ c.args.place c.requires
          ∙ ap (λ (x : ℕ). less 64 x c.args.place) (l.invariant.ahead l.set-index (omega arith)));
      ahead = λ p b. let n : p ≢ l.set-index = omega arith in rw get_or-set_other (l.invariant.ahead p (omega arith));
    }

pub returns : goal.returns
returns c =
    tabulated 0 32 (λ p. less 64 (at c.args.holders p) c.args.place) c.loop-set.set-items c.loop-set-test.array_long
    (λ p b. c.loop-set.invariant.passed p (omega (arith, c.loop-set-test.false)))
