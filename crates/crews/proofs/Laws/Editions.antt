-- Under the first edition nothing moves: a crew closes as soon as it covers, so after each placement something is missing, and the rows that may
-- come next are those who hold the lowest of it, as in 01. Assumes nothing.
use Rattle.std.specs.Prelude.{◌≡◌, refl, Bool, true, false, ◌&&◌, ◌≢◌, ℕ, eqb}
use Rattle.std.proofs.Common.{sym, ap, ◌∙◌, arith, le-leb}
use Rattle.std.proofs.Math.Logic.{⊎_elim}
use Rattle.std.specs.Int.Bits.{bit_and}
use Rattle.std.specs.Int.Count.{ones}
use Rattle.sets.specs.Sets.{missing_all}
use Rattle.roster.specs.Meaning.{least_members}
use Rattle.roster.proofs.Laws.Editions.{first-least}
use Rattle.crews.specs.declared.Filling.{Filling}
use Rattle.crews.specs.Filling.{Work, missing_of, close_of, closes_of, placed_of, wanted_of, pool}
use Rattle.crews.proofs.Laws.Search.{placed_is, pool-short}

alone : (b : Bool) → (b && true) ≡ b
alone true = refl
alone false = refl

-- "A crew that covers P is closed and the next begun."
pub first_closes : (task : ℕ) (f : Filling) → closes_of task (least_members 1) f ≡ eqb (missing_of task f) 0
unfolding closes_of
first_closes task f =
    ap (λ (b : Bool). eqb (missing_of task f) 0 && b) (le-leb (least_members 1) (ones f.crew) (omega (arith, first-least)))
    ∙ alone (eqb (missing_of task f) 0)

module _ (w : Work) (f : Filling) (row : ℕ) (first : w.least ≡ least_members 1) (some : w.task ≢ 0) where
  -- no crew that covers is left open
  pub first_misses : missing_of w.task (placed_of w f row) ≢ 0
  unfolding close_of
  first_misses =
      placed_is w f row (λ g. missing_of w.task g ≢ 0)
      (λ z m e. some (sym (missing_all w.task) ∙ e))
      (λ z. ⊎_elim (λ y. y) (λ y. absurd (omega (arith, first, first-least, y))) z)

  -- so no companion is ever tried
  pub first-pool : pool w (placed_of w f row) ≡ bit_and (w.holders (wanted_of w.task (placed_of w f row))) (placed_of w f row).free
  first-pool = pool-short w.holders (missing_of w.task (placed_of w f row)) (placed_of w f row).free first_misses
