-- That the definitions mean what they should. Assumes nothing.
use Rattle.std.proofs.Common.{subst, arith}
use Rattle.std.specs.Prelude.{List, ℕ, ◌≤◌, ℤ, length}
use Rattle.text.specs.Text.{fitting}
use Rattle.text.specs.Laws.Appends.{fitting_all}
use Rattle.output.specs.declared.Said.{Said}
use Rattle.output.specs.Says.{Says}

-- where there is room, all of a text is said
pub all_said : {stream : ℤ} {old new : List ℕ} {r : Said} (text : List ℕ) → length text ≤ length old → Says stream (fitting text old 0) old new r → Says stream text old new r
all_said {stream} {old} {new} {r} text room s = subst (λ (l : List ℕ). Says stream l old new r) (fitting_all text old 0 (omega arith)) s
