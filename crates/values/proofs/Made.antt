-- An array made by calls at 0, 1 and so on, each of which leaves the closure as it was, is the table of what they answer. Assumes nothing.
use mathlib.Core.Path.{◌≡◌, refl, subst, ◌∙◌}
use mathlib.Core.List.{List}
use Prim.Native.Nat.{ℕ, zero, suc, ◌+◌, ◌≤◌, ◌<◌}
use native.Mathlib.Decide.{ℕ_discrete}
use native.Mathlib.Omega.{arith}
use lib.ListN.{get_or}
use denote.Param.Members.{Mut}
use Rattle.std.specs.Array.{IsFromFnResult, IsFromFnResultFrom}
use Rattle.std.specs.Fn.{Called}
use Rattle.sets.specs.Arrays.{tabulate}
use Rattle.sets.specs.Laws.Arrays.{tabulated}

module _ {F B : Type 0} (g : Mut F (ℕ × Unit {0}) B) (h : ℕ → B) (f : F)
    (call : (i : ℕ) (y : B) (q : F) → Called g f (i, tt) y q → (y ≡ h i) × (q ≡ f)) (d : B) (ys : List B) where
  made_from : (q : F) → q ≡ f → (i n : ℕ) → IsFromFnResultFrom g q ys i n → (k : ℕ) → i ≤ k → k < i + n → get_or ys k d ≡ h k
  made_from q e i zero m k low high = absurd (omega arith)
  made_from q e i (suc n) m k low high = go (ℕ_discrete k i) (made_from m.0 one.1 (i + 1) n m.4 k)
    where
      one : (m.1 ≡ h i) × (m.0 ≡ f)
      one = call i m.1 m.0 (subst (λ (p : F). Called g p (i, tt) m.1 m.0) e m.3)

      go : Dec (k ≡ i) → (i + 1 ≤ k → k < i + 1 + n → get_or ys k d ≡ h k) → get_or ys k d ≡ h k
      go (yes s) rest = rw s (m.2.1 d ∙ one.0)
      go (no s) rest = rest (omega arith) (omega arith)

  pub made_table : (n : ℕ) → IsFromFnResult g f ys n → ys ≡ tabulate n h
  made_table n m = tabulated d n h ys m.long (λ i l. made_from f refl 0 n m.each i (omega arith) (omega arith))
