-- The allowance along a list of absences: what a first part comes to, and then the rest at the units that it took. Assumes nothing.
use Rattle.std.specs.Prelude.{Ok, Err, Result}
use mathlib.Core.Path.{◌≡◌, sym, ap, ◌∙◌}
use mathlib.Core.Logic.{⊎_elim}
use mathlib.Core.Bool.{Bool, true, false}
use Prim.Native.Nat.{ℕ, ◌+◌, ◌≤◌, ◌<◌}
use native.Mathlib.Nat.{add_assoc, add-zero}
use native.Mathlib.Omega.{arith}
use lib.Dec.{leb}
use borrow.Author.Tests.{le-leb, lt-leb, leb-true, leb-false}
use Rattle.sets.specs.Laws.Sums.{either}
use Rattle.absences.specs.declared.Stop.{Stop}
use Rattle.absences.specs.declared.Stop.TheVariants.{Blocked, Undecided}
use Rattle.absences.specs.Tried.{Found}
use Rattle.absences.specs.Inner.Walk.{stands, walked_of}
use Rattle.absences.proofs.Laws.Weighed.{and_then, dearer}

pub walked_fits : (most spent : ℕ) (w : Found) → spent + w.need ≤ most
    → walked_of most spent w ≡ stands w.blocked w.blocker (spent + w.need)
unfolding walked_of
walked_fits most spent w h = rw (le-leb _ _ h, walked_of)

pub walked_over : (most spent : ℕ) (w : Found) → most < spent + w.need → walked_of most spent w ≡ Err Undecided
unfolding walked_of
walked_over most spent w h = rw (lt-leb _ _ h, walked_of)

-- nothing to try costs nothing
pub walked_none : (most spent : ℕ) (w : Found) → w ≡ record { blocked = false; blocker = 0; need = 0 } → spent ≤ most
    → Ok spent ≡ walked_of most spent w
walked_none most spent w e h =
    sym (ap (walked_of most spent) e ∙ walked_fits most spent (record { blocked = false; blocker = 0; need = 0 }) (omega arith)
    ∙ ap (stands false 0) (add-zero spent))

-- units before are units spent before
pub walked_dearer : (most spent n : ℕ) (w : Found) → walked_of most spent (dearer n w) ≡ walked_of most (spent + n) w
unfolding walked_of
walked_dearer most spent n w =
    ap (λ (x : ℕ). elim (leb x most) [
      | true ↦ stands w.blocked w.blocker x
      | false ↦ Err Undecided
    ]) (sym (add_assoc spent n w.need))

-- the outcome is one of these three
pub data Judged (most spent : ℕ) (w : Found) (r : Result ℕ Stop) : Type 0 where
  is_open : w.blocked ≡ false → r ≡ Ok (spent + w.need) → spent + w.need ≤ most → Judged most spent w r
  is_blocked : w.blocked ≡ true → r ≡ Err (Blocked w.blocker (spent + w.need)) → spent + w.need ≤ most → Judged most spent w r
  is_over : most < spent + w.need → r ≡ Err Undecided → Judged most spent w r

pub judge : (most spent : ℕ) (w : Found) (r : Result ℕ Stop) → r ≡ walked_of most spent w → Judged most spent w r
judge most spent w r e =
    ⊎_elim
    (λ l.
    let h = leb-true _ _ l in
    let f = e ∙ walked_fits most spent w h in
    ⊎_elim
    (λ b. is_blocked b (f ∙ ap (λ (x : Bool). stands x w.blocker (spent + w.need)) b) h)
    (λ b. is_open b (f ∙ ap (λ (x : Bool). stands x w.blocker (spent + w.need)) b) h)
    (either w.blocked))
    (λ l.
    let h = leb-false _ _ l in
    is_over h (e ∙ walked_over most spent w h))
    (either (leb (spent + w.need) most))

-- ---- two lists one after the other: `r` is what the first comes to

-- the search goes on or stops, and not both
pub goes_stops : {r : Result ℕ Stop} {n : ℕ} {stop : Stop} → r ≡ Ok n → r ≡ Err stop → ⊥
goes_stops p q = let z : ◌≡◌ {A = ℕ} 0 1 = cc in omega arith

same_units : {r : Result ℕ Stop} {n m : ℕ} → r ≡ Ok n → r ≡ Ok m → n ≡ m
same_units p q = cc

then_open : (w v : Found) → w.blocked ≡ false → and_then w v ≡ dearer w.need v
then_open w v e = rw e

then_blocked : (w v : Found) → w.blocked ≡ true → and_then w v ≡ w
then_blocked w v e = rw e

then_need : (w v : Found) → w.need ≤ (and_then w v).need
then_need w v =
    ⊎_elim
    (λ e. let q = ap (λ (x : Found). x.need) (then_blocked w v e) in omega arith)
    (λ e. let q = ap (λ (x : Found). x.need) (then_open w v e) in omega arith)
    (either w.blocked)

module _ (most spent : ℕ) (w v : Found) (r : Result ℕ Stop) (e : r ≡ walked_of most spent w) where
  -- nothing in it blocks: the rest, at the units it took
  pub turn_open : (n : ℕ) → r ≡ Ok n → (walked_of most spent (and_then w v) ≡ walked_of most n v) × (n ≤ most)
  turn_open n o = go (judge most spent w r e)
    where
      go : Judged most spent w r → (walked_of most spent (and_then w v) ≡ walked_of most n v) × (n ≤ most)
      go (is_open b q l) =
          let u : n ≡ spent + w.need = same_units o q in (
            ap (walked_of most spent) (then_open w v b) ∙ walked_dearer most spent w.need v ∙ ap (λ (m : ℕ). walked_of most m v) (sym u),
            omega (arith, u),
          )
      go (is_blocked b q l) = absurd (goes_stops o q)
      go (is_over l q) = absurd (goes_stops o q)

  -- one blocks, and is the first; or the allowance is spent
  pub turn_stopped : (stop : Stop) → r ≡ Err stop → r ≡ walked_of most spent (and_then w v)
  turn_stopped stop o = go (judge most spent w r e)
    where
      go : Judged most spent w r → r ≡ walked_of most spent (and_then w v)
      go (is_open b q l) = absurd (goes_stops q o)
      go (is_blocked b q l) = e ∙ ap (walked_of most spent) (sym (then_blocked w v b))
      go (is_over l q) =
          let n = then_need w v in
          e ∙ walked_over most spent w l ∙ sym (walked_over most spent (and_then w v) (omega arith))
