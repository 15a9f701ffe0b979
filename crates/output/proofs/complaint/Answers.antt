-- What is appended at the front of the buffer leaves the rest as it was. Assumes nothing.
use mathlib.Core.Path.{◌≡◌, refl, ap, ◌∙◌}
use mathlib.Core.List.{List, ◌++◌}
use Prim.Native.Nat.{ℕ, ◌+◌, ◌-◌}
use native.Mathlib.Omega.{arith}
use lib.ListN.{length, drop, length-take}
use lib.Seq.{sets-eq}
use Rattle.text.specs.Text.{Room, fitting, Appended}
use Rattle.output.specs.Says.{errors, Says}
use Rattle.output.proofs.complaint.Goals as goal

says : (words old new : List ℕ) (n : ℕ) → Appended words old 0 new n → Says errors (fitting words old 0) old new (record { stream = errors; length = n })
says words old new n a = record {
  on = refl;
  long = a.past ∙ front;
  front = a.stand ∙ sets-eq (fitting words old 0) old 0 roomy ∙ ap (λ (k : ℕ). fitting words old 0 ++ drop k old) front;
}
  where
    roomy : Room (fitting words old 0) old 0
    roomy = omega (arith, length-take (length old - 0) words)

    front : ◌≡◌ {A = ℕ} (0 + length (fitting words old 0)) (length (fitting words old 0))
    front = omega arith

pub returns-clause-said : goal.returns-clause-said
returns-clause-said c = says _ _ _ _ c.word-length.ensures.appended
