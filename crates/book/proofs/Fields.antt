-- Where the fields of an entry start, and the first of them that is not whole. Assumes nothing.
use Rattle.std.specs.Prelude.{Result, Err}
use mathlib.Core.Path.{◌≡◌, refl, sym, ap, subst, ◌∙◌}
use mathlib.Core.Bool.{Bool, true, false}
use mathlib.Core.List.{List, [], ◌∷◌}
use Prim.Native.Nat.{ℕ, zero, suc, ◌+◌, ◌*◌, ◌≤◌, ◌<◌}
use native.Mathlib.Nat.{lt_of_not-le}
use native.Mathlib.Decide.{dec_le}
use native.Mathlib.Omega.{arith}
use lib.Dec.{ltb}
use borrow.Author.Tests.{ltb-true, lt-ltb, le-ltb}
use Rattle.roster.specs.declared.Refusal.{Refusal}
use Rattle.roster.specs.declared.Refusal.TheVariants as refusal
use Rattle.book.specs.Layout.{row_widths, policy_widths, form_has_persons}
use Rattle.book.specs.Reading.{total, field_place, cut_place, row_amiss, field_of, rows_of, width}
use Rattle.book.specs.declared.Form.{Form}
use Rattle.book.specs.declared.Form.TheVariants.{Old, Persons, Editions}
use Rattle.book.specs.declared.Amiss.{Amiss}

-- the answer that something is cut
pub was_cut : {b : Bool} (len at wide : ℕ) → b ≡ ltb len (at + wide) → b ≡ true → len < at + wide
was_cut len at wide e taken = ltb-true _ _ (sym e ∙ taken)

-- the first field is cut, or what is cut comes after it
pub cut-first : (w : ℕ) (ws : List ℕ) (len at : ℕ) → len < at + w → cut_place (w ∷ ws) len at ≡ at
unfolding cut_place
cut-first w ws len at h = ap (λ (b : Bool). elim b [ true ↦ at | false ↦ cut_place ws len (at + w) ]) (lt-ltb len (at + w) h)

pub cut_next : (w : ℕ) (ws : List ℕ) (len at : ℕ) → at + w ≤ len → cut_place (w ∷ ws) len at ≡ cut_place ws len (at + w)
unfolding cut_place
cut_next w ws len at h = ap (λ (b : Bool). elim b [ true ↦ at | false ↦ cut_place ws len (at + w) ]) (le-ltb len (at + w) h)

-- a row that is cut is cut at the same place with a field more
pub row_cut : (form : Form) (len at : ℕ) → len < at + width (rows_of form) → cut_place (row_widths true) len at ≡ cut_place (row_widths (form_has_persons form)) len at
row_cut Persons len at h = refl
row_cut Editions len at h = refl
row_cut Old len at h = go (dec_le (at + 4) len)
  where
    go : Dec (at + 4 ≤ len) → cut_place (row_widths true) len at ≡ cut_place (row_widths false) len at
    go (yes l) =
        let second : len < at + 4 + 4 = omega arith in
        cut_next 4 (4 ∷ 4 ∷ []) len at l
        ∙ cut-first 4 (4 ∷ []) len (at + 4) second
        ∙ sym (cut_next 4 (4 ∷ []) len at l ∙ cut-first 4 [] len (at + 4) second)
    go (no n) =
        let l = lt_of_not-le n in
        cut-first 4 (4 ∷ 4 ∷ []) len at l ∙ sym (cut-first 4 (4 ∷ []) len at l)

-- of fields of one byte each the first that is not whole starts where the book ends
abbrev bytewide : ℕ → List ℕ
bytewide zero = []
bytewide (suc n) = 1 ∷ bytewide n

bytes_cut : (n len at : ℕ) → at ≤ len → len < at + n → cut_place (bytewide n) len at ≡ len
bytes_cut zero len at h k = absurd (omega arith)
bytes_cut (suc n) len at h k = go (dec_le (at + 1) len) (bytes_cut n len (at + 1))
  where
    go : Dec (at + 1 ≤ len) → (at + 1 ≤ len → len < at + 1 + n → cut_place (bytewide n) len (at + 1) ≡ len) → cut_place (1 ∷ bytewide n) len at ≡ len
    go (no m) ih = cut-first 1 (bytewide n) len at (lt_of_not-le m) ∙ omega (arith, lt_of_not-le m)
    go (yes l) ih = cut_next 1 (bytewide n) len at l ∙ ih l (omega arith)

-- so it is after P
pub policy_cut : (editions : Bool) (len at : ℕ) → at + 4 ≤ len → len < at + total (policy_widths editions) → len ≡ cut_place (policy_widths editions) len at
policy_cut false len at h k = sym (cut_next 4 (bytewide 3) len at h ∙ bytes_cut 3 len (at + 4) h (omega arith))
policy_cut true len at h k = sym (cut_next 4 (bytewide 4) len at h ∙ bytes_cut 4 len (at + 4) h (omega arith))

same_amiss : {y x : Amiss} → ◌≡◌ {A = Result Unit Amiss} (Err y) (Err x) → y ≡ x
same_amiss e = cc

-- each field of a row is four bytes
abbrev pub InRow : Bool → ℕ → Amiss → Type 0
InRow persons at x = (x.field ≤ 2) × (at + 4 * x.field ≡ field_place (row_widths persons) at x.field)

pub row_field : (persons low beyond : Bool) (at : ℕ) {x : Amiss} → row_amiss persons low beyond ≡ Err x
    → InRow persons at x
row_field false true beyond at e = subst (InRow false at) (same_amiss e) (omega arith, omega arith)
row_field true true beyond at e = subst (InRow true at) (same_amiss e) (omega arith, omega arith)
row_field false false true at e = subst (InRow false at) (same_amiss e) (omega arith, omega arith)
row_field true false true at e = subst (InRow true at) (same_amiss e) (omega arith, omega arith)
row_field persons false false at e = cc

-- a field of a policy, from the policy's place on, in every form
pub policy_field : (editions : Bool) (r : Refusal) (at : ℕ)
    → (field_place (policy_widths true) 0 (field_of r) ≤ 7) × (at + field_place (policy_widths true) 0 (field_of r) ≡ field_place (policy_widths editions) at (field_of r))
policy_field editions refusal.Rows at = (omega arith, omega arith)
policy_field editions refusal.Task at = (omega arith, omega arith)
policy_field editions refusal.Away at = (omega arith, omega arith)
policy_field editions refusal.Crews at = (omega arith, omega arith)
policy_field editions refusal.Size at = (omega arith, omega arith)
policy_field editions refusal.Absence at = (omega arith, omega arith)
policy_field false refusal.Edition at = (omega arith, omega arith)
policy_field true refusal.Edition at = (omega arith, omega arith)
