-- Which numbers values are refused with: 2 to 5, 12 to 18, 20 and 25, always with place 0; 11 and 19, by which the reader tells that a book ends too
-- soon or goes on too long, never come. Assumes nothing.
use Rattle.std.specs.Prelude.{◌≡◌, ℕ, length, Option, Some, None, Result, Ok, Err}
use Rattle.std.proofs.Common.{sym, ap, subst, inl, inr, arith}
use mathlib.Core.List.{List, [], ◌∷◌, ◌++◌}
use Rattle.book.specs.Layout.{Contents}
use Rattle.book.specs.Faults.{fault_number, EntryNumber}
use Rattle.book.specs.Reading.{Kind, amiss_if, codes, rows_of, policies_of}
use Rattle.book.proofs.Laws.Refused.{Told, told_if, told_code, told-row, told_policy}
use Rattle.book.specs.declared.Fault.{Fault}
use Rattle.values.specs.Writing.{not_written, unwritten_number, value_looks, section_in, first_of, fault_in, Writes}
use Rattle.values.specs.Promises.{WriterNumber}
use Rattle.values.specs.Laws.First.{or_else, first-append}
use Rattle.values.specs.Laws.Outcome.{Which, which, same_reason}
use Rattle.values.specs.declared.Unwritten.{Unwritten}
use Rattle.book.specs.declared.Amiss.{Amiss}

-- ---- of the first fault

abbrev ToldIn : Option Fault → Type 0
ToldIn None = Unit
ToldIn (Some f) = EntryNumber (fault_number f)

told-or : (a b : Option Fault) → ToldIn a → ToldIn b → ToldIn (or_else a b)
told-or None b s t = t
told-or (Some f) b s t = s

told-append : (l m : List (Result Unit Amiss)) → ToldIn (first_of l) → ToldIn (first_of m) → ToldIn (first_of (l ++ m))
told-append l m s t = subst ToldIn (sym (first-append l m)) (told-or (first_of l) (first_of m) s t)

told_head : (x : Result Unit Amiss) (l : List (Result Unit Amiss)) → Told EntryNumber x → ToldIn (first_of l) → ToldIn (first_of (x ∷ l))
unfolding first_of
told_head (Ok x) l s t = t
told_head (Err e) l s t = s

module _ {A : Type 0} (kind : Kind A) (count : EntryNumber (fault_number kind.count_fault))
    (entry : (listed : ℕ) (before : Option A) (x : A) → Told EntryNumber (kind.faults listed before x)) (listed : ℕ) where
  values_told : (before : Option A) (l : List A) → ToldIn (first_of (value_looks kind listed before l))
  unfolding value_looks first_of
  values_told before [] = tt
  values_told before (x ∷ l) =
      told_head (kind.faults listed before x) (value_looks kind listed (Some x) l) (entry listed before x) (values_told (Some x) l)

  section-told : (l : List A) → ToldIn (first_of (section_in kind listed l))
  section-told l =
      told_head (amiss_if (kind.out_of_range (length l)) kind.count_fault 0 (Ok tt)) (value_looks kind listed None l)
      (told_if EntryNumber (kind.out_of_range (length l)) kind.count_fault 0 (Ok tt) count tt) (values_told None l)

-- a fault of values is told by one of 2 to 5 or of 12 to 18, or by 25
pub fault_number_lem : (v : Contents) (f : Fault) → fault_in v ≡ Some f → EntryNumber (fault_number f)
fault_number_lem v f e =
    let listed = length v.codes in
    subst ToldIn e
    (told-append (section_in codes 0 v.codes) _ (section-told codes (inr (inl (omega arith, omega arith))) told_code 0 v.codes)
    (told-append (section_in (rows_of v.form) listed v.rows) (section_in (policies_of v.form) listed v.policies)
    (section-told (rows_of v.form) (inr (inl (omega arith, omega arith))) (told-row v.form) listed v.rows)
    (section-told (policies_of v.form) (inr (inl (omega arith, omega arith))) (told_policy v.form) listed v.policies)))

-- ---- of a refusal

-- values are refused with one of 2 to 5, of 12 to 18, 20 or 25, and with place 0
pub numbers : (v : Contents) (old new : List ℕ) (u : Unwritten) (at : ℕ) → Writes v old new (not_written u at)
    → WriterNumber (unwritten_number u) × (at ≡ 0)
numbers v old new u at w = go (which v old)
  where
    go : Which v old → WriterNumber (unwritten_number u) × (at ≡ 0)
    go (inl h) =
        let e = same_reason (w.faulty h.fault h.told).0 in
        (subst (λ (x : Unwritten). WriterNumber (unwritten_number x)) (sym e.0) (inl (fault_number_lem v h.fault h.told)), e.1)
    go (inr (inl h)) =
        let e = same_reason (w.short h.sound h.short).0 in
        (inr (ap unwritten_number e.0), e.1)
    go (inr (inr h)) = let e = (w.written h.sound h.room).0 in let z : ◌≡◌ {A = ℕ} 0 1 = cc in absurd (omega arith)

-- 11 and 19 never come
pub never_short_never_excess : (v : Contents) (old new : List ℕ) (u : Unwritten) (at : ℕ) → Writes v old new (not_written u at)
    → (unwritten_number u ≡ 11 → ⊥) × (unwritten_number u ≡ 19 → ⊥)
never_short_never_excess v old new u at w = go (numbers v old new u at w).0
  where
    go : WriterNumber (unwritten_number u) → (unwritten_number u ≡ 11 → ⊥) × (unwritten_number u ≡ 19 → ⊥)
    go (inl (inl h)) = (λ e. omega (arith, h.1), λ e. omega (arith, h.1))
    go (inl (inr (inl h))) = (λ e. omega (arith, h.0), λ e. omega (arith, h.1))
    go (inl (inr (inr h))) = (λ e. omega arith, λ e. omega arith)
    go (inr h) = (λ e. omega arith, λ e. omega arith)
