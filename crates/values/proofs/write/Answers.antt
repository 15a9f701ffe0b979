-- A fault and too little room leave the buffer as it was. Without either the sections stand at its front, one after the other, and the rest is
-- as it was. Assumes nothing.
-- ---- the three outcomes
-- ---- the code
use Rattle.std.specs.Prelude.{Some, None, Ok}
use mathlib.Core.Path.{◌≡◌, refl, sym, ap, ◌∙◌}
use mathlib.Core.List.{List, ◌++◌}
use Prim.Native.Nat.{ℕ, ◌+◌, ◌≤◌, ◌<◌}
use native.Mathlib.Omega.{arith}
use lib.ListN.{length, drop}
use lib.Seq.{sets-eq}
use Rattle.text.specs.Text.{Room, Appended}
use Rattle.text.specs.Laws.Appends.{◌then◌, read_as, all_stand, all_past}
use Rattle.book.specs.Layout.{Contents, bytes_of}
use Rattle.book.specs.declared.Fault.{Fault}
use Rattle.book.specs.declared.Section.TheVariants.{Permissions, Rows, Policies}
use Rattle.values.specs.Values.{contents_for}
use Rattle.values.specs.Writing.{not_written, fault_in, Writes}
use Rattle.values.specs.Inner.Looks.{Counted}
use Rattle.values.specs.declared.Unwritten.TheVariants as unwritten
use Rattle.values.proofs.Looks.{told_sound, sound_counted}
use Rattle.values.proofs.Puts.{bytes_by_sections}
use Rattle.values.proofs.write.Goals as goal
use Rattle.values.proofs.write.Goals.{In_default}

module _ (v : Contents) (old : List ℕ) where
  faulty : (f : Fault) → fault_in v ≡ Some f → Writes v old old (not_written (unwritten.Fault f) 0)
  faulty f e = record {
    faulty = λ g h. let same : f ≡ g = cc in (ap (λ (x : Fault). not_written (unwritten.Fault x) 0) same, refl);
    short = λ h l. let z : ◌≡◌ {A = ℕ} 0 1 = cc in absurd (omega arith);
    written = λ h l. let z : ◌≡◌ {A = ℕ} 0 1 = cc in absurd (omega arith);
  }

  short : fault_in v ≡ None → length old < length (bytes_of v) → Writes v old old (not_written unwritten.Room 0)
  short e l = record {
    faulty = λ g h. let z : ◌≡◌ {A = ℕ} 0 1 = cc in absurd (omega arith);
    short = λ h k. (refl, refl);
    written = λ h k. absurd (omega arith);
  }

  written : fault_in v ≡ None → length (bytes_of v) ≤ length old → (new : List ℕ) (n : ℕ) → Appended (bytes_of v) old 0 new n
      → Writes v old new (Ok n)
  written e l new n a = record {
    faulty = λ g h. let z : ◌≡◌ {A = ℕ} 0 1 = cc in absurd (omega arith);
    short = λ h k. absurd (omega arith);
    written = λ h k. (
      ap Ok (all_past room a ∙ front),
      all_stand room a ∙ sets-eq (bytes_of v) old 0 room ∙ ap (λ (i : ℕ). bytes_of v ++ drop i old) front,
    );
  }
    where
      room : Room (bytes_of v) old 0
      room = omega arith

      front : ◌≡◌ {A = ℕ} (0 + length (bytes_of v)) (length (bytes_of v))
      front = omega arith

-- no fault was found, so there are no more entries than there is room for
sound : (c : In_default) → fault_in (contents_for c.args.values) ≡ None
sound c = told_sound _ (sym c.first_fault.ensures ∙ c.in_default.is)

counted : (c : In_default) → Counted c.args.values
counted c = sound_counted c.args.values ((told_sound _ (sym c.first_fault.ensures ∙ c.in_default.is)))

pub length_of-requires : goal.length_of-requires
length_of-requires c = counted (goal.at.length_of-requires c).In_default

pub put_section-rows-requires : goal.put_section-rows-requires
put_section-rows-requires c = counted (goal.at.put_section-rows-requires c).In_default Permissions

pub put_section-policies-requires : goal.put_section-policies-requires
put_section-policies-requires c = counted (goal.at.put_section-policies-requires c).In_default Rows

pub put_section-requires : goal.put_section-requires
put_section-requires c = counted (goal.at.put_section-requires c).In_default Policies

pub returns : goal.returns
returns c = let a = c.args in
    let v = a.values in
    let all = bytes_by_sections v in record {
      written = written (contents_for v) a.out.now (sound (goal.at.returns c).In_default) (omega (arith, c.length_of.ensures, c.if-out-length_of.false)) _ _
          (read_as all (c.put_lead-codes.ensures then (c.put_section-rows.ensures then (c.put_section-policies.ensures then c.put_section.ensures))));
      limit = refl;
    }
