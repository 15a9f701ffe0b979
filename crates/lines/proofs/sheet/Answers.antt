-- The reader's reply picks the line of a refused book or the lines of a good one. A buffer that is as long as the longest sheet has room for this
-- one (`sheet_fits`), and what is appended at its front leaves the rest as it was. Assumes nothing.
-- ---- a buffer that is long enough
-- ---- the sheet by the reader's reply
use Rattle.std.specs.Prelude.{Result, Ok, Err}
use mathlib.Core.Path.{◌≡◌, refl, sym, ap, ◌∙◌}
use mathlib.Core.List.{List, ◌++◌}
use Prim.Native.Nat.{ℕ, ◌+◌, ◌≤◌}
use native.Mathlib.Omega.{arith}
use lib.ListN.{length, drop}
use lib.Seq.{sets-eq}
use Rattle.book.specs.Faults.{fault_number}
use Rattle.book.specs.Reading.{read_of}
use Rattle.book.specs.Parts.{policy_count_of}
use Rattle.book.specs.Promises.{Bytes}
use Rattle.book.specs.declared.Starts.{Starts}
use Rattle.lines.specs.declared.TooShort.{TooShort}
use Rattle.text.specs.Text.{Room, Appended}
use Rattle.lines.specs.Lines.{bad_line}
use Rattle.lines.specs.Sheet.{lines_from, sheet_by, sheet_of, longest, Promised}
use Rattle.lines.specs.Laws.Fits.{sheet_fits}
use Rattle.text.specs.Laws.Appends.{read_as, all_stand, all_past}
use Rattle.lines.proofs.sheet.Goals as goal
use Rattle.book.specs.declared.FaultAt.{FaultAt}

abbrev so_many : ℕ → Result ℕ TooShort
so_many n = Ok n

module _ (book old : List ℕ) (bytes : Bytes book) (long : longest ≤ length old) where
  roomy : Room (sheet_of book) old 0
  roomy = omega (arith, sheet_fits book bytes)

  promised : (new : List ℕ) (n : ℕ) → Appended (sheet_of book) old 0 new n → Promised book old new (Ok n)
  promised new n a = record {
    written = λ h. (
      ap so_many (all_past roomy a ∙ front),
      all_stand roomy a ∙ sets-eq (sheet_of book) old 0 roomy ∙ ap (λ (k : ℕ). sheet_of book ++ drop k old) front,
    );
    short = λ h. absurd (omega arith);
  }
    where
      front : ◌≡◌ {A = ℕ} (0 + length (sheet_of book)) (length (sheet_of book))
      front = omega arith

bad : (book : List ℕ) (r : Result Starts FaultAt) (e : FaultAt) (n : ℕ) → r ≡ read_of book → r ≡ Err e → n ≡ fault_number e.fault
    → bad_line n e.place ≡ sheet_of book
unfolding sheet_of sheet_by
bad book r e n h q k = ap (λ (x : ℕ). bad_line x e.place) k ∙ ap (sheet_by book) (sym q ∙ h)

good : (book : List ℕ) (r : Result Starts FaultAt) (s : Starts) → r ≡ read_of book → r ≡ Ok s → lines_from book 0 (policy_count_of book) ≡ sheet_of book
unfolding sheet_of sheet_by
good book r s e q = ap (sheet_by book) (sym q ∙ e)

pub returns-in-Err : goal.returns-in-Err
returns-in-Err c =
    let a = c.args in
    let one : bad_line c.number.result c.in-Err.refused.place ≡ sheet_of a.book.now =
    bad a.book.now c.read.result c.in-Err.refused c.number.result c.read.ensures.reply c.in-Err.is c.number.ensures in
    record {
      sheet = promised a.book.now a.out.now (λ i. (c.type_inv.book i).fits) c.if-out-lt-LONGEST.false _ _ (read_as one c.bad_line.ensures);
      kept = refl;
      limits = (refl, refl, refl);
    }

pub returns-in-Ok : goal.returns-in-Ok
returns-in-Ok c =
    let a = c.args in
    let lines : lines_from a.book.now 0 (policy_count_of a.book.now) ≡ sheet_of a.book.now =
    good a.book.now c.read.result c.in-Ok.field-0 c.read.ensures.reply c.in-Ok.is in
    record {
      sheet = promised a.book.now a.out.now (λ i. (c.type_inv.book i).fits) c.if-out-lt-LONGEST.false _ _ (read_as lines c.all_lines.ensures);
      kept = refl;
      limits = (refl, refl, refl);
    }
