-- The reader's reply picks the `bad` line of a refused book or the table of a good one. A buffer that is as long as the longest table has room for
-- either (`shown-fits`), and what is appended at its front leaves the rest as it was. Assumes nothing.
use Rattle.std.specs.Prelude.{Result, Ok, Err}
use Rattle.std.proofs.Common.{◌≡◌, ℕ, ◌+◌, ◌≤◌, List, ◌++◌, length, drop, sym, refl, ap, ◌∙◌, subst, arith}
use lib.Seq.{sets-eq}
use Rattle.book.specs.Faults.{fault_number}
use Rattle.book.specs.Reading.{read_of}
use Rattle.book.specs.Promises.{Bytes}
use Rattle.book.specs.declared.Starts.{Starts}
use Rattle.text.specs.Text.{Room, Appended}
use Rattle.text.specs.Laws.Appends.{read_as, all_stand, all_past}
use Rattle.lines.specs.Lines.{bad_line}
use Rattle.values.specs.Values.{contents_for, values_of}
use Rattle.values.specs.Inner.Looks.{Counted}
use Rattle.values.proofs.Laws.OfBook.{values_of_good}
use Rattle.values.specs.declared.Values.{Values}
use Rattle.table.specs.Table.{table_text_of}
use Rattle.table.specs.Shown.{shown_by, shown_of, shown_as, longest, Shows}
use Rattle.table.specs.declared.Shown.{Shown}
use Rattle.lines.specs.declared.TooShort.{TooShort}
use Rattle.table.specs.Laws.Counted.{book_counted}
use Rattle.table.proofs.Laws.Length.{shown-fits}
use Rattle.table.proofs.show.Goals as goal
use Rattle.table.proofs.show.Goals.{After-shared_slice_known-1}
use Rattle.book.specs.declared.FaultAt.{FaultAt}

-- ---- a buffer that is long enough

abbrev shown : Shown → Result Shown TooShort
shown s = Ok s

module _ (book old : List ℕ) (bytes : Bytes book) (long : longest ≤ length old) where
  roomy : Room (shown_of book) old 0
  roomy = omega (arith, shown-fits book bytes)

  promised : (r : Result Starts FaultAt) → r ≡ read_of book → (new : List ℕ) (n : ℕ) → Appended (shown_of book) old 0 new n → Shows book old new (Ok (shown_as r n))
  promised r e new n a = record {
    written = λ h. (
      ap (λ (q : Result Starts FaultAt). shown (shown_as q n)) e ∙ ap (λ (k : ℕ). shown (shown_as (read_of book) k)) (all_past roomy a ∙ front),
      all_stand roomy a ∙ sets-eq (shown_of book) old 0 roomy ∙ ap (λ (k : ℕ). shown_of book ++ drop k old) front,
    );
    short = λ h. absurd (omega arith);
  }
    where
      front : ◌≡◌ {A = ℕ} (0 + length (shown_of book)) (length (shown_of book))
      front = omega arith

-- ---- what is shown, by the reader's reply

bad : (book : List ℕ) (x : FaultAt) (n : ℕ) → Err x ≡ read_of book → n ≡ fault_number x.fault → bad_line n x.place ≡ shown_of book
unfolding shown_of shown_by
bad book x n e k = ap (λ (y : ℕ). bad_line y x.place) k ∙ ap (shown_by book) e

good : (book : List ℕ) (s : Starts) (v : Values) → Bytes book → Ok s ≡ read_of book → v ≡ values_of book → table_text_of (contents_for v) ≡ shown_of book
unfolding shown_of shown_by
good book s v bytes e k =
    ap (λ (x : Values). table_text_of (contents_for x)) k ∙ ap table_text_of (values_of_good book s bytes (sym e)) ∙ ap (shown_by book) e

-- the book is a byte string
is_bytes : (c : After-shared_slice_known-1) → Bytes c.args.book.now
is_bytes c i = (c.shared_slice_known-1.given i).fits

pub put_table-requires : goal.put_table-requires
put_table-requires c = subst Counted (sym c.of_book.ensures.reply) (book_counted c.args.book.now (is_bytes (goal.at.put_table-requires c).After-shared_slice_known-1))

pub returns-in-Err : goal.returns-in-Err
returns-in-Err c = let a = c.args in
    let e = sym c.in-Err.is ∙ c.read.ensures.reply in record {
      shown = promised a.book.now a.out.now (is_bytes (goal.at.returns-in-Err c).After-shared_slice_known-1) c.if-out-lt-LONGEST.false (Err c.in-Err.refused) e _ _
          (read_as (bad a.book.now c.in-Err.refused c.number.result e c.number.ensures) c.bad_line.ensures);
      kept = refl;
      limit = refl;
    }

pub returns-in-Ok : goal.returns-in-Ok
returns-in-Ok c = let a = c.args in
    let e = sym c.in-Ok.is ∙ c.read.ensures.reply in record {
      shown = promised a.book.now a.out.now (is_bytes (goal.at.returns-in-Ok c).After-shared_slice_known-1) c.if-out-lt-LONGEST.false (Ok c.in-Ok.field-0) e _ _
          (read_as (good a.book.now c.in-Ok.field-0 c.of_book.result (is_bytes (goal.at.returns-in-Ok c).After-shared_slice_known-1) e c.of_book.ensures.reply) c.put_table.ensures);
      kept = refl;
      limit = refl;
    }
