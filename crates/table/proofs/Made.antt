-- What is written is a book of the table, or nothing is written. Assumes nothing.
use Rattle.std.proofs.Common.{◌≡◌, ℕ, ◌+◌, ◌-◌, ◌<◌, ◌≤◌, List, ◌++◌, Result, Ok, Err, length, take, drop, sym, refl, ap, ◌∙◌, subst, arith, length-take}
use native.Mathlib.Decide.{dec_lt}
use lib.Seq.{sets-eq, take-append_seam, drop-append_seam}
use Rattle.text.specs.Text.{Room, Appended}
use Rattle.text.specs.Laws.Appends.{same, all_stand, all_past}
use Rattle.book.specs.Reading.{read_of}
use Rattle.book.specs.Parts.{contents_of}
use Rattle.book.specs.declared.Starts.{Starts}
use Rattle.table.specs.Table.{table_text_of}
use Rattle.table.specs.Understood.{tidy}
use Rattle.table.specs.Shown.{shown_by, shown_of, shown_as, longest, Shows}
use Rattle.table.specs.Inner.Fitting.{between}
use Rattle.table.specs.Making.{BookOf, IsMade, MakesOf}
use Rattle.table.specs.declared.Shown.{Shown}
use Rattle.table.specs.declared.Shown.TheVariants as shown
use Rattle.lines.specs.declared.TooShort.{TooShort}
use Rattle.table.specs.declared.NotMade.{NotMade}
use Rattle.book.specs.declared.FaultAt.{FaultAt}

pub front : (n : ℕ) (l : List ℕ) → between 0 n l ≡ take n l
front n l =
    let e : n - 0 ≡ n = omega arith in
    ap (λ (k : ℕ). take k l) e

-- ---- what was put at the front of a buffer

module _ (bytes old new : List ℕ) (n : ℕ) (a : Appended bytes old 0 new n) where
  stands : Room bytes old 0 → (n ≡ length bytes) × (new ≡ bytes ++ drop (length bytes) old)
  stands r =
      let e : ◌≡◌ {A = ℕ} (0 + length bytes) (length bytes) = omega arith in
      (all_past r a ∙ e, all_stand r a ∙ sets-eq bytes old 0 r ∙ ap (λ (k : ℕ). bytes ++ drop k old) e)

  -- what does not fill the buffer stands there whole
  pub all_fit : (m : ℕ) → length new ≡ m → n < m → take n new ≡ bytes
  all_fit m e h =
      let room : Room bytes old 0 = omega (arith, a.past, length-take (length old - 0) bytes, same a) in
      let p = stands room in
      ap (λ (k : ℕ). take k new) p.0 ∙ ap (take (length bytes)) p.1 ∙ take-append_seam bytes (drop (length bytes) old)

  pub made_makes : (text : List ℕ) → BookOf text bytes → length bytes ≤ length old → MakesOf text old new (Ok n)
  made_makes text book h = record {
    made = λ k e.
        let same : n ≡ k = cc in
        subst (IsMade text old new) same (record {
          room = omega (arith, p.0);
          book = subst (BookOf text) (sym (ap (λ (i : ℕ). take i new) p.0 ∙ ap (take (length bytes)) p.1 ∙ take-append_seam bytes (drop (length bytes) old))) book;
          kept =
              ap (λ (i : ℕ). drop i new) p.0
              ∙ ap (drop (length bytes)) p.1
              ∙ drop-append_seam bytes (drop (length bytes) old)
              ∙ sym (ap (λ (i : ℕ). drop i old) p.0);
        });
    wrong = λ t e. let z : ◌≡◌ {A = ℕ} 0 1 = cc in absurd (omega arith);
    long = λ e. let z : ◌≡◌ {A = ℕ} 0 1 = cc in omega arith;
  }
    where
      p : (n ≡ length bytes) × (new ≡ bytes ++ drop (length bytes) old)
      p = stands (omega arith)

-- the same text by another name
pub retold : {a b old new : List ℕ} {r : Result ℕ NotMade} → a ≡ b → MakesOf (tidy a) old new r → MakesOf (tidy b) old new r
retold {old = old} {new = new} {r = r} e m = subst (λ (l : List ℕ). MakesOf (tidy l) old new r) e m

-- ---- a book is shown as this text

shown_good : (book : List ℕ) (s : Starts) → read_of book ≡ Ok s → shown_of book ≡ table_text_of (contents_of book)
unfolding shown_of shown_by
shown_good book s e = ap (shown_by book) e

abbrev ready : Shown → Result Shown TooShort
ready s = Ok s

pub is_book : (book old new text : List ℕ) (r : Result Shown TooShort) (n : ℕ) → Shows book old new r → r ≡ Ok (shown.Table n) → take n new ≡ text → BookOf text book
is_book book old new text r n s t same = go (dec_lt (length old) longest)
  where
    good : longest ≤ length old → (rd : Result Starts FaultAt) → read_of book ≡ rd → BookOf text book
    good long (Ok starts) e =
        let w = s.written long in
        let q : r ≡ Ok (shown.Table (length (shown_of book))) = w.0 ∙ ap (λ (x : Result Starts FaultAt). ready (shown_as x (length (shown_of book)))) e in
        let k : n ≡ length (shown_of book) = cc in
        record {
          starts = starts;
          good = e;
          says =
              sym (shown_good book starts e)
              ∙ sym (take-append_seam (shown_of book) (drop (length (shown_of book)) old))
              ∙ ap (take (length (shown_of book))) (sym w.1)
              ∙ ap (λ (i : ℕ). take i new) (sym k)
              ∙ same;
        }
    good long (Err x) e =
        let w = s.written long in
        let q : r ≡ Ok (shown.Bad (length (shown_of book))) = w.0 ∙ ap (λ (x : Result Starts FaultAt). ready (shown_as x (length (shown_of book)))) e in
        let z : ◌≡◌ {A = ℕ} 0 1 = cc in
        absurd (omega arith)

    go : Dec (length old < longest) → BookOf text book
    go (yes h) = let e = (s.short h).0 in let z : ◌≡◌ {A = ℕ} 0 1 = cc in absurd (omega arith)
    go (no h) = good (omega arith) (read_of book) refl
