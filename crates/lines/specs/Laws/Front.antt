-- The first `enough` bytes of a string decide its sheet: the longest book has one less, and the reader's reply to a longer string is that to its
-- front. Assumes nothing.
use Rattle.std.specs.Prelude.{◌≡◌, List, ℕ, ◌≤◌, length, take}
use Rattle.std.proofs.Common.{sym, ap, ◌∙◌, ⊎_elim, arith, take_all, take-take, ltb-false}
use Rattle.roster.proofs.Laws.Rulings.{inside}
use Rattle.book.specs.Reading.{count_at, past, form_of, front, read_of}
use Rattle.book.proofs.Laws.Books.{rows_at, policies_at, BookSound, Good, Refused, reply}
use Rattle.book.proofs.Laws.Prefix.{near_front, near_row, near_policy, prefix_reply}
use Rattle.book.specs.declared.Form.{Form}
use Rattle.lines.specs.Sheet.{sheet_by, sheet_of, enough}

-- a book without fault is no longer than its counts allow, in every form
pub sound_short : (form : Form) (book : List ℕ) → BookSound form book → length book ≤ 1092
unfolding past
sound_short form book s =
    let listed : count_at book (front form) ≤ 32 = (inside 32 (count_at book (front form)) s.first.in_range).1 in
    let many : count_at book (rows_at form book) ≤ 64 = ltb-false 64 (count_at book (rows_at form book)) s.second.in_range in
    let asked : count_at book (policies_at form book) ≤ 32 = ltb-false 32 (count_at book (policies_at form book)) s.third.in_range in
    omega (arith, s.ends, near_front form, near_row form (count_at book (rows_at form book)) many, near_policy form (count_at book (policies_at form book)) asked)

-- the reply to a front of at least 1093 bytes
pub front_reply : (n : ℕ) (book : List ℕ) → 1093 ≤ n → read_of (take n book) ≡ read_of book
front_reply n book h = prefix_reply (take n book) ∙ ap read_of (take-take 1093 n book h) ∙ sym (prefix_reply book)

-- the sheet of any string is that of its front
pub sheet_front : (book : List ℕ) → sheet_of (take enough book) ≡ sheet_of book
unfolding sheet_of sheet_by
sheet_front book = ⊎_elim good refused (reply book)
  where
    good : Good book → sheet_of (take enough book) ≡ sheet_of book
    good g = ap sheet_of (take_all enough book (omega (arith, sound_short (form_of book) book g.sound)))

    refused : Refused book → sheet_of (take enough book) ≡ sheet_of book
    refused r =
        ap (sheet_by (take enough book)) (front_reply enough book (omega arith) ∙ r.reply) ∙ sym (ap (sheet_by book) r.reply)
