-- The first `enough` bytes of a string decide what is shown of it, as they decide its sheet. Assumes nothing.
use Rattle.std.specs.Prelude.{◌≡◌, ℕ, List, take}
use Rattle.std.proofs.Common.{sym, ap, ◌∙◌, ⊎_elim, arith, take_all}
use Rattle.book.specs.Reading.{form_of}
use Rattle.book.proofs.Laws.Books.{Good, Refused, reply}
use Rattle.lines.specs.Sheet.{enough}
use Rattle.lines.specs.Laws.Front.{sound_short, front_reply}
use Rattle.table.specs.Shown.{shown_by, shown_of}

pub shown-front : (book : List ℕ) → shown_of (take enough book) ≡ shown_of book
unfolding shown_of shown_by
shown-front book = ⊎_elim good refused (reply book)
  where
    good : Good book → shown_of (take enough book) ≡ shown_of book
    good g = ap shown_of (take_all enough book (omega (arith, sound_short (form_of book) book g.sound)))

    refused : Refused book → shown_of (take enough book) ≡ shown_of book
    refused r =
        ap (shown_by (take enough book)) (front_reply enough book (omega arith) ∙ r.reply) ∙ sym (ap (shown_by book) r.reply)
