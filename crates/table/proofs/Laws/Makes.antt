-- One table has one book, and what is made is the layout of admitted values. Assumes nothing.
use Rattle.std.specs.Prelude.{◌≡◌, ℕ, List, take}
use Rattle.std.proofs.Common.{sym, ◌∙◌}
use Rattle.book.specs.Layout.{LayoutOf}
use Rattle.book.specs.Parts.{contents_of}
use Rattle.book.specs.Promises.{Bytes}
use Rattle.book.proofs.Laws.Books.{good_layout}
use Rattle.table.specs.Making.{BookOf, IsMade}
use Rattle.table.proofs.Laws.Tells.{table_tells}

-- two books of one text are one book, byte for byte
pub make_same : (text a b : List ℕ) → Bytes a → Bytes b → BookOf text a → BookOf text b → a ≡ b
make_same text a b h k p q = table_tells a b p.starts q.starts h k p.good q.good (p.says ∙ sym q.says)

-- what is made is a layout
pub made_layout : (text old new : List ℕ) (n : ℕ) → Bytes (take n new) → IsMade text old new n → LayoutOf (contents_of (take n new)) (take n new)
made_layout text old new n h made = good_layout (take n new) made.book.starts h made.book.good
