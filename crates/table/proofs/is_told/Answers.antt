-- A text that does not fill the buffer stands there whole. Assumes nothing.
use Rattle.std.proofs.Common.{ℕ, List, subst}
use Rattle.table.specs.Making.{BookOf}
use Rattle.table.proofs.Made.{all_fit}
use Rattle.table.proofs.is_told.Goals as goal

pub returns-then-length-lt-ROOM : goal.returns-then-length-lt-ROOM
returns-then-length-lt-ROOM c = let book = c.args.book.now in
    λ e. subst (λ (l : List ℕ). BookOf l book) (all_fit _ _ _ _ c.put_tidy-length.ensures 8285 c.text-2-1.given c.if-length-lt-ROOM.true) (c.is_shown.ensures e)
