-- The lines of 01's book B, and of the same staff as a new book, by running the definitions: so that what Printed.antt says of a line is said of lines that there are.
use Rattle.std.specs.Prelude.{◌≡◌, [], ◌∷◌}
use Rattle.std.proofs.Common.{ap}
use Rattle.book.specs.Cases.{book_b, new_b}
use Rattle.text.specs.Text.{quoted}
use Rattle.text.specs.Cut.{longer, lines_of}
use Rattle.lines.specs.Sheet.{sheet_of}
use Rattle.lines.proofs.BookB.{sheet_b, sheet_new_b}

pub lines_b : lines_of (sheet_of book_b) ≡ quoted "0 yes 8 101/102,103" ∷ quoted "1 no 11 101,104" ∷ quoted "2 no 6 -" ∷ []
unfolding lines_of longer
lines_b = ap lines_of sheet_b

pub lines_new_b : lines_of (sheet_of new_b) ≡ quoted "0 yes 6 7/8" ∷ quoted "1 no 8 7,8" ∷ quoted "2 yes 4 7/8/9" ∷ []
unfolding lines_of longer
lines_new_b = ap lines_of sheet_new_b
