-- That the definitions mean what they should. Assumes nothing.
use Rattle.std.specs.Prelude.{◌≡◌, List, ℕ, Ok, take}
use Rattle.std.proofs.Common.{ap, ◌∙◌}
use Rattle.lines.specs.Sheet.{enough}
use Rattle.table.specs.Shown.{shown_of}
use Rattle.table.specs.Laws.Front.{shown-front}
use Rattle.show.specs.Said.{text_of}

-- If reading put the input's first bytes at the front of the buffer, as many as decide, then what is said is what is shown of the whole input, however
-- long that is.
pub said_of_input : (E : Type 0) (input buffer : List ℕ) (n : ℕ) → take n buffer ≡ take enough input → text_of {E = E} buffer (Ok n) ≡ shown_of input
unfolding text_of
said_of_input E input buffer n e = ap shown_of e ∙ shown-front input
