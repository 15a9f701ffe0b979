-- That the definitions mean what they should. Assumes nothing.
use Rattle.std.specs.Prelude.{◌≡◌, List, ℕ, Ok, take}
use Rattle.std.proofs.Common.{ap, ◌∙◌}
use Rattle.lines.specs.Sheet.{sheet_of, enough}
use Rattle.lines.specs.Laws.Front.{sheet_front}
use Rattle.sheet.specs.Said.{text_of}

-- If reading put the input's first bytes at the front of the buffer, as many as decide its sheet, then what is said is the sheet of the whole
-- input, however long that is.
pub said_of_input : (E : Type 0) (input buffer : List ℕ) (n : ℕ) → take n buffer ≡ take enough input → text_of {E = E} buffer (Ok n) ≡ sheet_of input
unfolding text_of
said_of_input E input buffer n e = ap sheet_of e ∙ sheet_front input
