-- What the program says, and on which stream. Nothing here is proved: these are definitions.
use Rattle.std.specs.Prelude.{List, ℕ, ℤ, Result, Ok, Err, take}
use Rattle.text.specs.Text.{quoted}
use Rattle.lines.specs.Sheet.{sheet_of}
use Rattle.output.specs.Says.{output, errors}

abbrev pub unreadable : List ℕ
unreadable = quoted "sheet: standard input cannot be read\n"

-- what is said of an input: the sheet of a whole one goes to standard output; of one that cannot be read there is a complaint on standard error and nothing else
unfoldable pub stream_of : {E : Type 0} → Result ℕ E → ℤ
stream_of (Ok n) = output
stream_of (Err e) = errors

unfoldable pub text_of : {E : Type 0} → List ℕ → Result ℕ E → List ℕ
text_of buffer (Ok n) = sheet_of (take n buffer)
text_of buffer (Err e) = unreadable
