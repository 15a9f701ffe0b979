-- What a program says, and on which stream. Nothing here is proved: these are definitions.
use Rattle.std.specs.Prelude.{◌≡◌, List, ◌++◌, ℕ, ℤ, pos, length, drop}
use Rattle.output.specs.declared.Said.{Said}

-- the streams: standard output and standard error
abbrev pub output : ℤ
output = pos 1

abbrev pub errors : ℤ
errors = pos 2

-- this text is said on this stream: it stands at the front of the buffer, whose rest is as it was
pub record Says (stream : ℤ) (text old new : List ℕ) (r : Said) : Type 0 where
  pub on : r.stream ≡ stream
  pub long : r.length ≡ length text
  pub front : new ≡ text ++ drop (length text) old
