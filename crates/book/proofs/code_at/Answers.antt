-- The number that stands at the code's place. Assumes nothing.
use mathlib.Core.Path.{sym, ap, ◌∙◌}
use Rattle.std.specs.Prelude.{Some}
use Rattle.book.specs.Reading.{fields_at}
use Rattle.book.specs.Parts.{code_from}
use Rattle.book.proofs.code_at.Goals as goal

pub returns-clause-reply : goal.returns-clause-reply
unfolding fields_at
returns-clause-reply c = ap Some c.two.ensures.0 ∙ ap (code_from c.args.book.now) (sym c.in_ok-at.was ∙ c.place_of.ensures)
