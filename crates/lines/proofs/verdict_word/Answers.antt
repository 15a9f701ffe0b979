-- Each arm writes the word of its verdict. Assumes nothing.
use mathlib.Core.Path.{sym, ap}
use Rattle.text.specs.Laws.Appends.{none, read_as}
use Rattle.lines.specs.Lines.{verdict_word}
use Rattle.lines.proofs.Verdicts.{no_word}
use Rattle.lines.proofs.verdict_word.Goals as goal

pub returns-in-Yes : goal.returns-in-Yes
unfolding verdict_word
returns-in-Yes c = read_as (ap verdict_word (sym c.in-Yes.is)) c.word.ensures.appended

pub returns-in-No : goal.returns-in-No
unfolding verdict_word
returns-in-No c = read_as (ap verdict_word (sym c.in-No.is)) c.word-in-No.ensures.appended

pub returns-in-Undecided : goal.returns-in-Undecided
unfolding verdict_word
returns-in-Undecided c = read_as (ap verdict_word (sym c.in-Undecided.is)) c.word-in-Undecided.ensures.appended

pub returns-in_default : goal.returns-in_default
returns-in_default c = read_as (sym (no_word c.args.verdict c.in_default.not-Yes c.in_default.not-No c.in_default.not-Undecided)) (none _ _)
