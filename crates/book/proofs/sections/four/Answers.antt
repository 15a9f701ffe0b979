use mathlib.Core.Path.{sym}
use native.Mathlib.Omega.{arith}
use Rattle.book.proofs.Numbers.{number_past, number_4}
use Rattle.book.proofs.sections.four.Goals as goal

pub returns-then-at-book : goal.returns-then-at-book
returns-then-at-book c = sym (number_past 4 _ _ c.if-at-book.true)

pub returns : goal.returns
returns c = omega (arith, number_4 c.args.book.now c.args.at)
