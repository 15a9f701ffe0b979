use mathlib.Core.Path.{sym}
use native.Mathlib.Omega.{arith}
use Rattle.book.proofs.Numbers.{number_past, number_2}
use Rattle.book.proofs.sections.two.Goals as goal

pub returns-then-at-book : goal.returns-then-at-book
returns-then-at-book c = (sym (number_past 2 _ _ c.if-at-book.true), omega arith)

pub returns : goal.returns
returns c = (omega (arith, number_2 c.args.book.now c.args.at), omega arith)
