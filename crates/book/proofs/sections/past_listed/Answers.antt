use mathlib.Core.Path.{sym}
use native.Mathlib.Nat.{lt_of_lt_of_le}
use lib.Pow.{pow_mono}
use borrow.Author.Tests.{lt-leb}
use Rattle.sets.specs.Laws.Tests.{shifted}
use Rattle.book.proofs.sections.past_listed.Goals as goal

pub returns-then-listed-ge-PERMISSIONS : goal.returns-then-listed-ge-PERMISSIONS
returns-then-listed-ge-PERMISSIONS c = sym (lt-leb _ _ (lt_of_lt_of_le c.ranges.set.fits (pow_mono c.if-listed-ge-PERMISSIONS.true)))

pub returns : goal.returns
returns c = shifted c.args.listed c.args.set
