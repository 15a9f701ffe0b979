-- A book is copied only if it is told. Assumes nothing.
use Rattle.table.proofs.Made.{made_makes}
use Rattle.table.proofs.copied.Goals as goal

pub returns-then-is_told : goal.returns-then-is_told
returns-then-is_told c = made_makes _ _ _ _ c.word.ensures.appended _ (c.is_told.ensures c.if-is_told.true) c.if-book-out.true
