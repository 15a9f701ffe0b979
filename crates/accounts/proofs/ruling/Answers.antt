-- More than 64 rows are refused, and nothing else. Assumes nothing.
use mathlib.Core.Path.{sym}
use Rattle.accounts.proofs.Laws.Rulings.{many_refused, few_admitted}
use Rattle.accounts.proofs.ruling.Goals as goal

pub returns-then-accounts-gt-ROWS : goal.returns-then-accounts-gt-ROWS
returns-then-accounts-gt-ROWS c = sym (many_refused c.args.accounts c.if-accounts-gt-ROWS.true)

pub returns : goal.returns
returns c = sym (few_admitted c.args.accounts c.if-accounts-gt-ROWS.false)
