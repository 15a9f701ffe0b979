-- What the reader replies says where the sections are taken to start. Assumes nothing.
use mathlib.Core.Path.{ap, ◌∙◌}
use Rattle.book.specs.Parts.{starts_in, starts_by}
use Rattle.book.proofs.starts_in.Goals as goal

pub returns-clause-reply : goal.returns-clause-reply
unfolding starts_in
returns-clause-reply c = c.unwrap_or.ensures ∙ ap (starts_by c.args.book.now) c.read.ensures.reply
