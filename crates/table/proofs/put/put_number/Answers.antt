-- The number after its comma, or nothing. Assumes nothing.
use Rattle.std.proofs.Common.{◌≡◌, ℕ, ◌∷◌, ap, ◌∙◌, rules}
use Rattle.text.specs.Text.{comma, decimal}
use Rattle.text.specs.Laws.Appends.{none, read_as}
use Rattle.table.proofs.Puts.{present, absent}
use Rattle.table.proofs.put.put_number.Goals as goal

pub returns-then-not-there : goal.returns-then-not-there
returns-then-not-there c = let a = c.args in
    read_as (absent (decimal a.n) c.if-not-there.true) (none _ _)

pub returns : goal.returns
returns c =
    let same : c.from.result ≡ c.args.n = search rules in
    read_as (ap (λ (n : ℕ). comma ∷ decimal n) same ∙ present c.if-not-there.false) c.number.ensures
