-- The cells one after the other are the line. Assumes nothing.
use Rattle.std.proofs.Common.{◌≡◌, ℕ, ◌∷◌, ap, rules}
use Rattle.text.specs.Text.{comma, decimal}
use Rattle.text.specs.Laws.Appends.{◌then◌, read_as}
use Rattle.table.specs.Table.{only_if, marks}
use Rattle.table.proofs.Puts.{policy_parts}
use Rattle.table.proofs.put.put_policy.Goals as goal

pub returns : goal.returns
returns c = let a = c.args in
    let same : c.from.result ≡ a.policy.away = search rules in
    let alike : c.from-2.result ≡ a.policy.size = search rules in
    let away = read_as (ap decimal same) c.decimal-spared.ensures in
    let size = read_as (ap (λ (n : ℕ). comma ∷ decimal n) alike) c.number-sized.ensures in
    read_as
    (policy_parts (decimal a.policy.away) (decimal a.policy.crews) (decimal a.policy.size) (only_if a.editions (decimal a.policy.edition)) (marks a.listed a.policy.task))
    (away then (c.number-crewed.ensures then (size then (c.put_number-named.ensures then (c.put_marks-asked.ensures then c.put.ensures)))))
