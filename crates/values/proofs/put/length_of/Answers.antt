-- The widths of the entries times their counts, which are small. Assumes nothing.
use mathlib.Core.Path.{◌≡◌, ◌∙◌}
use Prim.Native.Nat.{ℕ, ◌+◌, ◌*◌, ◌≤◌}
use native.Mathlib.Omega.{arith}
use Rattle.book.proofs.Laws.Prefix.{near_front, near_row, near_policy}
use Rattle.book.specs.declared.Section.TheVariants.{Permissions, Rows, Policies}
use Rattle.values.proofs.Puts.{book_length}
use Rattle.values.proofs.put.length_of.Goals as goal
use Rattle.values.proofs.put.length_of.Goals.{After-count_of-policies}

-- each count is within its limit, and neither a row nor a policy is wide
few : (c : After-count_of-policies) → (c.front-front.result ≤ 1) × (c.count_of-codes.result ≤ 32) × (c.row_width-wide.result * c.count_of-rows.result ≤ 768) × (c.policy_width-asked.result * c.count_of-policies.result ≤ 256)
few c = let form = c.args.values.now.form in (
  omega (arith, c.front-front.ensures, near_front form),
  omega (arith, c.count_of-codes.ensures, c.requires Permissions),
  rw c.row_width-wide.ensures (near_row form c.count_of-rows.result (omega (arith, c.count_of-rows.ensures, c.requires Rows))),
  rw c.policy_width-asked.ensures (near_policy form c.count_of-policies.result (omega (arith, c.count_of-policies.ensures, c.requires Policies))),
)

pub overflow_add-result-2 : goal.overflow_add-result-2
overflow_add-result-2 c = omega (arith, few (goal.at.overflow_add-result-2 c).After-count_of-policies)

pub overflow_mul-result : goal.overflow_mul-result
overflow_mul-result c = omega (arith, few (goal.at.overflow_mul-result c).After-count_of-policies)

pub overflow_mul-result-2 : goal.overflow_mul-result-2
overflow_mul-result-2 c = omega (arith, few (goal.at.overflow_mul-result-2 c).After-count_of-policies)

pub overflow_add-result-3 : goal.overflow_add-result-3
overflow_add-result-3 c = omega (arith, few (goal.at.overflow_add-result-3 c).After-count_of-policies)

pub overflow_mul-result-3 : goal.overflow_mul-result-3
overflow_mul-result-3 c = omega (arith, few (goal.at.overflow_mul-result-3 c).After-count_of-policies)

pub overflow_add-result-4 : goal.overflow_add-result-4
overflow_add-result-4 c = omega (arith, few (goal.at.overflow_add-result-4 c).After-count_of-policies)

-- the length by what was asked
by_parts : {f f' c c' w w' r r' q q' p p' : ℕ} → f ≡ f' → c ≡ c' → w ≡ w' → r ≡ r' → q ≡ q' → p ≡ p'
    → f + 3 + 2 * c + w * r + q * p ≡ f' + 3 + 2 * c' + w' * r' + q' * p'
by_parts e₁ e₂ e₃ e₄ e₅ e₆ = rw (e₁, e₂, e₃, e₄, e₅, e₆)

pub returns : goal.returns
returns c = by_parts c.front-front.ensures c.count_of-codes.ensures c.row_width-wide.ensures c.count_of-rows.ensures c.policy_width-asked.ensures c.count_of-policies.ensures
    ∙ book_length c.args.values.now
