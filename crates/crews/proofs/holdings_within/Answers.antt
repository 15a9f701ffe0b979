-- The rows passed have their holdings within the task, and the others still 0, as past the count they are to be. Assumes nothing.
use mathlib.Core.Path.{◌≡◌, sym, ap, ◌∙◌}
use mathlib.Core.Bool.{Bool, true, false}
use mathlib.Core.List.{List}
use Prim.Native.Nat.{ℕ, ◌<◌}
use native.Mathlib.Omega.{arith}
use borrow.Author.Tests.{le-leb}
use Rattle.std.specs.Prelude.{min}
use Rattle.std.proofs.Math.Decide.{dec_lt}
use Rattle.roster.specs.declared.Table.{Table}
use Rattle.roster.specs.Meaning.{held}
use Rattle.crews.specs.Filling.{holds_of}
use Rattle.sets.specs.Arrays.{tabulate, at}
use Rattle.sets.specs.Laws.Arrays.{Passed, passed_none, tabulated}
use Rattle.crews.proofs.holdings_within.Goals as goal

-- what is filled up to the count is filled
whole : (table : Table) (task k : ℕ) (l : List ℕ) → Passed 0 64 (holds_of table task) k l → k ≡ min table.rows 64 → l ≡ tabulate 64 (holds_of table task)
whole table task k l p e = tabulated 0 64 (holds_of table task) l p.long (λ i b. go i b (dec_lt i k))
  where
    go : (i : ℕ) → i < 64 → Dec (i < k) → at l i ≡ holds_of table task i
    go i b (yes j) = p.passed i j
    go i b (no n) =
        p.ahead i (omega arith)
        ∙ sym (ap (λ (x : Bool). elim x [ true ↦ 0 | false ↦ held table task i ]) (le-leb table.rows i (omega (arith, e, n))))

pub loop-row-init : goal.loop-row-init
loop-row-init c = passed_none 0 64 (holds_of c.args.table c.args.task)

pub returns : goal.returns
returns c = whole c.args.table c.args.task c.loop-row.row c.loop-row.within c.loop-row.invariant (omega arith)
