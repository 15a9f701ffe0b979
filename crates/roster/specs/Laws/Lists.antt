-- The ranks of an absence, by whose lists absences stand in order (proofs/Laws/Lists).
use Rattle.std.specs.Prelude.{ℕ}
use mathlib.Core.List.{List}
use Rattle.sets.specs.Members.{members}
use Rattle.roster.specs.declared.Table.{Table}
use Rattle.roster.specs.Meaning.{rank}
use Rattle.sets.proofs.Laws.Image.{image}

-- the ranks of A's rows, in ascending order
unfoldable pub ranks : Table → ℕ → ℕ → List ℕ
ranks table P A = members 0 table.rows (image (rank table P) table.rows A)
