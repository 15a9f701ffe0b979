-- Who has to be absent with whom, and which ranks are open: not decided yet, and of a row that no row passed over outweighs. Nothing here is
-- proved: these are definitions. That the list of absences goes by the open ranks alone is shown in proofs/Laws/Open.
use Rattle.std.specs.Prelude.{ℕ, ◌≤◌, ◌<◌}
use Rattle.sets.specs.Members.{set_of}
use Rattle.sets.specs.Sets.{Has}
use Rattle.roster.specs.declared.Table.{Table}
use Rattle.roster.specs.Meaning.{Outweighs, outweighsb, rank}
use Rattle.absences.specs.declared.Way.{Way}
use Rattle.absences.specs.declared.Way.TheVariants.{Full, Skipping}
use Rattle.absences.specs.Tried.{row_at}

-- u has to be absent where v is: never, or if it outweighs v
abbrev pub Must : Way → Table → ℕ → ℕ → ℕ → Type 0
Must Full table P u v = ⊥
Must Skipping table P u v = Outweighs table P u v

-- A is an absence that this search tries: whoever has to be absent with one of its rows is
abbrev pub Kept : Way → Table → ℕ → ℕ → Type 0
Kept way table P A = (u v : ℕ) → u < table.rows → Has A v → Must way table P u v → Has A u

-- the ranks below r are decided and F has the rows taken of them: whoever of the others has to be absent with the row of rank i is in F
abbrev pub Unbarred : Way → Table → ℕ → ℕ → ℕ → ℕ → Type 0
Unbarred way table P r F i = (u : ℕ) → u < table.rows → rank table P u < r → Must way table P u (row_at table P i) → Has F u

-- `ranks` has the open ranks from r on, and no others
pub record Opens (way : Way) (table : Table) (P r F ranks : ℕ) : Type 0 where
  pub within : r ≤ table.rows
  pub taken : (u : ℕ) → Has F u → rank table P u < r
  pub later : (i : ℕ) → Has ranks i → (r ≤ i) × (i < table.rows)
  pub free : (i : ℕ) → Has ranks i → Unbarred way table P r F i
  pub all : (i : ℕ) → r ≤ i → i < table.rows → Unbarred way table P r F i → Has ranks i

-- the ranks that are closed where the row of rank r is passed over: none, or those whose rows it outweighs
abbrev pub outweighed_at : Way → Table → ℕ → ℕ → ℕ
outweighed_at Full table P r = 0
outweighed_at Skipping table P r = set_of table.rows (λ i. outweighsb table P (row_at table P r) (row_at table P i))
