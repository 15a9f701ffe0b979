-- Crews in order, without any search: what the first list is like. Nothing here is proved: these are definitions.
use Rattle.std.specs.Prelude.{List, ℕ, ◌≤◌, ◌<◌, get_or}
use Rattle.std.specs.Int.Count.{count_trailing_zeros}
use Rattle.sets.specs.Sets.{Has}
use Rattle.roster.specs.declared.Table.{Table}
use Rattle.roster.specs.Meaning.{held}

-- row u is the lowest of the crew that holds P's lowest permission
pub record Leads (table : Table) (P crew u : ℕ) : Type 0 where
  pub member : Has crew u
  pub holds : Has (held table P u) (count_trailing_zeros 32 P)
  pub lowest : (v : ℕ) → Has crew v → Has (held table P v) (count_trailing_zeros 32 P) → u ≤ v

-- each of the d crews has such a row, and they ascend
pub record InOrder (table : Table) (P d : ℕ) (crews : List ℕ) : Type 0 where
  pub led : (j : ℕ) → j < d → (u : ℕ) × Leads table P (get_or crews j 0) u
  pub ascend : (i j u v : ℕ) → i < j → j < d → Leads table P (get_or crews i 0) u → Leads table P (get_or crews j 0) v → u < v
