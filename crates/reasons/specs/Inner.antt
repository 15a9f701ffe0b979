-- What the functions below `why` ask. Only proofs need it.
use Rattle.std.specs.Prelude.{◌≡◌, true, false, ℕ, ◌≤◌, ltb, Option, Some, None, Ok}
use Rattle.roster.specs.declared.Table.{Table}
use Rattle.roster.specs.Meaning.{Blocks}
use Rattle.roster.specs.Refusals.{named_ruling}
use Rattle.crews.specs.Named.{need_named}

-- what is known where a reason is looked for: the question is admitted and decided, and the absence blocks
pub record Stuck (table : Table) (P d t ed A allowance : ℕ) : Type 0 where
  pub admitted : named_ruling table.rows P d t ed A ≡ Ok tt
  pub decided : need_named table P d t ed A ≤ allowance
  pub blocks : Blocks table P d t ed A

-- the permission with this bit number, if there is one
abbrev pub permission_of : ℕ → Option ℕ
permission_of p = elim (ltb p 32) [ true ↦ Some p | false ↦ None ]
