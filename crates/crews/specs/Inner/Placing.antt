-- What the functions below `fill` ask and answer. Only proofs need it: what `fill` answers stands in Filled, without these.
use Rattle.std.specs.Prelude.{◌≢◌, Bool, true, false, ℕ, ◌-◌, ◌^◌, ◌≤◌, ◌<◌, min, eqb, leb}
use Rattle.std.specs.Int.Count.{ones}
use Rattle.sets.specs.Sets.{Has, minus}
use Rattle.roster.specs.Limits.{row_limit, crew_limit}
use Rattle.crews.specs.declared.Filling.{Filling}
use Rattle.crews.specs.Filling.{close_of, closes_of}

-- the crew being filled closed where it covers P and has members enough
unfoldable pub closed_where : ℕ → ℕ → Filling → Filling
closed_where task least f = elim (closes_of task least f) [ true ↦ close_of f | false ↦ f ]

-- the crew being filled has no fewer rows than this
abbrev pub full : ℕ → Filling → Bool
full size f = leb size (ones f.crew)

-- it has fewer
abbrev pub HasRoom : ℕ → Filling → Type 0
HasRoom size f = ones f.crew < size

-- it is full and cannot be closed
unfoldable pub stuck : ℕ → ℕ → ℕ → Filling → Bool
stuck task size least f = elim (closes_of task least f) [ true ↦ false | false ↦ full size f ]

-- of these rows those that may come next: a crew begins above the first row of the crew before
unfoldable pub eligible_of : Filling → ℕ → ℕ
eligible_of f rows = elim (eqb f.crew 0) [ true ↦ minus row_limit rows (2 ^ min f.from row_limit - 1) | false ↦ rows ]

-- what trying each candidate asks of the state just placed: no more crews are closed than asked for, and the one being filled is not full
pub record Ready (task crews size least : ℕ) (f : Filling) (spent allowance : ℕ) : Type 0 where
  pub few : crews ≤ crew_limit
  pub closed : (closed_where task least f).closed ≤ crews
  pub room : (closed_where task least f).closed ≢ crews → HasRoom size (closed_where task least f)
  pub within : spent ≤ allowance

-- what a placement asks: the row is free, a crew is still to be filled, and it is not full
pub record Placing (crews size : ℕ) (f : Filling) (row spent allowance : ℕ) : Type 0 where
  pub few : crews ≤ crew_limit
  pub going : f.closed < crews
  pub room : HasRoom size f
  pub below : row < row_limit
  pub free : Has f.free row
  pub within : spent ≤ allowance
