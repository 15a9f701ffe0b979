-- 01, "Sizes": the limits, each named once. The contract of `Policy::new` ties them to the constants that belong to the policy.
use Rattle.std.specs.Prelude.{ℕ}

-- "Rows: 0 to 64"
abbrev pub row_limit : ℕ
row_limit = 64

-- "s: 0 to 64"
abbrev pub away_limit : ℕ
away_limit = 64

-- "d: 1 to 8"
abbrev pub crew_limit : ℕ
crew_limit = 8

-- "t: 1 to 64"
abbrev pub size_limit : ℕ
size_limit = 64

-- "25, edition other than 1 or 2"
abbrev pub edition_limit : ℕ
edition_limit = 2
