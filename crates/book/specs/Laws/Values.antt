-- What fits a row (the laws of it stand in proofs/Laws/Values).
use Rattle.std.specs.Prelude.{Bool, ℕ, ◌^◌, ◌<◌}
use Rattle.book.specs.Layout.{Own}
use Rattle.book.specs.declared.Row.{Row}

-- a row's numbers fit their fields, and it has the fields of its form and no others
pub record RowFits (persons : Bool) (listed : ℕ) (row : Row) : Type 0 where
  pub staff : row.staff < 2 ^ 32
  pub person : row.person < 2 ^ 32
  pub own : Own persons row
  pub holdings : row.holdings < 2 ^ listed
