-- The two halves one after the other. Assumes nothing.
use mathlib.Core.Path.{◌≡◌, refl}
use mathlib.Core.List.{◌++◌}
use Prim.Native.Nat.{ℕ, ◌/◌}
use Rattle.book.specs.Layout.{little_endian}
use Rattle.text.specs.Laws.Appends.{◌then◌, read_as}
use Rattle.values.proofs.put.put_four.Goals as goal

halves : (n : ℕ) → little_endian 2 n ++ little_endian 2 (n / 256 / 256) ≡ little_endian 4 n
unfolding little_endian
halves n = refl

pub returns : goal.returns
returns c = let a = c.args in
    read_as (halves a.n) (c.put_two-next.ensures then c.put_two.ensures)
