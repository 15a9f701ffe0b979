-- The two bytes one after the other. Assumes nothing.
use mathlib.Core.Path.{◌≡◌, refl}
use mathlib.Core.List.{[], ◌∷◌, ◌++◌}
use Prim.Native.Nat.{ℕ, ◌/◌, ◌%◌}
use Rattle.book.specs.Layout.{little_endian}
use Rattle.text.specs.Laws.Appends.{◌then◌, read_as}
use Rattle.values.proofs.Puts.{byte}
use Rattle.values.proofs.put.put_two.Goals as goal

bytes : (n : ℕ) → (n % 256 ∷ []) ++ (n / 256 % 256 ∷ []) ≡ little_endian 2 n
unfolding little_endian
bytes n = refl

pub returns : goal.returns
returns c = let a = c.args in
    read_as (bytes a.n)
    (read_as (byte c.low.ensures) c.put-next.ensures
    then read_as (byte c.low-2.ensures) c.put.ensures)
