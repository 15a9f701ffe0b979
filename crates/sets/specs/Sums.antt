-- Sums over the numbers below n, and a test as a number. Assumes nothing.
use Rattle.std.specs.Prelude.{Bool, true, false, ℕ, zero, suc, ◌+◌}

-- f 0 + .. + f (n - 1)
unfoldable pub sum_to : ℕ → (ℕ → ℕ) → ℕ
sum_to zero f = 0
sum_to (suc n) f = f n + sum_to n f

-- 1 for a test that holds
unfoldable pub to_n : Bool → ℕ
to_n true = 1
to_n false = 0
