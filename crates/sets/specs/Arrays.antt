-- Arrays and functions: the number at a place of an array, and the array of what a function is at 0, 1 and so on. Nothing here is proved:
-- these are definitions, and they run.
use Rattle.std.specs.Prelude.{List, [], ◌∷◌, ℕ, zero, suc, get_or}

-- f 0, .., f (n - 1)
unfoldable pub tabulate : {A : Type 0} → ℕ → (ℕ → A) → List A
tabulate zero f = []
tabulate (suc n) f = f 0 ∷ tabulate n (λ i. f (suc i))

-- the number at i of an array, and 0 past its end
abbrev pub at : List ℕ → ℕ → ℕ
at l i = get_or l i 0
