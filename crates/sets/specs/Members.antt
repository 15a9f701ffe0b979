-- A mask's members as an ascending list, and the set of the numbers that pass a test. Nothing here is proved: these are definitions.
use Rattle.std.specs.Prelude.{Bool, true, false, List, [], ◌∷◌, ℕ, zero, suc, ◌*◌, ◌/◌, ◌%◌, ◌^◌, ◌≤◌, eqb}
use Rattle.sets.specs.Mask.{bit}
use Rattle.sets.specs.Sums.{sum_to, to_n}

-- x in front of the list, where the digit is not 0
unfoldable pub cons? : ℕ → ℕ → List ℕ → List ℕ
cons? zero x l = l
cons? (suc b) x l = x ∷ l

-- the members of m among the w numbers from k on, ascending, where digit 0 of m stands for k
unfoldable pub members : ℕ → ℕ → ℕ → List ℕ
unfolding cons?
members k zero m = []
members k (suc w) m = cons? (m % 2) k (members (suc k) w (m / 2))

-- the list ascends, from k or later on
abbrev pub Ascends : ℕ → List ℕ → Type 0
Ascends k [] = Unit
Ascends k (x ∷ l) = (k ≤ x) × Ascends (suc x) l

-- those of the list that pass the test, in its order
unfoldable pub filter : (ℕ → Bool) → List ℕ → List ℕ
filter test [] = []
filter test (x ∷ l) = elim (test x) [ true ↦ x ∷ filter test l | false ↦ filter test l ]

-- whether i is a member of m
unfoldable pub hasb : ℕ → ℕ → Bool
hasb m i = eqb (bit m i) 1

-- the set of the numbers below n that pass the test
unfoldable pub set_of : ℕ → (ℕ → Bool) → ℕ
unfolding sum_to to_n
set_of n test = sum_to n (λ i. to_n (test i) * 2 ^ i)
