-- Sets that are pairwise disjoint and within n numbers have at most n members together: their union has as many. Assumes nothing.
use Rattle.std.specs.Prelude.{◌≡◌, ◌≢◌, List, [], ◌∷◌, ℕ, suc, ◌+◌, ◌^◌, ◌≤◌, ◌<◌, get_or}
use Rattle.std.proofs.Common.{ap, ◌∙◌, arith}
use Rattle.std.proofs.Math.Decide.{dec_lt}
use Rattle.std.specs.Int.Bits.{bit_or}
use Rattle.std.specs.Int.Count.{ones}
use Rattle.sets.specs.Sets.{bit, Has, Apart, bit_le, bit-none, bit-or, bit_high}
use Rattle.sets.proofs.Sets.{ones_none, ones-union, ones_bound}

-- how many members the sets of a list have together
unfoldable pub ones_of : List ℕ → ℕ
ones_of [] = 0
ones_of (m ∷ l) = ones m + ones_of l

abbrev pub Disjoint : List ℕ → Type 0
Disjoint l = (i j : ℕ) → i ≢ j → Apart (get_or l i 0) (get_or l j 0)

unfoldable union : List ℕ → ℕ
union [] = 0
union (m ∷ l) = bit_or m (union l)

-- what no set of the list has, the union has not
union_out : (l : List ℕ) (u : ℕ) → ((j : ℕ) → bit (get_or l j 0) u ≡ 0) → bit (union l) u ≡ 0
unfolding union
union_out [] u h = bit-none u
union_out (m ∷ l) u h = omega (arith, bit-or m (union l) u, h 0, union_out l u (λ j. h (suc j)))

ones_of_union : (l : List ℕ) → Disjoint l → ones (union l) ≡ ones_of l
unfolding union ones_of
ones_of_union [] d = ones_none
ones_of_union (m ∷ l) d =
    ones-union m (union l) apart ∙ ap (λ (n : ℕ). ones m + n) (ones_of_union l (λ i j n. d (suc i) (suc j) (λ e. n (omega arith))))
  where
    apart : Apart m (union l)
    apart u = go (dec_lt (bit m u) 1)
      where
        go : Dec (bit m u < 1) → bit m u + bit (union l) u ≤ 1
        go (yes h) = omega (arith, bit_le (union l) u)
        go (no h) = omega (arith, bit_le m u, union_out l u (λ j. omega (arith, d 0 (suc j) (λ e. omega arith) u)))

pub disjoint_few : (n : ℕ) (l : List ℕ) → Disjoint l → ((j : ℕ) → get_or l j 0 < 2 ^ n) → ones_of l ≤ n
disjoint_few n l d h = omega (arith, ones_of_union l d, ones_bound (union l) n within)
  where
    within : (i : ℕ) → Has (union l) i → i < n
    within i e = go (dec_lt i n)
      where
        go : Dec (i < n) → i < n
        go (yes b) = b
        go (no b) = absurd (omega (arith, union_out l i (λ j. bit_high (get_or l j 0) n i (h j) (omega arith))))
