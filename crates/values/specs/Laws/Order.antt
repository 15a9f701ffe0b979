-- Entries that are put one after the other, by their index: the next, the last, and that they are those of the list. Assumes nothing.
use Rattle.std.specs.Prelude.{◌≡◌, refl, List, [], ◌++◌, ℕ, zero, suc, ◌+◌, ◌-◌, ◌≤◌, ◌<◌}
use Rattle.std.proofs.Common.{ap, ap₂, ◌∙◌, arith}
use Rattle.std.proofs.Math.Path.{fun_ext}
use Rattle.sets.specs.Arrays.{tabulate}
use Rattle.book.specs.Layout.{joined}
use Rattle.values.specs.Inner.Puts.{in_order}

-- one more, and the others
pub order_next : (bytes : ℕ → List ℕ) (i n : ℕ) → i < n → in_order bytes i (n - i) ≡ bytes i ++ in_order bytes (i + 1) (n - (i + 1))
unfolding in_order
order_next bytes i n l =
    let e : n - i ≡ suc (n - (i + 1)) = omega arith in
    let s : suc i ≡ i + 1 = omega arith in
    ap (in_order bytes i) e ∙ ap (λ (k : ℕ). bytes i ++ in_order bytes k (n - (i + 1))) s

pub order_last : (bytes : ℕ → List ℕ) (i n : ℕ) → n ≤ i → in_order bytes i (n - i) ≡ []
unfolding in_order
order_last bytes i n l = let e : n - i ≡ 0 = omega arith in ap (in_order bytes i) e

joined_from : {A : Type 0} (bytes : A → List ℕ) (f : ℕ → A) (k n : ℕ)
    → joined bytes (tabulate n (λ i. f (k + i))) ≡ in_order (λ i. bytes (f i)) k n
unfolding joined tabulate in_order
joined_from bytes f k zero = refl
joined_from {A} bytes f k (suc n) =
    let first : k + 0 ≡ k = omega arith in
    ap₂ (λ (a b : List ℕ). a ++ b) (ap (λ (i : ℕ). bytes (f i)) first)
    (ap (λ (g : ℕ → A). joined bytes (tabulate n g)) (fun_ext (λ i. ap f (shift i))) ∙ joined_from bytes f (suc k) n)
  where
    shift : (i : ℕ) → k + suc i ≡ suc k + i
    shift i = omega arith

-- the entries of a list are those of its indices
pub joined_order : {A : Type 0} (bytes : A → List ℕ) (f : ℕ → A) (n : ℕ) → joined bytes (tabulate n f) ≡ in_order (λ i. bytes (f i)) 0 n
joined_order {A} bytes f n = ap (λ (g : ℕ → A). joined bytes (tabulate n g)) (fun_ext (λ i. ap f (from i))) ∙ joined_from bytes f 0 n
  where
    from : (i : ℕ) → i ≡ 0 + i
    from i = omega arith
