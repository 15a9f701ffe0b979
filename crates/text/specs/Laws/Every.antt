-- What holds of every item of a list. Assumes nothing.
use Rattle.std.specs.Prelude.{◌≡◌, refl, ℕ, zero, suc, ◌<◌, length, get_or}
use Rattle.std.proofs.Common.{sym, subst, ap₂, ⊎_elim, arith}
use Rattle.std.proofs.Math.Option.{some}
use mathlib.Core.List.Memᴰ
use mathlib.Core.List.{List, [], ◌∷◌, map, Memᴰ, head-eq_of_cons-eq, tail-eq_of_cons-eq}
use Rattle.std.proofs.Math.ListN.{get_elem?}
use Rattle.text.specs.Cut.{Every}

pub every_none : {A : Type 0} (P : A → Type 0) → Every P []
every_none P x m = absurd (Memᴰ.not-nil m)

pub every_cons : {A : Type 0} {P : A → Type 0} {x : A} {l : List A} → P x → Every P l → Every P (x ∷ l)
every_cons {A} {P} {x} {l} p h y m = ⊎_elim (λ e. subst P (sym e) p) (h y) (Memᴰ.cases_cons m)

pub every_first : {A : Type 0} {P : A → Type 0} {x : A} {l : List A} → Every P (x ∷ l) → P x
every_first {A} {P} {x} h = h x (Memᴰ.head refl)

pub every_rest : {A : Type 0} {P : A → Type 0} {x : A} {l : List A} → Every P (x ∷ l) → Every P l
every_rest h y m = h y (Memᴰ.tail m)

pub every_map : {A B : Type 0} (f : A → B) (P : B → Type 0) (l : List A) → Every (λ x. P (f x)) l → Every P (map f l)
every_map f P [] h = every_none P
every_map f P (x ∷ l) h = every_cons (every_first h) (every_map f P l (every_rest h))

-- lists that a function makes alike are equal, where it tells their items apart
pub map_same : {A B : Type 0} (f : A → B) (l k : List A) → Every (λ x. Every (λ y. f x ≡ f y → x ≡ y) k) l → map f l ≡ map f k → l ≡ k
map_same f [] [] h e = refl
map_same f [] (y ∷ k) h e = let z : ◌≡◌ {A = ℕ} 0 1 = cc in absurd (omega arith)
map_same f (x ∷ l) [] h e = let z : ◌≡◌ {A = ℕ} 0 1 = cc in absurd (omega arith)
map_same {A} f (x ∷ l) (y ∷ k) h e =
    ap₂ (λ (a : A) (s : List A). a ∷ s) (every_first (every_first h) (head-eq_of_cons-eq e))
    (map_same f l k (λ a m. every_rest (every_rest h a m)) (tail-eq_of_cons-eq e))

-- what stands at a place is in the list
pub nth_in : {A : Type 0} (l : List A) (i : ℕ) (x : A) → get_elem? l i ≡ some x → Memᴰ x l
nth_in [] i x e = let z : ◌≡◌ {A = ℕ} 0 1 = cc in absurd (omega arith)
nth_in (y ∷ l) zero x e = let same : x ≡ y = cc in Memᴰ.head same
nth_in (y ∷ l) (suc i) x e = Memᴰ.tail (nth_in l i x e)

-- by place
pub every_at : (P : ℕ → Type 0) (l : List ℕ) → ((j : ℕ) → j < length l → P (get_or l j 0)) → Every P l
every_at P [] h = every_none P
every_at P (x ∷ l) h = every_cons (h 0 (omega arith)) (every_at P l (λ j b. h (suc j) (omega arith)))

pub map_ext : {A B : Type 0} (f g : A → B) (l : List A) → Every (λ x. f x ≡ g x) l → map f l ≡ map g l
map_ext f g [] h = refl
map_ext {A} {B} f g (x ∷ l) h = ap₂ (λ (y : B) (s : List B). y ∷ s) (every_first h) (map_ext f g l (every_rest h))
