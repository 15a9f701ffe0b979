-- A person holds what his rows hold, and nothing else. Assumes nothing.
use Rattle.std.specs.Prelude.{◌≡◌, refl, Bool, true, false, ◌↔◌, ◌≢◌, ℕ, zero, suc, ◌<◌, eqb}
use Rattle.std.proofs.Math.Path.{ap}
use Rattle.std.proofs.Common.{ap₂, ◌∙◌, arith}
use Rattle.std.proofs.Math.Decide.{ℕ_discrete}
use Rattle.std.specs.Int.Bits.{bit_or, or_zero_r}
use borrow.Author.Tests.{eqb-true, eq-eqb, ne_eqb}
use Rattle.sets.specs.Sets.{bit, Has, bit_le, bit-none, bit-or, ext_all}
use Rattle.accounts.specs.Persons.{union_to, where?, person_of, held_by}

-- ---- what some sets have together

union_step : (n : ℕ) (g : ℕ → ℕ) → union_to (suc n) g ≡ bit_or (union_to n g) (g n)
unfolding union_to
union_step n g = refl

union-none : (g : ℕ → ℕ) → union_to 0 g ≡ 0
unfolding union_to
union-none g = refl

pub union_has : (n : ℕ) (g : ℕ → ℕ) (p : ℕ) → Has (union_to n g) p → (u : ℕ) × (u < n) × Has (g u) p
union_has zero g p h = absurd (omega (arith, ap (λ (m : ℕ). bit m p) (union-none g), bit-none p))
union_has (suc n) g p h = go (ℕ_discrete (bit (g n) p) 1) (union_has n g p)
  where
    up : (u : ℕ) × (u < n) × Has (g u) p → (u : ℕ) × (u < suc n) × Has (g u) p
    up (u, l, e) = (u, omega arith, e)

    go : Dec (bit (g n) p ≡ 1) → (Has (union_to n g) p → (u : ℕ) × (u < n) × Has (g u) p) → (u : ℕ) × (u < suc n) × Has (g u) p
    go (yes e) ih = (n, omega arith, e)
    go (no c) ih =
        up (ih (omega (arith, ap (λ (m : ℕ). bit m p) (union_step n g), bit-or (union_to n g) (g n) p, bit_le (g n) p, bit_le (union_to n g) p)))

pub has_union : (n : ℕ) (g : ℕ → ℕ) (p u : ℕ) → u < n → Has (g u) p → Has (union_to n g) p
has_union zero g p u l h = absurd (omega arith)
has_union (suc n) g p u l h = go (ℕ_discrete u n) (has_union n g p u)
  where
    go : Dec (u ≡ n) → (u < n → Has (g u) p → Has (union_to n g) p) → Has (union_to (suc n) g) p
    go (yes e) ih =
        omega (arith, ap (λ (v : ℕ). bit (g v) p) e, ap (λ (m : ℕ). bit m p) (union_step n g), bit-or (union_to n g) (g n) p, bit_le (union_to n g) p)
    go (no c) ih =
        omega (arith, ih (omega arith) h, ap (λ (m : ℕ). bit m p) (union_step n g), bit-or (union_to n g) (g n) p, bit_le (g n) p)

pub union_ext : (n : ℕ) (f g : ℕ → ℕ) → ((u : ℕ) → u < n → f u ≡ g u) → union_to n f ≡ union_to n g
unfolding union_to
union_ext zero f g h = refl
union_ext (suc n) f g h = ap₂ bit_or (union_ext n f g (λ u l. h u (omega arith))) (h n (omega arith))

-- ---- persons

yes_set : (b : Bool) (m : ℕ) → b ≡ true → where? b m ≡ m
yes_set b m e = ap (λ (c : Bool). where? c m) e

no_set : (b : Bool) (m : ℕ) → b ≡ false → where? b m ≡ 0
no_set b m e = ap (λ (c : Bool). where? c m) e

where_has : (b : Bool) (m p : ℕ) → Has (where? b m) p → (b ≡ true) × Has m p
where_has true m p h = (refl, h)
where_has false m p h = absurd (omega (arith, bit-none p))

module _ (f h : ℕ → ℕ) where
  abbrev of : ℕ → ℕ → ℕ
  of i u = where? (eqb (person_of f u) i) (h u)

  -- "holding all their permissions": person i holds p exactly if one of his rows does
  pub holds_all_his : (n i p : ℕ) → Has (held_by f h n i) p ↔ ((u : ℕ) × (u < n) × (person_of f u ≡ i) × Has (h u) p)
  unfolding held_by
  holds_all_his n i p = (λ e. there (union_has n (of i) p e), λ q. has_union n (of i) p q.0 q.1 (back q))
    where
      there : (u : ℕ) × (u < n) × Has (of i u) p → (u : ℕ) × (u < n) × (person_of f u ≡ i) × Has (h u) p
      there (u, l, e) = let w = where_has (eqb (person_of f u) i) (h u) p e in (u, l, eqb-true (person_of f u) i w.0, w.1)

      back : (q : (u : ℕ) × (u < n) × (person_of f u ≡ i) × Has (h u) p) → Has (of i q.0) p
      back (u, l, e, b) = ap (λ (m : ℕ). bit m p) (yes_set (eqb (person_of f u) i) (h u) (eq-eqb (person_of f u) i e)) ∙ b

  -- before any row is passed nobody holds anything
  pub held_none : (i : ℕ) → held_by f h 0 i ≡ 0
  unfolding held_by
  held_none i = union-none (of i)

  -- one row more: its person holds it too
  pub held_more : (k i : ℕ) → person_of f k ≡ i → held_by f h (suc k) i ≡ bit_or (held_by f h k i) (h k)
  unfolding held_by
  held_more k i e = union_step k (of i) ∙ ap (bit_or (union_to k (of i))) (yes_set (eqb (person_of f k) i) (h k) (eq-eqb (person_of f k) i e))

  pub held_other : (k i : ℕ) → person_of f k ≢ i → held_by f h (suc k) i ≡ held_by f h k i
  unfolding held_by
  held_other k i c =
      union_step k (of i) ∙ ap (bit_or (union_to k (of i))) (no_set (eqb (person_of f k) i) (h k) (ne_eqb (person_of f k) i c)) ∙ or_zero_r (union_to k (of i))

  -- nobody has a row: nobody holds anything
  pub held-past : (n i : ℕ) → ((u : ℕ) → u < n → person_of f u ≢ i) → held_by f h n i ≡ 0
  held-past n i c =
      ext_all (held_by f h n i) 0 (λ p. go p (ℕ_discrete (bit (held_by f h n i) p) 1))
    where
      go : (p : ℕ) → Dec (bit (held_by f h n i) p ≡ 1) → bit (held_by f h n i) p ≡ bit 0 p
      go p (yes e) = let q = (holds_all_his n i p).0 e in absurd (c q.0 q.1 q.2)
      go p (no d) = omega (arith, bit_le (held_by f h n i) p, bit-none p)

-- it matters only what the rows below n hold and who has them
pub held_ext : (f g h k : ℕ → ℕ) (n i : ℕ) → ((u : ℕ) → u < n → person_of f u ≡ person_of g u) → ((u : ℕ) → u < n → h u ≡ k u)
    → held_by f h n i ≡ held_by g k n i
unfolding held_by
held_ext f g h k n i same equal =
    union_ext n (of f h i) (of g k i) (λ u l. ap₂ (λ (x m : ℕ). where? (eqb x i) m) (same u l) (equal u l))
