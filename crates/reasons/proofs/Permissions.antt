-- Which bit numbers are permissions. Assumes nothing.
use Rattle.std.specs.Prelude.{◌≡◌, true, false, ◌⊎◌, ℕ, ◌≤◌, ◌<◌, ltb, Option, Some, None}
use Rattle.std.proofs.Common.{inl, inr, lt-ltb, ltb-true, ltb-false}
use Rattle.sets.specs.Laws.Sums.{either}
use Rattle.reasons.specs.Inner.{permission_of}

pub is_permission : (p : ℕ) → p < 32 → permission_of p ≡ Some p
is_permission p h = rw (lt-ltb p 32 h, permission_of)

-- and so the other way round
pub permission_some : (k p : ℕ) → Some p ≡ permission_of k → (p ≡ k) × (k < 32)
permission_some k p e = go (either (ltb k 32))
  where
    go : (ltb k 32 ≡ true) ⊎ (ltb k 32 ≡ false) → (p ≡ k) × (k < 32)
    go (inl y) = let q : Some p ≡ Some k = rw (y, permission_of) at e in ((cc), ltb-true k 32 y)
    go (inr z) = let q : ◌≡◌ {A = Option ℕ} (Some p) None = rw (z, permission_of) at e in cc

pub permission_none : (k : ℕ) → None ≡ permission_of k → 32 ≤ k
permission_none k e = go (either (ltb k 32))
  where
    go : (ltb k 32 ≡ true) ⊎ (ltb k 32 ≡ false) → 32 ≤ k
    go (inl y) = let q : None ≡ Some k = rw (y, permission_of) at e in cc
    go (inr z) = ltb-false k 32 z
