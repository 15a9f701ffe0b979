-- The lowest scarce permission is the first of the 32 that passes the test; there is one only. Assumes nothing.
use Rattle.std.specs.Prelude.{◌≡◌, refl, Bool, true, false, ℕ, ◌^◌, ◌≤◌, ◌<◌, ltb}
use Rattle.std.proofs.Common.{sym, ◌∙◌, true≢false, arith}
use Rattle.std.proofs.Math.Path.{ap₂}
use Rattle.std.proofs.Math.Bool.{◌&&◌}
use Rattle.std.proofs.Math.Decide.{dec_lt}
use Rattle.std.specs.Int.Count.{ones}
use borrow.Author.Tests.{ltb-true, lt-ltb}
use Rattle.sets.specs.Sets.{Has, bit_high}
use Rattle.sets.specs.Members.{hasb}
use Rattle.sets.specs.Laws.Tests.{hasb-true, has_hasb}
use Rattle.roster.specs.declared.Table.{Table}
use Rattle.accounts.specs.Laws.First.{first_has, first-before, first_some_lem}
use Rattle.reasons.specs.Reasons.{holders_here, Scarce, Lowest, NoneIs}
use Rattle.reasons.specs.Replied.{scarce_in, lowest_scarce}

both : (x y : Bool) → (x && y) ≡ true → (x ≡ true) × (y ≡ true)
both true true e = (refl, refl)
both true false e = absurd (true≢false (sym e))
both false y e = absurd (true≢false (sym e))

-- ---- the test

module _ (there : ℕ → ℕ) (P d p : ℕ) where
  pub scarce_told : scarce_in there P d p ≡ true → Has P p × (ones (there p) < d)
  unfolding scarce_in
  scarce_told e = let x = both (hasb P p) (ltb (ones (there p)) d) e in (hasb-true P p x.0, ltb-true _ _ x.1)

  pub scarce_tells : Has P p → ones (there p) < d → scarce_in there P d p ≡ true
  unfolding scarce_in
  scarce_tells h l = ap₂ ◌&&◌ (has_hasb P p h) (lt-ltb _ _ l)

-- ---- the first that passes it

module _ (table : Table) (P d A : ℕ) where
  pub lowest_scarce_lem : lowest_scarce table P d A < 32 → Lowest (Scarce table P d A) (lowest_scarce table P d A)
  lowest_scarce_lem l = (
    scarce_told (holders_here table P A) P d (lowest_scarce table P d A) (first_has (scarce_in (holders_here table P A) P d) 32 l),
    λ q k s.
        true≢false (sym (scarce_tells (holders_here table P A) P d q s.0 s.1) ∙ first-before (scarce_in (holders_here table P A) P d) 32 q k),
  )

  pub none_scarce : P < 2 ^ 32 → 32 ≤ lowest_scarce table P d A → NoneIs (Scarce table P d A)
  none_scarce wide l p s = go (dec_lt p 32)
    where
      go : Dec (p < 32) → ⊥
      go (yes k) = omega (arith, first_some_lem (scarce_in (holders_here table P A) P d) 32 p k (scarce_tells (holders_here table P A) P d p s.0 s.1))
      go (no n) = omega (arith, s.0, bit_high P 32 p wide (omega arith))

  pub lowest_unique : (p q : ℕ) → Lowest (Scarce table P d A) p → Lowest (Scarce table P d A) q → p ≡ q
  lowest_unique p q a b = go (dec_lt p q) (dec_lt q p)
    where
      go : Dec (p < q) → Dec (q < p) → p ≡ q
      go (yes l) y = absurd (b.1 p l a.0)
      go (no n) (yes l) = absurd (a.1 q l b.0)
      go (no n) (no m) = omega arith
