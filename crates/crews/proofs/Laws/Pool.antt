-- The rows that are looked at for the permission that is wanted, from what `pool_of` tests. Assumes nothing.
use Rattle.std.specs.Prelude.{◌≡◌, ◌≢◌}
use Rattle.std.proofs.Math.Path.{ap}
use Rattle.std.proofs.Common.{arith}
use Prim.Native.Nat.{ℕ, ◌≤◌}
use Rattle.std.proofs.Math.Decide.{ℕ_discrete}
use Rattle.std.specs.Int.Bits.{bit_and}
use Rattle.std.specs.Int.Count.{count_trailing_zeros}
use borrow.Author.Tests.{eq-eqb, ne_eqb}
use Rattle.sets.specs.Sets.{bit, bit-and}
use Rattle.crews.specs.Filling.{pool_of}

pub pool-short : (holders : ℕ → ℕ) (missing free : ℕ) → missing ≢ 0 → pool_of holders missing free ≡ bit_and (holders (count_trailing_zeros 32 missing)) free
unfolding pool_of
pool-short holders missing free n = rw (ne_eqb _ 0 n, pool_of)

pub pool_whole : (holders : ℕ → ℕ) (missing free : ℕ) → missing ≡ 0 → pool_of holders missing free ≡ free
unfolding pool_of
pool_whole holders missing free e = rw (eq-eqb _ 0 e, pool_of)

-- they are some of the free rows
pub pool_in : (holders : ℕ → ℕ) (missing free i : ℕ) → bit (pool_of holders missing free) i ≤ bit free i
pool_in holders missing free i = go (ℕ_discrete missing 0)
  where
    go : Dec (missing ≡ 0) → bit (pool_of holders missing free) i ≤ bit free i
    go (yes e) = omega (arith, ap (λ (x : ℕ). bit x i) (pool_whole holders missing free e))
    go (no n) =
        omega (arith, ap (λ (x : ℕ). bit x i) (pool-short holders missing free n), bit-and (holders (count_trailing_zeros 32 missing)) free i)
