-- The row of each rank, and when it joins an absence: exactly if all that has to be absent with it is. Assumes nothing.
use Rattle.std.specs.Prelude.{◌≡◌, refl, ◌≢◌, ◌↔◌, Bool, true, ℕ, zero, suc, ◌+◌, ◌≤◌, ◌<◌, T, eqb}
use Rattle.std.proofs.Common.{sym, ap, ◌∙◌, subst, arith, eqb-true, eq-eqb, ne_eqb}
use Rattle.std.proofs.Math.Decide.{dec_lt, ℕ_discrete}
use Rattle.std.specs.Int.Bits.{bit_and}
use Rattle.sets.specs.Sets.{bit, Has, bit_le}
use Rattle.sets.proofs.Sets.{sub_of_test, test_of_sub}
use Rattle.sets.specs.Sums.{to_n}
use Rattle.sets.specs.Laws.Sums.{to_n_yes, true_of_to_n}
use Rattle.sets.proofs.Laws.Build.{set_of-bit, set_of_high}
use Rattle.roster.specs.declared.Table.{Table}
use Rattle.roster.specs.Meaning.{Outweighs, outweighsb, rank}
use Rattle.roster.proofs.Laws.Rank.{outweighs_iff, outweighs_rank, rank_below, rank_inj, rank_onto}
use Rattle.absences.specs.declared.Way.{Way}
use Rattle.absences.specs.declared.Way.TheVariants.{Full, Skipping}
use Rattle.absences.specs.Tried.{row_from, row_at, outweighers, joins}
use Rattle.absences.specs.Inner.Opens.{Must}

-- ---- the row of a rank

module _ (table : Table) (P : ℕ) where
  pub row_here : (r n u : ℕ) → rank table P u ≡ r → row_from table P r (suc n) u ≡ u
  unfolding row_from
  row_here r n u e = rw (eq-eqb (rank table P u) r e, row_from)

  pub row_next : (r n u : ℕ) → rank table P u ≢ r → row_from table P r (suc n) u ≡ row_from table P r n (suc u)
  unfolding row_from
  row_next r n u e = rw (ne_eqb (rank table P u) r e, row_from)

  found : (r n u v : ℕ) → u ≤ v → v < u + n → rank table P v ≡ r → (row_from table P r n u < u + n) × (rank table P (row_from table P r n u) ≡ r)
  found r zero u v l k e = absurd (omega arith)
  found r (suc n) u v l k e = go (ℕ_discrete (rank table P u) r) (λ m. found r n (suc u) v m (omega arith) e)
    where
      go : Dec (rank table P u ≡ r)
          → (suc u ≤ v → (row_from table P r n (suc u) < suc u + n) × (rank table P (row_from table P r n (suc u)) ≡ r))
          → (row_from table P r (suc n) u < u + suc n) × (rank table P (row_from table P r (suc n) u) ≡ r)
      go (yes f) ih = (omega (arith, row_here r n u f), ap (rank table P) (row_here r n u f) ∙ f)
      go (no f) ih =
          let other : u ≢ v = λ q. f (ap (rank table P) q ∙ e) in
          let later : suc u ≤ v = omega arith in
          (omega (arith, row_next r n u f, (ih later).0), ap (rank table P) (row_next r n u f) ∙ (ih later).1)

  found-row : (r : ℕ) → r < table.rows → (row_from table P r table.rows 0 < 0 + table.rows) × (rank table P (row_from table P r table.rows 0) ≡ r)
  found-row r l = let v = rank_onto table P r l in found r table.rows 0 v.0 (omega arith) (omega (arith, v.1)) v.2

  found_lt : (r : ℕ) → r < table.rows → row_from table P r table.rows 0 < table.rows
  found_lt r l = omega (arith, (found-row r l).0)

  found-rank : (r : ℕ) → r < table.rows → rank table P (row_from table P r table.rows 0) ≡ r
  found-rank r l = (found-row r l).1

  pub row_at_lt : (r : ℕ) → r < table.rows → row_at table P r < table.rows
  row_at_lt r l = found_lt _ (omega arith)

  -- the rows are taken in ascending order of rank
  pub rank_row_at : (r : ℕ) → r < table.rows → rank table P (row_at table P r) ≡ r
  rank_row_at r l = let here : rank table P (row_at table P r) ≡ _ = found-rank _ (omega arith) in here ∙ omega arith

  pub row_at_rank : (u : ℕ) → u < table.rows → row_at table P (rank table P u) ≡ u
  row_at_rank u l =
      let k = rank_below table P u l in
      rank_inj table P (row_at table P (rank table P u)) u (row_at_lt (rank table P u) k) l (rank_row_at (rank table P u) k)

-- ---- what a row that joins needs

pub must_rank : (way : Way) (table : Table) (P u v : ℕ) → u < table.rows → Must way table P u v → rank table P u < rank table P v
must_rank Full table P u v l m = absurd m
must_rank Skipping table P u v l m = outweighs_rank table P u v l m

-- a set that has u by a test has it exactly if u outweighs v, if the test is that of outweighing
by_test : (table : Table) (P u v m : ℕ) (test : Bool) → bit m u ≡ to_n test → test ≡ outweighsb table P u v → Has m u ↔ Outweighs table P u v
by_test table P u v m test here e = (
  λ h. (outweighs_iff table P u v).1 (subst T (sym (true_of_to_n test (sym here ∙ h)) ∙ e) tt),
  λ o. here ∙ to_n_yes test (subst T (sym e) ((outweighs_iff table P u v).0 o)),
)

-- the set of the rows that outweigh v has those, and no others
pub outweighers_iff : (table : Table) (P u v : ℕ) → u < table.rows → Has (outweighers table P v) u ↔ Outweighs table P u v
outweighers_iff table P u v l = by_test table P u v _ _ (set_of-bit table.rows _ u l) (cc)

-- a row joins F exactly if all that has to be absent with it is in F
pub joins_iff : (way : Way) (table : Table) (P F v : ℕ)
    → (joins way table P F v ≡ true) ↔ ((u : ℕ) → u < table.rows → Must way table P u v → Has F u)
unfolding joins
joins_iff Full table P F v = (λ e u l m. absurd m, λ f. refl)
joins_iff Skipping table P F v = (
  λ e u l m.
      let tested : eqb (bit_and above F) above ≡ true = cc in
      omega (arith, sub_of_test above F (eqb-true (bit_and above F) above tested) u, (outweighers_iff table P u v l).1 m, bit_le F u),
  λ f. eq-eqb (bit_and above F) above (test_of_sub above F (λ i. in_F f i (dec_lt i table.rows) (ℕ_discrete (bit above i) 1))),
)
  where
    above : ℕ
    above = outweighers table P v

    in_F : ((u : ℕ) → u < table.rows → Outweighs table P u v → Has F u) → (i : ℕ) → Dec (i < table.rows) → Dec (bit above i ≡ 1)
        → bit above i ≤ bit F i
    in_F f i (yes l) (yes h) = omega (arith, f i l ((outweighers_iff table P i v l).0 h))
    in_F f i (yes l) (no h) = omega (arith, bit_le above i)
    in_F f i (no l) d = omega (arith, set_of_high table.rows (λ u. outweighsb table P u v) i (omega arith))
