-- The lists of absences are held to their meaning: `tried` has exactly the sets of at most s rows (where it skips: exactly those of them that are
-- worth trying), each once, in the order of absences. Nobody comes first, and then the lists of each size (`OneSize`), the smaller sizes first.
-- Assumes nothing.
use Rattle.std.specs.Prelude.{◌≡◌, ◌≢◌}
use Rattle.std.proofs.Math.Path.{refl, subst}
use Rattle.std.proofs.Common.{sym, pow_pos}
use Rattle.std.proofs.Math.Logic.{inl, inr}
use mathlib.Core.List.{List, ◌∷◌, ◌++◌, Memᴰ}
use Prim.Native.Nat.{ℕ, zero, suc, ◌+◌, ◌^◌, ◌≤◌, ◌<◌, min}
use Rattle.std.proofs.Math.Decide.{ℕ_discrete}
use native.Mathlib.Omega.{arith}
use Rattle.std.specs.Int.Count.{ones}
use Rattle.std.proofs.lemmas.Nat.{ones-le}
use Rattle.sets.proofs.Sets.{ones_none, ones-empty}
use Rattle.roster.specs.declared.Table.{Table}
use Rattle.roster.specs.Meaning.{Absence, Worth}
use Rattle.absences.specs.declared.Way.{Way}
use Rattle.absences.specs.declared.Way.TheVariants.{Full, Skipping}
use Rattle.absences.specs.Tried.{listed, sizes_from, tried}
use Rattle.absences.specs.Inner.Opens.{Kept}
use Rattle.absences.proofs.Laws.OneSize.{Ascending, ascending_append, size_sound, size_complete, size_ascending, nobody_kept}

-- the absences that this search tries: all, or those worth trying
abbrev pub Picked : Way → Table → ℕ → ℕ → Type 0
Picked Full table P A = Unit {0}
Picked Skipping table P A = Worth table P A

kept_of : (way : Way) (table : Table) (P A : ℕ) → Picked way table P A → Kept way table P A
kept_of Full table P A p = λ u v l h m. absurd m
kept_of Skipping table P A p = p

of_kept : (way : Way) (table : Table) (P A : ℕ) → Kept way table P A → Picked way table P A
of_kept Full table P A k = tt
of_kept Skipping table P A k = k

-- ---- all sizes

module _ (way : Way) (table : Table) (P : ℕ) where
  abbrev n : ℕ
  n = table.rows

  abbrev list : ℕ → ℕ → ℕ → ℕ → List ℕ
  list = listed way table P

  -- Of the sizes from k on the definition lists one, j, and goes on from j': none smaller is left, the others are larger, and none is left out.
  sizes_step : (m k : ℕ) → (j : ℕ) × (j' : ℕ) × (sizes_from way table P (suc m) k ≡ list n j 0 0 ++ sizes_from way table P m j')
      × (k ≤ j) × (j < j') × (j' ≤ suc k)
  unfolding sizes_from
  sizes_step m k = (_, _, refl, omega arith, omega arith, omega arith)

  sizes_sound : (m k S : ℕ) → Memᴰ S (sizes_from way table P m k)
      → (S < 2 ^ n) × (k ≤ ones S) × (ones S < k + m) × Kept way table P S
  unfolding sizes_from
  sizes_sound zero k S i = absurd (mathlib.Core.List.Memᴰ.not-nil i)
  sizes_sound (suc m) k S i =
      let st = sizes_step m k in
      elim (mathlib.Core.List.Memᴰ.append_cases (list n st.0 0 0) (subst (λ l. Memᴰ S l) st.2 i)) [
        | inl q ↦ let c = size_sound way table P st.0 S q in (c.0, omega (arith, c.1, st.3), omega (arith, c.1, st.4, st.5), c.2)
        | inr q ↦ let c = sizes_sound m st.1 S q in (c.0, omega (arith, c.1, st.3, st.4), omega (arith, c.2, st.5), c.3)
      ]

  sizes-complete : (m k S : ℕ) → S < 2 ^ n → k ≤ ones S → ones S < k + m → Kept way table P S
      → Memᴰ S (sizes_from way table P m k)
  sizes-complete zero k S h a b q = absurd (omega arith)
  sizes-complete (suc m) k S h a b q =
      let st = sizes_step m k in
      subst (λ l. Memᴰ S l) (sym st.2)
      (elim (ℕ_discrete (ones S) st.0) [
        | yes e ↦ mathlib.Core.List.Memᴰ.append_left (sizes_from way table P m st.1) (size_complete way table P st.0 S h e q)
        | no e ↦
            mathlib.Core.List.Memᴰ.append_right (list n st.0 0 0)
            (sizes-complete m st.1 S h (omega (arith, st.3, st.4, st.5)) (omega (arith, st.3, st.4)) q)
      ])

  -- a set is that of nobody or has one of the sizes
  nobody-or-sizes : (m k S : ℕ) → S < 2 ^ n → (ones S ≢ 0 → k ≤ ones S) → (ones S ≢ 0 → ones S < k + m) → Kept way table P S
      → Memᴰ S (0 ∷ sizes_from way table P m k)
  nobody-or-sizes m k S h a b q =
      elim (ℕ_discrete (ones S) 0) [
        | yes e ↦ mathlib.Core.List.Memᴰ.head (ones-empty S e)
        | no e ↦ let i : Memᴰ S (sizes_from way table P m k) = sizes-complete m k S h (a e) (b e) q in mathlib.Core.List.Memᴰ.tail i
      ]

  sizes_ascending : (m k : ℕ) → Ascending table P (sizes_from way table P m k)
  unfolding sizes_from
  sizes_ascending zero k = tt
  sizes_ascending (suc m) k =
      let st = sizes_step m k in
      subst (Ascending table P) (sym st.2)
      (ascending_append table P (list n st.0 0 0) (sizes_from way table P m st.1) (size_ascending way table P st.0)
      (sizes_ascending m st.1)
      (λ A B a b. inl (omega (arith, (size_sound way table P st.0 A a).1, st.4, (sizes_sound m st.1 B b).1))))

  -- ---- the theorems

  -- what is tried is a set of rows, no larger than the smaller of s and the row count; where the search skips, it is worth trying
  pub tried_sound : (s A : ℕ) → Memᴰ A (tried way table P s) → Absence table (min s table.rows) A × Picked way table P A
  tried_sound s A i =
      elim (mathlib.Core.List.Memᴰ.cases_cons i) [
        | inl e ↦ subst (λ (B : ℕ). Absence table (min s table.rows) B × Picked way table P B) (sym e)
            (record { rows = pow_pos n; few = omega (arith, ones_none) }, of_kept way table P 0 (nobody_kept way table P))
        | inr q ↦
            (let c = sizes_sound _ _ A q in
            (record { rows = c.0; few = omega (arith, c.1, c.2, ones-le n A c.0) }, of_kept way table P A c.3))
      ]

  -- every set of at most s rows is tried; where the search skips, every one that is worth trying
  pub tried-complete : (s A : ℕ) → Absence table s A → Picked way table P A → Memᴰ A (tried way table P s)
  tried-complete s A a p =
      nobody-or-sizes _ _ A a.rows (λ e. omega arith) (λ e. omega (arith, a.few, ones-le n A a.rows)) (kept_of way table P A p)

  -- each once, in the order of absences
  pub tried_ascending : (s : ℕ) → Ascending table P (tried way table P s)
  tried_ascending s = (λ B i. inl (omega (arith, ones_none, (sizes_sound _ _ B i).1)), sizes_ascending _ _)
