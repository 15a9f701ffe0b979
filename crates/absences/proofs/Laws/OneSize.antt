-- The list of the absences of one size has exactly those (where it skips: exactly those of them that are worth trying), each once, in the order of
-- absences. The idea: ranks are gone through in ascending order, so what outweighs the row of rank r has been decided before, and F with that row is
-- worth trying exactly if the row joins F; and a set that has the row of rank r comes before one that has not, where they agree on all lower
-- ranks. One proof serves both searches. Assumes nothing.
use Rattle.std.specs.Prelude.{◌≡◌, ◌⊎◌, ◌≢◌, true, false, T}
use Rattle.std.proofs.Math.Path.{refl}
use Rattle.std.proofs.Common.{sym, ap, ◌∙◌, subst, inl, inr, arith, pow_pos}
use mathlib.Core.List.Memᴰ
use mathlib.Core.List.{List, [], ◌∷◌, ◌++◌, Memᴰ}
use Prim.Native.Nat.{ℕ, zero, suc, ◌+◌, ◌^◌, ◌≤◌, ◌<◌}
use Rattle.std.proofs.Math.Decide.{dec_lt, ℕ_discrete}
use Rattle.std.specs.Int.Count.{ones}
use Rattle.sets.specs.Sets.{bit, Has, bit_le, bit-none, bit_high, with, ext}
use Rattle.sets.proofs.Sets.{with_lt, bit-with_same, bit-with_other, ones-with, ones_none, sub_eq}
use Rattle.sets.specs.Laws.Sums.{either}
use Rattle.roster.specs.declared.Table.{Table}
use Rattle.roster.specs.Meaning.{rank, Earlier}
use Rattle.roster.proofs.Laws.Rank.{rank_below}
use Rattle.absences.specs.declared.Way.{Way}
use Rattle.absences.specs.Tried.{row_at, joins, listed}
use Rattle.absences.specs.Inner.Opens.{Must, Kept}
use Rattle.absences.proofs.Laws.Rows.{row_at_lt, rank_row_at, row_at_rank, must_rank, joins_iff}

-- ---- what a list is held to

-- each element comes before all that follow it in the list, so that it is there once
abbrev pub Ascending : Table → ℕ → List ℕ → Type 0
Ascending table P [] = Unit {0}
Ascending table P (A ∷ l) = ((B : ℕ) → Memᴰ B l → Earlier table P A B) × Ascending table P l

pub ascending_append : (table : Table) (P : ℕ) (l m : List ℕ) → Ascending table P l → Ascending table P m
    → ((A B : ℕ) → Memᴰ A l → Memᴰ B m → Earlier table P A B) → Ascending table P (l ++ m)
ascending_append table P [] m al am f = am
ascending_append table P (A ∷ l) m al am f = (
  λ B i. at B (Memᴰ.append_cases l i),
  ascending_append table P l m al.1 am (λ B C i j. f B C (Memᴰ.tail i) j),
)
  where
    at : (B : ℕ) → Memᴰ B l ⊎ Memᴰ B m → Earlier table P A B
    at B (inl i) = al.0 B i
    at B (inr i) = f A B (Memᴰ.head refl) i

-- ---- one step of the list

module _ (way : Way) (table : Table) (P : ℕ) where
  pub listed-joins : (m k r F : ℕ) → joins way table P F (row_at table P r) ≡ true
      → listed way table P (suc m) (suc k) r F
      ≡ listed way table P m k (suc r) (with F (row_at table P r)) ++ listed way table P m (suc k) (suc r) F
  unfolding listed
  listed-joins m k r F e = rw (e, listed)

  pub listed_not : (m k r F : ℕ) → joins way table P F (row_at table P r) ≡ false
      → listed way table P (suc m) (suc k) r F ≡ listed way table P m (suc k) (suc r) F
  unfolding listed
  listed_not m k r F e = rw (e, listed)

-- ---- the list of one size

-- the ranks below r have been decided, and F is what was taken of them
record State (way : Way) (table : Table) (P r F : ℕ) : Type 0 where
  rows : F < 2 ^ table.rows
  low : (i : ℕ) → i < table.rows → r ≤ rank table P i → bit F i ≡ 0
  kept : Kept way table P F

-- S has k rows more than F, all of rank r or above
record Completes (way : Way) (table : Table) (P r F k S : ℕ) : Type 0 where
  rows : S < 2 ^ table.rows
  agree : (i : ℕ) → i < table.rows → rank table P i < r → bit S i ≡ bit F i
  size : ones S ≡ ones F + k
  kept : Kept way table P S

module _ (way : Way) (table : Table) (P : ℕ) where
  abbrev n : ℕ
  n = table.rows

  abbrev Goal : ℕ → ℕ → ℕ → ℕ → Type 0
  Goal = Completes way table P

  -- no row more: the set is F
  is_F : (r F S : ℕ) → State way table P r F → Goal r F 0 S → F ≡ S
  is_F r F S s c = sub_eq F S (λ i. go i (dec_lt i n) (dec_lt (rank table P i) r)) (omega (arith, c.size))
    where
      go : (i : ℕ) → Dec (i < n) → Dec (rank table P i < r) → bit F i ≤ bit S i
      go i (yes l) (yes k) = omega (arith, c.agree i l k)
      go i (yes l) (no k) = omega (arith, s.low i l (omega arith))
      go i (no l) k = omega (arith, bit_high F n i s.rows (omega arith))

  -- no rank left: nothing has more rows than F
  no_more : (r F k S : ℕ) → r ≡ n → State way table P r F → Goal r F (suc k) S → ⊥
  no_more r F k S e s c =
      let same : S ≡ F = ext n S F c.rows s.rows (λ i l. c.agree i l (omega (arith, rank_below table P i l))) in
      omega (arith, c.size, ap ones same)

  module _ (r F k : ℕ) (lr : r < n) (s : State way table P r F) where
    abbrev row : ℕ
    row = row_at table P r

    new : bit F row ≡ 0
    new = s.low row (row_at_lt table P r lr) (omega (arith, rank_row_at table P r lr))

    -- the row of rank r is none of the rows of another rank
    other : (i : ℕ) → rank table P i ≢ r → row ≢ i
    other i ne e = ne (ap (rank table P) (sym e) ∙ rank_row_at table P r lr)

    -- a rank below r + 1 is below r, or r
    by_rank : (Q : ℕ → Type 0) → ((i : ℕ) → i < n → rank table P i < r → row ≢ i → Q i) → Q row
        → (i : ℕ) → i < n → rank table P i < suc r → Q i
    by_rank Q f q i l k = go (ℕ_discrete (rank table P i) r)
      where
        go : Dec (rank table P i ≡ r) → Q i
        go (yes e) = subst Q (ap (row_at table P) (sym e) ∙ row_at_rank table P i l) q
        go (no ne) = f i l (omega arith) (other i ne)

    skip_state : State way table P (suc r) F
    skip_state = record { rows = s.rows; low = λ i l k. s.low i l (omega arith); kept = s.kept }

    take_state : joins way table P F row ≡ true → State way table P (suc r) (with F row)
    take_state j = record {
      rows = with_lt n F row s.rows (row_at_lt table P r lr);
      low = λ i l k. bit-with_other F row i (other i (λ e. omega arith)) ∙ s.low i l (omega arith);
      kept = λ u v lu hv m. kept' u v lu hv m (ℕ_discrete row v) (ℕ_discrete row u);
    }
      where
        kept' : (u v : ℕ) → u < n → Has (with F row) v → Must way table P u v → Dec (row ≡ v) → Dec (row ≡ u) → Has (with F row) u
        kept' u v lu hv m p (yes e) = subst (λ (x : ℕ). Has (with F row) x) e (bit-with_same F row)
        kept' u v lu hv m (yes e) (no f) =
            bit-with_other F row u f ∙ (joins_iff way table P F row).0 j u lu (subst (λ (x : ℕ). Must way table P u x) (sym e) m)
        kept' u v lu hv m (no g) (no f) = bit-with_other F row u f ∙ s.kept u v lu (sym (bit-with_other F row v g) ∙ hv) m

    skip_up : (S : ℕ) → Goal (suc r) F (suc k) S → Goal r F (suc k) S
    skip_up S c = record { rows = c.rows; agree = λ i l q. c.agree i l (omega arith); size = c.size; kept = c.kept }

    take_up : (S : ℕ) → Goal (suc r) (with F row) k S → Goal r F (suc k) S
    take_up S c = record {
      rows = c.rows;
      agree = λ i l q. c.agree i l (omega arith) ∙ bit-with_other F row i (other i (λ e. omega arith));
      size = omega (arith, c.size, ones-with F row new);
      kept = c.kept;
    }

    skip_down : (S : ℕ) → Goal r F (suc k) S → bit S row ≡ 0 → Goal (suc r) F (suc k) S
    skip_down S c z = record {
      rows = c.rows;
      agree = by_rank (λ (i : ℕ). bit S i ≡ bit F i) (λ i l q ne. c.agree i l q) (z ∙ sym new);
      size = c.size;
      kept = c.kept;
    }

    take_down : (S : ℕ) → Goal r F (suc k) S → bit S row ≡ 1 → Goal (suc r) (with F row) k S
    take_down S c z = record {
      rows = c.rows;
      agree = by_rank (λ (i : ℕ). bit S i ≡ bit (with F row) i) (λ i l q ne. c.agree i l q ∙ sym (bit-with_other F row i ne))
          (z ∙ sym (bit-with_same F row));
      size = omega (arith, c.size, ones-with F row new);
      kept = c.kept;
    }

    -- all that has to be absent with the row of rank r has a lower rank, and so is in F already
    joined : (S : ℕ) → Goal r F (suc k) S → bit S row ≡ 1 → joins way table P F row ≡ true
    joined S c z =
        (joins_iff way table P F row).1 (λ u lu m.
        sym (c.agree u lu (omega (arith, must_rank way table P u row lu m, rank_row_at table P r lr))) ∙ c.kept u row lu z m)

    -- a set with the row of rank r comes before one without it
    taken_first : (S T : ℕ) → Goal (suc r) (with F row) k S → Goal (suc r) F (suc k) T → Earlier table P S T
    taken_first S T c e = inr (
      omega (arith, c.size, e.size, ones-with F row new),
      (
        row,
        c.agree row (row_at_lt table P r lr) (omega (arith, rank_row_at table P r lr)) ∙ bit-with_same F row,
        e.agree row (row_at_lt table P r lr) (omega (arith, rank_row_at table P r lr)) ∙ new,
        λ y q. same y q (dec_lt y n),
      ),
    )
      where
        same : (y : ℕ) → rank table P y < rank table P row → Dec (y < n) → bit S y ≡ bit T y
        same y q (yes l) =
            let below : rank table P y < r = omega (arith, rank_row_at table P r lr) in
            (take_up S c).agree y l below ∙ sym ((skip_up T e).agree y l below)
        same y q (no l) = bit_high S n y c.rows (omega arith) ∙ sym (bit_high T n y e.rows (omega arith))

  abbrev list : ℕ → ℕ → ℕ → ℕ → List ℕ
  list = listed way table P

  -- nobody more: F alone
  pub none_more : (m r F : ℕ) → list m 0 r F ≡ F ∷ []
  unfolding listed
  none_more zero r F = refl
  none_more (suc m) r F = refl

  -- no row left to take
  pub none_left : (k r F : ℕ) → list 0 (suc k) r F ≡ []
  unfolding listed
  none_left k r F = refl

  listed_sound : (m k r F S : ℕ) → m + r ≡ n → State way table P r F → Memᴰ S (list m k r F) → Goal r F k S
  listed_sound m zero r F S e s i =
      let f = Memᴰ.eq_of_singleton (subst (λ l. Memᴰ S l) (none_more m r F) i) in
      subst (λ (x : ℕ). Goal r F 0 x) (sym f) (record { rows = s.rows; agree = λ j l k. refl; size = omega arith; kept = s.kept })
  listed_sound zero (suc k) r F S e s i = absurd (Memᴰ.not-nil (subst (λ l. Memᴰ S l) (none_left k r F) i))
  listed_sound (suc m) (suc k) r F S e s i =
      go (either (joins way table P F (row_at table P r)))
      (λ j. listed_sound m k (suc r) (with F (row_at table P r)) S (omega arith) (take_state r F k lr s j))
      (listed_sound m (suc k) (suc r) F S (omega arith) (skip_state r F k lr s))
    where
      lr : r < n
      lr = omega arith

      go : (joins way table P F (row_at table P r) ≡ true) ⊎ (joins way table P F (row_at table P r) ≡ false)
          → (joins way table P F (row_at table P r) ≡ true → Memᴰ S (list m k (suc r) (with F (row_at table P r)))
          → Goal (suc r) (with F (row_at table P r)) k S)
          → (Memᴰ S (list m (suc k) (suc r) F) → Goal (suc r) F (suc k) S)
          → Goal r F (suc k) S
      go (inl j) take skip =
          half (Memᴰ.append_cases (list m k (suc r) (with F (row_at table P r)))
          (subst (λ l. Memᴰ S l) (listed-joins way table P m k r F j) i))
        where
          half : Memᴰ S (list m k (suc r) (with F (row_at table P r))) ⊎ Memᴰ S (list m (suc k) (suc r) F) → Goal r F (suc k) S
          half (inl q) = take_up r F k lr s S (take j q)
          half (inr q) = skip_up r F k lr s S (skip q)
      go (inr j) take skip = skip_up r F k lr s S (skip (subst (λ l. Memᴰ S l) (listed_not way table P m k r F j) i))

  listed-complete : (m k r F S : ℕ) → m + r ≡ n → State way table P r F → Goal r F k S → Memᴰ S (list m k r F)
  listed-complete m zero r F S e s c =
      subst (λ l. Memᴰ S l) (sym (none_more m r F)) (Memᴰ.head (sym (is_F r F S s c)))
  listed-complete zero (suc k) r F S e s c = absurd (no_more r F k S (omega arith) s c)
  listed-complete (suc m) (suc k) r F S e s c =
      go (either (joins way table P F (row_at table P r))) (ℕ_discrete (bit S (row_at table P r)) 1)
      (λ j. listed-complete m k (suc r) (with F (row_at table P r)) S (omega arith) (take_state r F k lr s j))
      (listed-complete m (suc k) (suc r) F S (omega arith) (skip_state r F k lr s))
    where
      lr : r < n
      lr = omega arith

      out : bit S (row_at table P r) ≢ 1 → bit S (row_at table P r) ≡ 0
      out b = omega (arith, bit_le S (row_at table P r))

      go : (joins way table P F (row_at table P r) ≡ true) ⊎ (joins way table P F (row_at table P r) ≡ false)
          → Dec (bit S (row_at table P r) ≡ 1)
          → (joins way table P F (row_at table P r) ≡ true → Goal (suc r) (with F (row_at table P r)) k S
          → Memᴰ S (list m k (suc r) (with F (row_at table P r))))
          → (Goal (suc r) F (suc k) S → Memᴰ S (list m (suc k) (suc r) F))
          → Memᴰ S (list (suc m) (suc k) r F)
      go (inl j) (yes b) take skip =
          subst (λ l. Memᴰ S l) (sym (listed-joins way table P m k r F j))
          (Memᴰ.append_left (list m (suc k) (suc r) F) (take j (take_down r F k lr s S c b)))
      go (inl j) (no b) take skip =
          subst (λ l. Memᴰ S l) (sym (listed-joins way table P m k r F j))
          (Memᴰ.append_right (list m k (suc r) (with F (row_at table P r))) (skip (skip_down r F k lr s S c (out b))))
      go (inr j) (yes b) take skip = let z : true ≡ false = sym (joined r F k lr s S c b) ∙ j in absurd (subst T z tt)
      go (inr j) (no b) take skip =
          subst (λ l. Memᴰ S l) (sym (listed_not way table P m k r F j)) (skip (skip_down r F k lr s S c (out b)))

  listed_ascending : (m k r F : ℕ) → m + r ≡ n → State way table P r F → Ascending table P (list m k r F)
  listed_ascending m zero r F e s =
      subst (Ascending table P) (sym (none_more m r F)) (λ B i. absurd (Memᴰ.not-nil i), tt)
  listed_ascending zero (suc k) r F e s = subst (Ascending table P) (sym (none_left k r F)) tt
  listed_ascending (suc m) (suc k) r F e s =
      go (either (joins way table P F (row_at table P r)))
      (λ j. listed_ascending m k (suc r) (with F (row_at table P r)) (omega arith) (take_state r F k lr s j))
      (listed_ascending m (suc k) (suc r) F (omega arith) (skip_state r F k lr s))
    where
      lr : r < n
      lr = omega arith

      go : (joins way table P F (row_at table P r) ≡ true) ⊎ (joins way table P F (row_at table P r) ≡ false)
          → (joins way table P F (row_at table P r) ≡ true → Ascending table P (list m k (suc r) (with F (row_at table P r))))
          → Ascending table P (list m (suc k) (suc r) F) → Ascending table P (list (suc m) (suc k) r F)
      go (inl j) take skip =
          subst (Ascending table P) (sym (listed-joins way table P m k r F j))
          (ascending_append table P (list m k (suc r) (with F (row_at table P r))) (list m (suc k) (suc r) F) (take j) skip
          (λ A B a b. taken_first r F k lr s A B
          (listed_sound m k (suc r) (with F (row_at table P r)) A (omega arith) (take_state r F k lr s j) a)
          (listed_sound m (suc k) (suc r) F B (omega arith) (skip_state r F k lr s) b)))
      go (inr j) take skip = subst (Ascending table P) (sym (listed_not way table P m k r F j)) skip

  -- ---- from nobody on

  start : State way table P 0 0
  start = record { rows = pow_pos n; low = λ i l k. bit-none i; kept = λ u v l h m. absurd (omega (arith, bit-none v)) }

  pub size_sound : (k S : ℕ) → Memᴰ S (list n k 0 0) → (S < 2 ^ n) × (ones S ≡ k) × Kept way table P S
  size_sound k S i =
      let c = listed_sound n k 0 0 S (omega arith) start i in
      (c.rows, omega (arith, c.size, ones_none), c.kept)

  pub size_complete : (k S : ℕ) → S < 2 ^ n → ones S ≡ k → Kept way table P S → Memᴰ S (list n k 0 0)
  size_complete k S h e q =
      listed-complete n k 0 0 S (omega arith) start
      (record { rows = h; agree = λ i l z. absurd (omega arith); size = omega (arith, ones_none); kept = q })

  pub size_ascending : (k : ℕ) → Ascending table P (list n k 0 0)
  size_ascending k = listed_ascending n k 0 0 (omega arith) start

  pub nobody_kept : Kept way table P 0
  nobody_kept = start.kept
