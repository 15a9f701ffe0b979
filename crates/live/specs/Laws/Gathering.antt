-- A loop that takes the members of a set out one by one, in some order, and stores what a function has at each, fills the table of the function
-- along that order. The order is the set's own (`members`) for the table, and that of staff numbers where rows are given back. Assumes nothing.
use Rattle.std.specs.Prelude.{◌≡◌, refl, ◌≢◌, List, [], ◌∷◌, map, ℕ, zero, suc, ◌+◌, ◌-◌, ◌*◌, ◌%◌, ◌^◌, ◌≤◌, ◌<◌, length, get_or, drop, set, replicate}
use Rattle.std.proofs.Common.{sym, ap, ◌∙◌, add-one, arith, length-drop, drop-cons}
use Rattle.std.proofs.Math.Decide.{dec_lt}
use Rattle.std.specs.Int.Bits.{bit_xor}
use Rattle.std.specs.Int.Count.{ones, count_trailing_zeros}
use Rattle.std.proofs.lemmas.List.{length-map}
use Rattle.std.proofs.Math.ListN.{get_or-eq_default}
use Rattle.sets.specs.Sets.{Has, shl_one, trailing_least, bit_below}
use Rattle.sets.proofs.Sets.{ones_bound, ones_none, ones-drop, drop_lt}
use Rattle.sets.specs.Members.{members}
use Rattle.sets.proofs.Laws.Members.{members-least, length-members}
use Rattle.sets.specs.Arrays.{tabulate}
use Rattle.sets.specs.Laws.Arrays.{Passed, passed_none, passed_stored, tabulated}

-- ---- what a list has at an index, mapped

module _ {A : Type 0} (d : A) (f : ℕ → A) where
  pub map_at : (l : List ℕ) (i : ℕ) → i < length l → get_or (map f l) i d ≡ f (get_or l i 0)
  map_at [] i b = absurd (omega arith)
  map_at (x ∷ l) zero b = refl
  map_at (x ∷ l) (suc i) b = map_at l i (omega arith)

  pub map-past : (l : List ℕ) (i : ℕ) → length l ≤ i → get_or (map f l) i d ≡ d
  map-past l i b = get_or-eq_default (map f l) d (omega (arith, length-map l f))

-- ---- an order in which members are taken out

-- a set without a member, as the code writes it
abbrev pub taken_out : ℕ → ℕ → ℕ
taken_out rest place = bit_xor rest ((1 * 2 ^ place) % 2 ^ 64)

pub taken_out_lem : (rest place : ℕ) → place < 64 → taken_out rest place ≡ bit_xor rest (2 ^ place)
taken_out_lem rest place b = ap (bit_xor rest) (shl_one 64 place b)

-- which member of a set comes first, and the members in the order that this gives
pub record Order (pick : ℕ → ℕ) (order : ℕ → List ℕ) : Type 0 where
  pub picked : (rest : ℕ) → rest < 2 ^ 64 → rest ≢ 0 → (pick rest < 64) × Has rest (pick rest)
  pub begins : (rest : ℕ) → rest < 2 ^ 64 → rest ≢ 0 → order rest ≡ pick rest ∷ order (bit_xor rest (2 ^ pick rest))
  pub many : (rest : ℕ) → rest < 2 ^ 64 → length (order rest) ≡ ones rest

-- ---- the loop

module _ {A : Type 0} (d : A) (f : ℕ → A) (pick : ℕ → ℕ) (order : ℕ → List ℕ) (way : Order pick order) (all : ℕ) where
  -- what is stored at index k
  abbrev pub along : ℕ → A
  along k = get_or (map f (order all)) k d

  -- the first k are stored, and `rest` has those to come
  pub record Gathered (k rest : ℕ) (next : List A) : Type 0 where
    pub fits : all < 2 ^ 64
    pub within : rest < 2 ^ 64
    pub passed : Passed d 64 along k next
    pub come : drop k (order all) ≡ order rest

  pub gathers : all < 2 ^ 64 → Gathered 0 all (replicate 64 d)
  gathers fits = record { fits = fits; within = fits; passed = passed_none d 64 along; come = refl }

  -- one turn: the member that comes first
  module _ (k rest place : ℕ) (next : List A) (g : Gathered k rest next) (some : rest ≢ 0) (first : place ≡ pick rest) where
    pub here : (place < 64) × Has rest place
    here = rw first (way.picked rest g.within some)

    pub fewer : ones (taken_out rest place) < ones rest
    fewer = omega (arith, ap ones (taken_out_lem rest place here.0), ones-drop rest place here.1)

    next_come : drop k (order all) ≡ place ∷ order (taken_out rest place)
    next_come =
        g.come
        ∙ way.begins rest g.within some
        ∙ ap (λ (u : ℕ). u ∷ order (bit_xor rest (2 ^ u))) (sym first)
        ∙ ap (λ (m : ℕ). place ∷ order m) (sym (taken_out_lem rest place here.0))

    below : k < length (order all)
    below = omega (arith, length-drop k (order all), ap length next_come)

    pub index_below : k < 64
    index_below = omega (arith, below, way.many all g.fits, ones_bound all 64 (λ i e. bit_below all 64 i g.fits e))

    pub goes_on : Gathered (k + 1) (taken_out rest place) (set next k (f place))
    goes_on =
        let s : get_or (order all) k 0 ∷ drop (suc k) (order all) ≡ place ∷ order (taken_out rest place)
        = sym (drop-cons (order all) k 0 below) ∙ next_come in
        let now : get_or (order all) k 0 ≡ place = cc in
        let later : drop (suc k) (order all) ≡ order (taken_out rest place) = cc in
        record {
          fits = g.fits;
          within = rw (taken_out_lem rest place here.0) (drop_lt 64 rest place g.within here.1);
          passed = passed_stored d 64 along k (f place) next g.passed index_below (sym (map_at d f (order all) k below ∙ ap f now));
          come = rw add-one later;
        }

  module _ (k rest : ℕ) (next : List A) (g : Gathered k rest next) where
    left : length (order all) - k ≡ ones rest
    left = sym (length-drop k (order all)) ∙ ap length g.come ∙ way.many rest g.within

    -- some are to come as long as fewer are stored than there are
    pub some_come : k < ones all → rest ≢ 0
    some_come l z = omega (arith, left, way.many all g.fits, ap ones z, ones_none)

    -- as many are stored as there are: the table of the function along the order
    pub gathered_full : ones all ≤ k → next ≡ tabulate 64 along
    gathered_full l = tabulated d 64 along next g.passed.long (λ i b. go i (dec_lt i k))
      where
        go : (i : ℕ) → Dec (i < k) → get_or next i d ≡ along i
        go i (yes b) = g.passed.passed i b
        go i (no c) = g.passed.ahead i (omega arith) ∙ sym (map-past d f (order all) i (omega (arith, way.many all g.fits)))

  -- nothing is to come: so too
  pub gathered_all : (k rest : ℕ) (next : List A) → Gathered k rest next → rest ≡ 0 → next ≡ tabulate 64 along
  gathered_all k rest next g z = gathered_full k rest next g (omega (arith, left k rest next g, way.many all g.fits, ap ones z, ones_none))

-- ---- the set's own order

pub ascending : Order (count_trailing_zeros 64) (members 0 64)
ascending = record {
  picked = λ rest h n. let t = trailing_least 64 rest h (omega arith) in (t.below, t.has);
  begins = λ rest h n. members-least 64 rest h n;
  many = λ rest h. length-members 64 rest h;
}
