-- The first list is in order: each crew is begun with its lowest holder of P's lowest permission, and every holder in a later crew is higher.
-- The idea: the row that begins a crew is the first that leads to a list; a lower holder was tried before it and led to none, so it is in no
-- crew of the list from there on (`barren`). Assumes nothing.
use Rattle.std.specs.Prelude.{◌≡◌, refl, true, ◌⊎◌, ◌≢◌, List, ℕ, zero, suc, ◌+◌, ◌≤◌, ◌<◌, get_or}
use Rattle.std.proofs.Common.{sym, subst, true≢false, arith}
use Rattle.std.proofs.Math.Logic.{inl, inr}
use Rattle.std.proofs.Math.Decide.{dec_lt, ℕ_discrete}
use Rattle.std.specs.Int.Count.{ones}
use Rattle.sets.specs.Sets.{Has}
use Rattle.crews.specs.declared.Filling.{Filling}
use Rattle.crews.specs.Filling.{Work, Outcome, place_of, close_of, placed_of, candidates, try_each, search, begin}
use Rattle.crews.proofs.Laws.Search.{placed_is, Tried, candidate_of, candidates_ascend, among, First, first, search_is}
use Rattle.crews.proofs.Laws.Sound.{crew}
use Rattle.crews.proofs.Laws.Complete.{Ready}
use Rattle.crews.proofs.Laws.Barren.{lead, Reach, Found, later-placed, joined-placed, fewer-placed, reach_placed, reach_begin, rest_free, wanted_first, first_lacks, first_candidate, barren, found-list}

-- ---- the crews of the first list

module _ (w : Work) (F : ℕ) (r : Ready w F) where
  -- crew j has a holder of the lowest permission, and no crew from there on has a lower one
  pub record Led (T : ℕ → ℕ) (j : ℕ) : Type 0 where
    pub row : ℕ
    pub mine : Has (T j) row
    pub holder : Has (w.holders (lead w)) row
    pub lowest : (i v : ℕ) → j ≤ i → i < w.crews → Has (T i) v → Has (w.holders (lead w)) v → row ≤ v

  -- a crew that is not begun yet
  abbrev Ahead : Filling → ℕ → Type 0
  Ahead f j = (f.closed < j) ⊎ ((f.closed ≡ j) × (f.crew ≡ 0))

  ahead-placed : (f : Filling) (row j : ℕ) → f.closed < j → Ahead (placed_of w f row) j
  unfolding place_of close_of
  ahead-placed f row j l =
      placed_is w f row (λ g. Ahead g j) (λ z m. next (ℕ_discrete (f.closed + 1) j)) (λ z. inl l)
    where
      next : Dec (f.closed + 1 ≡ j) → (f.closed + 1 < j) ⊎ ((f.closed + 1 ≡ j) × (◌≡◌ {A = ℕ} 0 0))
      next (yes e) = inr (e, refl)
      next (no n) = inl (omega arith)

  -- one placement deeper, where it is known of the deeper searches
  module _ (n : ℕ) (f : Filling) (a : Reach w F f) (fuel : ones f.free ≤ suc n) (going : f.closed ≢ w.crews) (room : ones f.crew < w.size)
      (x : First (λ g. search n w g) w f (candidates w f)) where
    tried : Tried w f x.row
    tried = record { going = going; room = room; candidate = candidate_of w f x.row x.mem }

    abbrev T : ℕ → ℕ
    T j = get_or (search n w (placed_of w f x.row)).crews j 0

    found : Found w F r (placed_of w f x.row) (search n w (placed_of w f x.row)).crews
    found = found-list w F r n (placed_of w f x.row) (reach_placed w F r f x.row a tried).state x.works

    keeps : (j u : ℕ) → j < f.closed → Has (crew f j) u → Has (T j) u
    keeps j u l q =
        found.kept j u (omega (arith, a.state.shape.closed)) ((later-placed w F r f x.row a.state tried).kept j u q)

    -- the row that begins a crew
    begun_by : f.crew ≡ 0 → Led T f.closed
    begun_by empty = record {
      row = x.row;
      mine = found.kept f.closed x.row (omega (arith, a.state.shape.closed, going)) (joined-placed w F r f x.row a.state tried);
      holder = subst (λ (p : ℕ). Has (w.holders p) x.row) (wanted_first w F r f a empty) (tried.candidate.holder (first_lacks w F r f a empty));
      lowest = λ i v l m q h. not_lower i v l m q h (dec_lt v x.row);
    }
      where
        not_lower : (i v : ℕ) → f.closed ≤ i → i < w.crews → Has (T i) v → Has (w.holders (lead w)) v → Dec (v < x.row) → x.row ≤ v
        not_lower i v l m q h (no k) = omega arith
        not_lower i v l m q h (yes k) =
            let free = rest_free w F r f a empty T found.solves keeps i v l m q in
            let member = among w f v (first_candidate w F r f a empty v h free) (r.plain.begins f v) in
            absurd (barren w F r n f a empty fuel going room v h free (x.before v member k) T found.solves keeps i l m q)

  -- what is to be shown of the outcome of a search
  abbrev Leading : Filling → Outcome → Type 0
  Leading f o = o.found ≡ true → (j : ℕ) → Ahead f j → j < w.crews → Led (λ i. get_or o.crews i 0) j

  -- where all crews are closed none is ahead
  none_ahead : (f : Filling) (j : ℕ) → Ahead f j → j < w.crews → f.closed ≡ w.crews → ⊥
  none_ahead f j (inl k) l e = omega arith
  none_ahead f j (inr k) l e = omega (arith, k.0)

  led_each : (n : ℕ) → ((g : Filling) → Reach w F g → ones g.free ≤ n → Leading g (search n w g))
      → (f : Filling) → Reach w F f → ones f.free ≤ suc n → f.closed ≢ w.crews → ones f.crew < w.size
      → Leading f (try_each (λ g. search n w g) w f (candidates w f))
  led_each n deeper f a fuel going room e j ahead l =
      subst (λ (cs : List ℕ). Led (λ i. get_or cs i 0) j) (sym x.crews) (by ahead)
    where
      x : First (λ g. search n w g) w f (candidates w f)
      x = first (λ g. search n w g) w f 0 (candidates w f) (candidates_ascend w f) e

      k : Tried w f x.row
      k = tried n f a fuel going room x

      by : Ahead f j → Led (λ i. get_or (search n w (placed_of w f x.row)).crews i 0) j
      by (inl b) =
          deeper (placed_of w f x.row) (reach_placed w F r f x.row a k) (omega (arith, fewer-placed w F r f x.row a.state k, fuel)) x.works j
          (ahead-placed f x.row j b) l
      by (inr b) = subst (Led (λ i. get_or (search n w (placed_of w f x.row)).crews i 0)) b.0 (begun_by n f a fuel going room x b.1)

  led_from : (n : ℕ) (f : Filling) → Reach w F f → ones f.free ≤ n → Leading f (search n w f)
  led_from zero f a fuel =
      search_is w f (Leading f) 0
      (λ c e j k l. absurd (none_ahead f j k l c)) (λ c e. absurd (true≢false (sym e))) (λ m s. absurd (omega arith))
  led_from (suc n) f a fuel =
      search_is w f (Leading f) (suc n)
      (λ c e j k l. absurd (none_ahead f j k l c)) (λ c e. absurd (true≢false (sym e)))
      (λ m s c k.
      let same : n ≡ m = omega arith in
      led_each m (subst (λ (x : ℕ). (g : Filling) → Reach w F g → ones g.free ≤ x → Leading g (search x w g)) same (λ g b q. led_from n g b q)) f a
      (omega arith) c k)

  -- each crew of the first list is led
  pub led : (search (ones F) w (begin F)).found ≡ true → (j : ℕ) → j < w.crews → Led (λ i. get_or (search (ones F) w (begin F)).crews i 0) j
  led e j l = led_from (ones F) (begin F) (reach_begin w F r) (omega arith) e j (at_first (ℕ_discrete 0 j)) l
    where
      at_first : Dec (0 ≡ j) → Ahead (begin F) j
      at_first (yes z) = inr (z, refl)
      at_first (no n) = inl (omega arith)
