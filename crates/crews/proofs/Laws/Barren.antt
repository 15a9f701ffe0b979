-- A row that was tried as a crew's first and led to no list is in no crew of any list that has the crews closed so far: else that crew, put
-- in this place, would have been found. This is of a work where any row may begin a crew. Assumes nothing.
use Rattle.std.specs.Prelude.{◌≡◌, refl, true, false, ◌⊎◌, ◌≢◌, List, get_or}
use Rattle.std.proofs.Common.{sym, ◌∙◌, subst, true≢false, inr, ⊎_elim, arith}
use Rattle.std.proofs.Math.Path.{ap}
use Rattle.std.proofs.Math.Logic.{inl}
use Prim.Native.Nat.{ℕ, suc, ◌^◌, ◌≤◌, ◌<◌}
use Rattle.std.proofs.Math.Decide.{dec_lt, ℕ_discrete}
use Rattle.std.specs.Int.Bits.{bit_and, bit_xor}
use Rattle.std.specs.Int.Count.{ones, count_trailing_zeros}
use Rattle.sets.specs.Sets.{bit, Has, bit-none, bit_below, missing_all}
use Rattle.sets.proofs.Sets.{bit-drop_same, bit-drop_other, drop-sub, ones-drop, has_of_sub, bit-with_same}
use Rattle.roster.specs.Limits.{row_limit}
use Rattle.crews.specs.declared.Filling.{Filling}
use Rattle.crews.specs.Filling.{Work, missing_of, place_of, close_of, placed_of, wanted_of, search, begin}
use Rattle.crews.proofs.Laws.Search.{put_of, placed_is, Candidate, Tried, search_keeps}
use Rattle.crews.proofs.Laws.Sound.{shape_put, Held, State, crew, filled_at, closed_at, close_at, stays, unfinished, state_placed, state_begin}
use Rattle.crews.proofs.Laws.Complete.{Ready, Solves, Part, goes}
use Rattle.crews.proofs.Laws.Turned.{turned, turned-one, turned_is, solves_turned}

-- what the first row of a crew holds: the lowest permission of P
abbrev pub lead : Work → ℕ
lead w = count_trailing_zeros 32 w.task

module _ (w : Work) (F : ℕ) where
  -- T has the crews closed so far
  abbrev pub Keeps : Filling → (ℕ → ℕ) → Type 0
  Keeps f T = (j u : ℕ) → j < f.closed → Has (crew f j) u → Has (T j) u

  -- no list that has the crews closed so far has c in one of the others
  abbrev pub Barren : Filling → ℕ → Type 0
  Barren f c = (T : ℕ → ℕ) → Solves w F T → Keeps f T → (j : ℕ) → f.closed ≤ j → j < w.crews → Has (T j) c → ⊥

  -- what each state that the search reaches has: every row is free or in a crew, and the crew being filled is one to go on with
  pub record Reach (f : Filling) : Type 0 where
    pub state : State w F f
    pub all : (u : ℕ) → Has F u → Has f.free u ⊎ ((j : ℕ) × Has (crew f j) u)
    pub fresh : f.crew ≡ 0 → f.held ≡ 0
    pub lacking : (missing_of w.task f ≢ 0) ⊎ (ones f.crew < w.least)

module _ (w : Work) (F : ℕ) (r : Ready w F) where
  -- ---- what a placement leaves as it was

  pub record Later (f g : Filling) : Type 0 where
    pub free : (u : ℕ) → Has g.free u → Has f.free u
    pub closed : f.closed ≤ g.closed
    pub kept : (j u : ℕ) → Has (crew f j) u → Has (crew g j) u

  module _ (f : Filling) (row : ℕ) (s : State w F f) (k : Tried w f row) where
    going : f.closed < w.crews
    going = unfinished w f s.shape k.going

    free_row : Has f.free row
    free_row = k.candidate.free

    later-put : Later f (put_of w f row)
    unfolding place_of
    later-put = record {
      free = λ u h. has_of_sub (bit_xor f.free (2 ^ row)) f.free (drop-sub f.free row free_row) u h;
      closed = omega arith;
      kept = stays w r.few F f row s k;
    }

    -- closing the crew leaves each at its place
    shut_at : (j : ℕ) → crew (close_of (put_of w f row)) j ≡ crew (put_of w f row) j
    unfolding place_of
    shut_at = close_at w (put_of w f row) (shape_put w f row s.shape) (omega (arith, going, r.few))

    later_shut : Later f (close_of (put_of w f row))
    unfolding place_of close_of
    later_shut = record {
      free = later-put.free;
      closed = omega arith;
      kept = λ j u h. ap (λ (x : ℕ). bit x u) (shut_at j) ∙ later-put.kept j u h;
    }

    pub later-placed : Later f (placed_of w f row)
    later-placed = placed_is w f row (Later f) (λ z m. later_shut) (λ z. later-put)

    -- the row is in the crew that was being filled
    joined-put : Has (crew (put_of w f row) f.closed) row
    unfolding place_of
    joined-put = ap (λ (x : ℕ). bit x row) (filled_at (put_of w f row) f.closed refl) ∙ bit-with_same f.crew row

    pub joined-placed : Has (crew (placed_of w f row) f.closed) row
    joined-placed =
        placed_is w f row (λ g. Has (crew g f.closed) row)
        (λ z m. ap (λ (x : ℕ). bit x row) (shut_at f.closed) ∙ joined-put)
        (λ z. joined-put)

    -- and not free
    gone_put : bit (put_of w f row).free row ≡ 0
    unfolding place_of
    gone_put = bit-drop_same f.free row free_row

    pub gone_placed : bit (placed_of w f row).free row ≡ 0
    unfolding close_of
    gone_placed = placed_is w f row (λ g. bit g.free row ≡ 0) (λ z m. gone_put) (λ z. gone_put)

    fewer-put : suc (ones (put_of w f row).free) ≡ ones f.free
    unfolding place_of
    fewer-put = ones-drop f.free row free_row

    pub fewer-placed : suc (ones (placed_of w f row).free) ≡ ones f.free
    unfolding close_of
    fewer-placed = placed_is w f row (λ g. suc (ones g.free) ≡ ones f.free) (λ z m. fewer-put) (λ z. fewer-put)

    other_put : (u : ℕ) → row ≢ u → Has f.free u → Has (put_of w f row).free u
    unfolding place_of
    other_put u n h = bit-drop_other f.free row u n ∙ h

    other_placed : (u : ℕ) → row ≢ u → Has f.free u → Has (placed_of w f row).free u
    unfolding close_of
    other_placed u n h = placed_is w f row (λ g. Has g.free u) (λ z m. other_put u n h) (λ z. other_put u n h)

    -- a crew just begun holds nothing, and one that lacks nothing and has members enough is closed
    fresh_put : (put_of w f row).crew ≡ 0 → (put_of w f row).held ≡ 0
    unfolding place_of
    fresh_put e = absurd (omega (arith, bit-with_same f.crew row, ap (λ (x : ℕ). bit x row) e, bit-none row))

    fresh_placed : (placed_of w f row).crew ≡ 0 → (placed_of w f row).held ≡ 0
    unfolding close_of
    fresh_placed = placed_is w f row (λ g. g.crew ≡ 0 → g.held ≡ 0) (λ z m e. refl) (λ z. fresh_put)

    lacking_placed : (missing_of w.task (placed_of w f row) ≢ 0) ⊎ (ones (placed_of w f row).crew < w.least)
    unfolding close_of
    lacking_placed =
        placed_is w f row (λ g. (missing_of w.task g ≢ 0) ⊎ (ones g.crew < w.least))
        (λ z m. inl (λ e. r.some (sym (missing_all w.task) ∙ e)))
        (λ z. z)

    all_placed : ((u : ℕ) → Has F u → Has f.free u ⊎ ((j : ℕ) × Has (crew f j) u))
        → (u : ℕ) → Has F u → Has (placed_of w f row).free u ⊎ ((j : ℕ) × Has (crew (placed_of w f row) j) u)
    all_placed all u h = ⊎_elim (λ q. go q (ℕ_discrete row u)) (λ x. inr (x.0, later-placed.kept x.0 u x.1)) (all u h)
      where
        go : Has f.free u → Dec (row ≡ u) → Has (placed_of w f row).free u ⊎ ((j : ℕ) × Has (crew (placed_of w f row) j) u)
        go q (yes e) = inr (f.closed, subst (λ (x : ℕ). Has (crew (placed_of w f row) f.closed) x) e joined-placed)
        go q (no n) = inl (other_placed u n q)

  -- the next state is reached too
  pub reach_placed : (f : Filling) (row : ℕ) → Reach w F f → Tried w f row → Reach w F (placed_of w f row)
  reach_placed f row a k = record {
    state = state_placed w r.few F f row a.state k;
    all = all_placed f row a.state k a.all;
    fresh = fresh_placed f row a.state k;
    lacking = lacking_placed f row a.state k;
  }

  -- nothing is placed yet
  pub reach_begin : Reach w F (begin F)
  reach_begin = record {
    state = state_begin w F;
    all = λ u h. inl h;
    fresh = λ e. refl;
    lacking = inl (λ e. r.some (sym (missing_all w.task) ∙ e));
  }

  -- ---- a list that has the crews closed so far is made of free rows

  module _ (f : Filling) (a : Reach w F f) (empty : f.crew ≡ 0) (T : ℕ → ℕ) (s : Solves w F T) (keeps : Keeps w F f T) where
    pub rest_free : (j u : ℕ) → f.closed ≤ j → j < w.crews → Has (T j) u → Has f.free u
    rest_free j u l m q = ⊎_elim (λ h. h) (λ x. absurd (taken x.0 x.1 (ℕ_discrete x.0 f.closed) (dec_lt x.0 f.closed))) (a.all u (s.free j u m q))
      where
        taken : (i : ℕ) → Has (crew f i) u → Dec (i ≡ f.closed) → Dec (i < f.closed) → ⊥
        taken i h (yes e) _ = omega (arith, sym (ap (λ (x : ℕ). bit x u) (filled_at f i e ∙ empty)) ∙ h, bit-none u)
        taken i h (no n) (yes k) = let e = s.apart i j u (omega arith) m (keeps i u k h) q in omega arith
        taken i h (no n) (no k) = omega (arith, sym (ap (λ (x : ℕ). bit x u) (closed_at f i n ∙ a.state.shape.later i (omega arith))) ∙ h, bit-none u)

    part : (n j : ℕ) → ones f.free ≤ suc n → f.closed ≤ j → (l : j < w.crews) → (c : ℕ) → Has (T j) c → (m : f.closed < w.crews)
        → Part w F (λ i. T (turned f.closed j i)) r (solves_turned s f.closed j m l) f (suc n)
    part n j fuel k l c q m = record {
      shape = a.state.shape;
      free = a.state.free;
      sub = λ u h. absurd (none u h);
      left = λ i u b e h.
          inl (rest_free (turned f.closed j i) u (turned_is f.closed j i (λ x. f.closed ≤ x) (λ e. k) (λ e. omega arith) (λ x y. b))
          (turned_is f.closed j i (λ x. x < w.crews) (λ e. l) (λ e. m) (λ x y. e)) h);
      held = λ u p h. absurd (none u h);
      lacking = a.lacking;
      fuel = fuel;
    }
      where
        none : (u : ℕ) → Has f.crew u → ⊥
        none u h = omega (arith, sym (ap (λ (x : ℕ). bit x u) empty) ∙ h, bit-none u)

  -- ---- a first row that led to nothing is in no such list

  -- a crew just begun wants the lowest permission
  pub wanted_first : (f : Filling) → Reach w F f → f.crew ≡ 0 → wanted_of w.task f ≡ lead w
  wanted_first f a empty = ap (count_trailing_zeros 32) (ap (λ (x : ℕ). bit_xor w.task (bit_and w.task x)) (a.fresh empty) ∙ missing_all w.task)

  -- and lacks it
  pub first_lacks : (f : Filling) → Reach w F f → f.crew ≡ 0 → missing_of w.task f ≢ 0
  first_lacks f a empty e =
      r.some (sym (ap (λ (x : ℕ). bit_xor w.task (bit_and w.task x)) (a.fresh empty) ∙ missing_all w.task) ∙ e)

  -- a row that holds it and is free is a candidate then
  pub first_candidate : (f : Filling) → Reach w F f → f.crew ≡ 0 → (c : ℕ) → Has (w.holders (lead w)) c → Has f.free c → Candidate w f c
  first_candidate f a empty c h q =
      let inF : Has F c = has_of_sub f.free F a.state.free c q in
      record {
        below = bit_below F row_limit c r.rows inF;
        holder = λ lack. subst (λ (x : ℕ). Has (w.holders x) c) (sym (wanted_first f a empty)) h;
        free = q;
      }

  pub barren : (n : ℕ) (f : Filling) (a : Reach w F f) → f.crew ≡ 0 → ones f.free ≤ suc n → f.closed ≢ w.crews → ones f.crew < w.size
      → (c : ℕ) → Has (w.holders (lead w)) c → Has f.free c → (search n w (placed_of w f c)).found ≡ false → Barren w F f c
  barren n f a empty fuel going room c h q fails T s keeps j l m has =
      let open-crew : f.closed < w.crews = unfinished w f a.state.shape going in
      true≢false (sym
      (goes w F (λ i. T (turned f.closed j i)) r (solves_turned s f.closed j open-crew m) n f
      (part f a empty T s keeps n j fuel l m c has open-crew) c
      (ap (λ (x : ℕ). bit (T x) c) (turned-one f.closed j f.closed refl) ∙ has)
      (record { going = going; room = room; candidate = first_candidate f a empty c h q }))
      ∙ fails)

  -- ---- what is found is a list that has the crews closed so far

  pub record Found (g : Filling) (cs : List ℕ) : Type 0 where
    pub solves : Solves w F (λ j. get_or cs j 0)
    pub kept : (j u : ℕ) → j < w.crews → Has (crew g j) u → Has (get_or cs j 0) u

  record Reached (g h : Filling) : Type 0 where
    state : State w F h
    kept : (j u : ℕ) → Has (crew g j) u → Has (crew h j) u

  pub found-list : (n : ℕ) (g : Filling) → State w F g → (search n w g).found ≡ true → Found g (search n w g).crews
  found-list n g s =
      search_keeps w (Reached g) (Found g)
      (λ h row x k. record {
        state = state_placed w r.few F h row x.state k;
        kept = λ j u q. (later-placed h row x.state k).kept j u (x.kept j u q);
      })
      done n g (record { state = s; kept = λ j u q. q })
    where
      done : (h : Filling) → Reached g h → h.closed ≡ w.crews → Found g h.crews
      done h x e = record {
        solves = record {
          free = λ j u l q. (x.state.placed j u (from j u l q)).0;
          apart = λ i j u l m q p. x.state.apart i j u (from i u l q) (from j u m p);
          small = λ j l. omega (arith, ap ones (same j l), x.state.small j);
          whole = λ j l. subst (Held w) (same j l) (x.state.whole j (omega arith));
          enough = λ j l. omega (arith, ap ones (same j l), x.state.enough j (omega arith));
        };
        kept = λ j u l q. sym (ap (λ (y : ℕ). bit y u) (same j l)) ∙ x.kept j u q;
      }
        where
          same : (j : ℕ) → j < w.crews → crew h j ≡ get_or h.crews j 0
          same j l = closed_at h j (λ y. omega arith)

          from : (j u : ℕ) → j < w.crews → Has (get_or h.crews j 0) u → Has (crew h j) u
          from j u l q = ap (λ (y : ℕ). bit y u) (same j l) ∙ q
