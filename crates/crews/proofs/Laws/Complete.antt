-- Where there are crews to be had from the free rows, the search finds some. It is kept on the way to a solution T: the crew being filled is
-- part of T's, and what is left of T's crews is free. T's crew has a row that holds the lowest missing permission; that row is a
-- candidate, and with it placed the search is on the way still. A crew that covers sooner than T's leaves rows over. Assumes nothing.
use Rattle.std.specs.Prelude.{◌≡◌, true, ◌⊎◌, ◌≢◌, ℕ, zero, suc, ◌^◌, ◌≤◌, ◌<◌, eqb}
use Rattle.std.proofs.Common.{sym, ◌∙◌, arith, eqb-true}
use Rattle.std.proofs.Math.Path.{ap}
use Rattle.std.proofs.Math.Logic.{inl, inr, ⊎_elim}
use Rattle.std.proofs.Math.Decide.{ℕ_discrete}
use Rattle.std.specs.Int.Bits.{bit_xor}
use Rattle.std.specs.Int.Count.{ones}
use Rattle.std.proofs.lemmas.Bool.{eqb-false}
use Rattle.sets.specs.Sets.{bit, Has, Sub, with, bit-none, bit_below, digit, or_in, or_in_l, or_in_r, pow_in}
use Rattle.sets.specs.Sets.{missing_all}
use Rattle.sets.proofs.Sets.{sub_of_has, sub_lt, has_of_sub, ones-with, ones-sub, ones-drop, bit-drop_other, drop-sub, bit-with_same, fresh}
use Rattle.sets.specs.Laws.Sums.{either}
use Rattle.roster.specs.Limits.{row_limit, crew_limit}
use Rattle.crews.specs.declared.Filling.{Filling}
use Rattle.crews.specs.Filling.{Work, Outcome, missing_of, place_of, close_of, placed_of, wanted_of, candidates, search, begin}
use Rattle.crews.proofs.Laws.Search.{put_of, wanted_missing, placed_is, Tried, among, try_finds, search-done, search_open}
use Rattle.crews.proofs.Laws.Sound.{Shape, Held, shape_put, shape_close, shape_begin, unfinished}

pub same_or_not : (m n : ℕ) → (m ≡ n) ⊎ (m ≢ n)
same_or_not m n = ⊎_elim (λ e. inl (eqb-true m n e)) (λ e. inr (eqb-false m n e)) (either (eqb m n))

-- any row may begin a crew
pub record Plain (w : Work) : Type 0 where
  pub begins : (f : Filling) (u : ℕ) → w.begins f u ≡ true

-- the work is one that is admitted, with F free at first: the holders of a permission have each free row that holds it
pub record Ready (w : Work) (F : ℕ) : Type 0 where
  pub plain : Plain w
  pub few : w.crews ≤ crew_limit
  pub some : w.task ≢ 0
  pub wide : w.task < 2 ^ 32
  pub rows : F < 2 ^ row_limit
  pub holders : (p u : ℕ) → Has F u → Has (w.holds u) p → Has (w.holders p) u

-- T's crews are d, of rows that are free, pairwise disjoint, small and covering
pub record Solves (w : Work) (F : ℕ) (T : ℕ → ℕ) : Type 0 where
  pub free : (j u : ℕ) → j < w.crews → Has (T j) u → Has F u
  pub apart : (i j u : ℕ) → i < w.crews → j < w.crews → Has (T i) u → Has (T j) u → i ≡ j
  pub small : (j : ℕ) → j < w.crews → ones (T j) ≤ w.size
  pub whole : (j : ℕ) → j < w.crews → Held w (T j)
  pub enough : (j : ℕ) → j < w.crews → w.least ≤ ones (T j)

module _ (w : Work) (F : ℕ) (T : ℕ → ℕ) (r : Ready w F) (t : Solves w F T) where
  -- the state is on the way to T, with n placements to go at most
  pub record Part (f : Filling) (n : ℕ) : Type 0 where
    pub shape : Shape w f
    pub free : Sub f.free F
    pub sub : (u : ℕ) → Has f.crew u → Has (T f.closed) u
    pub left : (j u : ℕ) → f.closed ≤ j → j < w.crews → Has (T j) u → Has f.free u ⊎ ((j ≡ f.closed) × Has f.crew u)
    pub held : (u p : ℕ) → Has f.crew u → Has (w.holds u) p → Has f.held p
    pub lacking : (missing_of w.task f ≢ 0) ⊎ (ones f.crew < w.least)
    pub fuel : ones f.free ≤ n

  -- the next row: T's, and a candidate for a crew that is not full
  record Next (f : Filling) : Type 0 where
    row : ℕ
    mine : Has (T f.closed) row
    tried : Tried w f row

  -- a row of T's crew that is not in the crew yet, and holds the permission that is wanted, where one is
  record Wanted (f : Filling) : Type 0 where
    row : ℕ
    mine : Has (T f.closed) row
    out : bit f.crew row ≡ 0
    holds : missing_of w.task f ≢ 0 → Has (w.holds row) (wanted_of w.task f)

  wanted : (f : Filling) (n : ℕ) → Part f n → f.closed ≢ w.crews → Wanted f
  wanted f n a c = go (ℕ_discrete (missing_of w.task f) 0)
    where
      l : f.closed < w.crews
      l = unfinished w f a.shape c

      -- something is missing
      short : missing_of w.task f ≢ 0 → Wanted f
      short lack =
          let lowest = wanted_missing w.task f r.wide lack in
          let x = t.whole f.closed l (wanted_of w.task f) lowest.0 in
          record {
            row = x.0;
            mine = x.1;
            -- what the crew has, it holds, and this is missing
            out = ⊎_elim (λ z. z) (λ o. absurd (omega (arith, a.held x.0 (wanted_of w.task f) o x.2, lowest.1))) (digit f.crew x.0);
            holds = λ m. x.2;
          }

      -- nothing is, and T's crew has more members
      go : Dec (missing_of w.task f ≡ 0) → Wanted f
      go (no lack) = short lack
      go (yes e) =
          let few : ones f.crew < w.least = ⊎_elim (λ lack. absurd (lack e)) (λ m. m) a.lacking in
          let x = fresh f.crew (T f.closed) (omega (arith, t.enough f.closed l)) in
          record { row = x.0; mine = x.1; out = x.2; holds = λ lack. absurd (lack e) }

  next : (f : Filling) (n : ℕ) → Part f n → f.closed ≢ w.crews → Next f
  next f n a c =
      record {
        row = row;
        mine = mine;
        tried = record {
          going = c;
          room = omega (arith, ones-with f.crew row x.out, ones-sub (with f.crew row) (T f.closed) grown, t.small f.closed l);
          candidate = record {
            below = bit_below f.free row_limit row (sub_lt row_limit f.free F a.free r.rows) free_row;
            holder = λ lack. r.holders (wanted_of w.task f) row (has_of_sub f.free F a.free row free_row) (x.holds lack);
            free = free_row;
          };
        };
      }
    where
      l : f.closed < w.crews
      l = unfinished w f a.shape c

      x : Wanted f
      x = wanted f n a c

      row : ℕ
      row = x.row

      mine : Has (T f.closed) row
      mine = x.mine

      free_row : Has f.free row
      free_row = ⊎_elim (λ h. h) (λ h. absurd (omega (arith, h.1, x.out))) (a.left f.closed row (omega arith) l mine)

      grown : Sub (with f.crew row) (T f.closed)
      grown =
          sub_of_has (with f.crew row) (T f.closed) (λ u q.
          ⊎_elim (λ h. a.sub u h) (λ h. ap (bit (T f.closed)) (pow_in row u h) ∙ mine) (or_in f.crew (2 ^ row) u q))

  module _ (f : Filling) (n : ℕ) (a : Part f (suc n)) (row : ℕ) (mine : Has (T f.closed) row) (k : Tried w f row) where
    going : f.closed < w.crews
    going = unfinished w f a.shape k.going

    free_row : Has f.free row
    free_row = k.candidate.free

    -- who is in the crew being filled then
    was : (u : ℕ) → Has (with f.crew row) u → Has f.crew u ⊎ (u ≡ row)
    was u q = ⊎_elim inl (λ h. inr (pow_in row u h)) (or_in f.crew (2 ^ row) u q)

    fewer : ones (bit_xor f.free (2 ^ row)) ≤ n
    fewer = omega (arith, ones-drop f.free row free_row, a.fuel)

    still : (u : ℕ) → Has f.free u → row ≢ u → Has (bit_xor f.free (2 ^ row)) u
    still u h e = bit-drop_other f.free row u e ∙ h

    -- the crew does not cover yet
    kept : (missing_of w.task (put_of w f row) ≢ 0) ⊎ (ones (put_of w f row).crew < w.least) → Part (put_of w f row) n
    unfolding place_of
    kept lack =
        record {
          shape = shape_put w f row a.shape;
          free = λ u. omega (arith, drop-sub f.free row free_row u, a.free u);
          sub = λ u q. ⊎_elim (λ h. a.sub u h) (λ h. ap (bit (T f.closed)) h ∙ mine) (was u q);
          left = λ j u l m q. go j u l m q (ℕ_discrete row u);
          held = λ u p q h.
              ⊎_elim
              (λ x. or_in_l f.held (w.holds row) p (a.held u p x h))
              (λ x. or_in_r f.held (w.holds row) p (ap (λ (v : ℕ). bit (w.holds v) p) (sym x) ∙ h))
              (was u q);
          lacking = lack;
          fuel = fewer;
        }
      where
        go : (j u : ℕ) → f.closed ≤ j → j < w.crews → Has (T j) u → Dec (row ≡ u)
            → Has (bit_xor f.free (2 ^ row)) u ⊎ ((j ≡ f.closed) × Has (with f.crew row) u)
        go j u l m q (yes e) =
            inr (
              t.apart j f.closed u m going q (ap (bit (T f.closed)) (sym e) ∙ mine),
              ap (bit (with f.crew row)) (sym e) ∙ bit-with_same f.crew row,
            )
        go j u l m q (no e) =
            ⊎_elim
            (λ h. inl (still u h e))
            (λ h. inr (h.0, or_in_l f.crew (2 ^ row) u h.1))
            (a.left j u l m q)

    -- it covers, and is closed
    shut : Part (close_of (put_of w f row)) n
    unfolding place_of close_of
    shut =
        record {
          shape = shape_close w (put_of w f row) (shape_put w f row a.shape) going;
          free = λ u. omega (arith, drop-sub f.free row free_row u, a.free u);
          sub = λ u q. absurd (omega (arith, bit-none u));
          left = λ j u l m q.
              inl (⊎_elim
              (λ h. still u h (λ e. absurd (let z = t.apart j f.closed u m going q (ap (bit (T f.closed)) (sym e) ∙ mine) in omega arith)))
              (λ h. absurd (let z = h.0 in omega arith))
              (a.left j u (omega arith) m q));
          held = λ u p q. absurd (omega (arith, bit-none u));
          lacking = inl (λ e. r.some (sym (missing_all w.task) ∙ e));
          fuel = fewer;
        }

  -- with n placements to go the search finds a list
  finds : (n : ℕ) (f : Filling) → Part f n → (search n w f).found ≡ true
  finds zero f a =
      ⊎_elim
      (λ e. ap (λ (o : Outcome). o.found) (search-done w f 0 e))
      (λ c. let x = next f 0 a c in absurd (omega (arith, ones-drop f.free x.row x.tried.candidate.free, a.fuel)))
      (same_or_not f.closed w.crews)
  finds (suc n) f a =
      ⊎_elim
      (λ e. ap (λ (o : Outcome). o.found) (search-done w f (suc n) e))
      (λ c.
      let x = next f (suc n) a c in
      let row = x.row in
      ap (λ (o : Outcome). o.found) (search_open w f n c x.tried.room)
      ∙ try_finds (λ g. search n w g) w f row (candidates w f) (among w f row x.tried.candidate (r.plain.begins f row))
      (placed_is w f row (λ g. (search n w g).found ≡ true)
      (λ z m. finds n (close_of (put_of w f row)) (shut f n a row x.mine x.tried))
      (λ z. finds n (put_of w f row) (kept f n a row x.mine x.tried z))))
      (same_or_not f.closed w.crews)

  -- each row of T's crew that is a candidate leads to a list
  pub goes : (n : ℕ) (f : Filling) → Part f (suc n) → (row : ℕ) → Has (T f.closed) row → Tried w f row
      → (search n w (placed_of w f row)).found ≡ true
  goes n f a row mine k =
      placed_is w f row (λ g. (search n w g).found ≡ true)
      (λ z m. finds n (close_of (put_of w f row)) (shut f n a row mine k))
      (λ z. finds n (put_of w f row) (kept f n a row mine k z))

  -- Where T solves it, the search finds a list.
  pub complete : (search (ones F) w (begin F)).found ≡ true
  complete =
      finds (ones F) (begin F)
      (record {
        shape = shape_begin w F;
        free = λ u. omega arith;
        sub = λ u q. absurd (omega (arith, bit-none u));
        left = λ j u l m q. inl (t.free j u m q);
        held = λ u p q. absurd (omega (arith, bit-none u));
        lacking = inl (λ e. r.some (sym (missing_all w.task) ∙ e));
        fuel = omega arith;
      })
