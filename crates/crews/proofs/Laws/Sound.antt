-- What the search ends with is a crew list, whichever rows may begin a crew and whenever one that covers may close; and the crews are eight
-- sets of which those past d are 0. Each is an invariant of a placement (`search_keeps`). Assumes nothing.
use Rattle.std.specs.Prelude.{◌≡◌, refl, true, false, ◌⊎◌, ◌≢◌, ℕ, zero, suc, ◌+◌, ◌-◌, ◌^◌, ◌≤◌, ◌<◌, eqb, length, get_or, set, take, replicate}
use Rattle.std.proofs.Math.Path.{sym, ap}
use Rattle.std.proofs.Common.{◌∙◌, subst, inl, inr, lt_of_lt_of_le, arith, length-set, pow_mono, pow_pos, eq-eqb, ne_eqb, get_or-set_same, get_or-set_other, get_or-take, length-take-le}
use Rattle.std.proofs.Math.Logic.{⊎_elim}
use Rattle.std.proofs.Math.Decide.{dec_lt, ℕ_discrete}
use Rattle.std.specs.Int.Bits.{bit_xor}
use Rattle.std.specs.Int.Count.{ones}
use Rattle.sets.specs.Sets.{bit, Has, Sub, Apart, with, bit_le, bit-none, bit_below, bit-and, bit-minus, bit-full, digit, or_in, or_in_l, pow_in}
use Rattle.sets.proofs.Sets.{bit-with_same}
use Rattle.sets.specs.Sets.{lt_of_bits, sub_of_missing}
use Rattle.sets.proofs.Sets.{ones_none, ones-with, apart_of_has, has_of_sub, bit-drop_same, drop-sub}
use Rattle.sets.specs.Laws.Sums.{either}
use Rattle.roster.specs.declared.Table.{Table}
use Rattle.roster.specs.Limits.{row_limit, crew_limit}
use Rattle.roster.specs.Meaning.{held, Covers, CrewList, least_members}
use Rattle.roster.specs.Replies.{no_crews, Eight}
use Rattle.crews.specs.declared.Filling.{Filling}
use Rattle.crews.specs.Filling.{Work, missing_of, place_of, close_of, placed_of, search, begin, present}
use Rattle.crews.proofs.Laws.Search.{put_of, placed_is, Tried, search-none, search_keeps}

-- ---- the shape of the half-filled crews: room for eight, and none stored that is not closed

pub record Shape (w : Work) (f : Filling) : Type 0 where
  pub eight : length f.crews ≡ crew_limit
  pub closed : f.closed ≤ w.crews
  pub later : (j : ℕ) → f.closed ≤ j → get_or f.crews j 0 ≡ 0

pub shape_put : (w : Work) (f : Filling) (row : ℕ) → Shape w f → Shape w (put_of w f row)
unfolding place_of
shape_put w f row s = record { eight = s.eight; closed = s.closed; later = s.later }

pub shape_close : (w : Work) (f : Filling) → Shape w f → f.closed < w.crews → Shape w (close_of f)
unfolding close_of
shape_close w f s l =
    record {
      eight = length-set f.crews f.closed f.crew ∙ s.eight;
      closed = omega arith;
      later = λ j h. get_or-set_other f.crews f.closed j f.crew 0 (λ e. omega arith) ∙ s.later j (omega arith);
    }

zeros-at : (n j : ℕ) → ◌≡◌ {A = ℕ} (get_or (replicate n 0) j 0) 0
zeros-at zero j = refl
zeros-at (suc n) zero = refl
zeros-at (suc n) (suc j) = zeros-at n j

pub none-at : (j : ℕ) → get_or no_crews j 0 ≡ 0
none-at j = zeros-at crew_limit j

pub shape_begin : (w : Work) (F : ℕ) → Shape w (begin F)
shape_begin w F =
    record { eight = refl; closed = omega arith; later = λ j h. none-at j }

-- a list that is tried further is not complete
pub unfinished : (w : Work) (f : Filling) → Shape w f → f.closed ≢ w.crews → f.closed < w.crews
unfinished w f s n = omega (arith, s.closed)

shape_placed : (w : Work) (f : Filling) (row : ℕ) → Shape w f → Tried w f row → Shape w (placed_of w f row)
unfolding place_of
shape_placed w f row s k =
    let l = unfinished w f s k.going in
    placed_is w f row (Shape w) (λ z m. shape_close w (put_of w f row) (shape_put w f row s) l) (λ z. shape_put w f row s)

pub eight : (n : ℕ) (w : Work) (F : ℕ) → Eight w.crews (search n w (begin F)).crews
eight n w F =
    ⊎_elim
    (λ e.
    search_keeps w (Shape w) (Eight w.crews) (λ f row s k. shape_placed w f row s k) (λ f s c. record { many = s.eight; past = λ j h. s.later j (omega arith) }) n
    (begin F) (shape_begin w F) e)
    (λ e. subst (Eight w.crews) (sym (search-none n w (begin F) e)) (record { many = refl; past = λ j h. none-at j }))
    (either (search n w (begin F)).found)

-- ---- the crew at each place: the one being filled follows those that are closed

unfoldable pub crew : Filling → ℕ → ℕ
crew f j = elim (eqb j f.closed) [ true ↦ f.crew | false ↦ get_or f.crews j 0 ]

module _ (f : Filling) where
  pub filled_at : (j : ℕ) → j ≡ f.closed → crew f j ≡ f.crew
  unfolding crew
  filled_at j e = rw (eq-eqb j f.closed e, crew)

  pub closed_at : (j : ℕ) → j ≢ f.closed → crew f j ≡ get_or f.crews j 0
  unfolding crew
  closed_at j n = rw (ne_eqb j f.closed n, crew)

-- closing a crew leaves each at its place
pub close_at : (w : Work) (f : Filling) → Shape w f → f.closed < crew_limit → (j : ℕ) → crew (close_of f) j ≡ crew f j
unfolding close_of
close_at w f s l j = go (ℕ_discrete j f.closed) (ℕ_discrete j (f.closed + 1))
  where
    go : Dec (j ≡ f.closed) → Dec (j ≡ f.closed + 1) → crew (close_of f) j ≡ crew f j
    go (yes e) _ =
        closed_at (close_of f) j (λ z. omega arith) ∙ ap (λ (i : ℕ). get_or (set f.crews f.closed f.crew) i 0) e
        ∙ get_or-set_same f.crews f.closed f.crew 0 (omega (arith, s.eight)) ∙ sym (filled_at f j e)
    go (no n) (yes e) =
        filled_at (close_of f) j e ∙ sym (s.later j (omega arith)) ∙ sym (closed_at f j n)
    go (no n) (no m) =
        closed_at (close_of f) j m ∙ get_or-set_other f.crews f.closed j f.crew 0 n ∙ sym (closed_at f j n)

-- ---- what each state that the search reaches has of a crew list, where F are the rows that were free at first

-- "together holding all of P", by what the work says that each row holds
abbrev pub Held : Work → ℕ → Type 0
Held w c = (p : ℕ) → Has w.task p → (u : ℕ) × Has c u × Has (w.holds u) p

pub record State (w : Work) (F : ℕ) (f : Filling) : Type 0 where
  pub shape : Shape w f
  pub free : Sub f.free F
  pub placed : (j u : ℕ) → Has (crew f j) u → Has F u × (bit f.free u ≡ 0)
  pub apart : (i j u : ℕ) → Has (crew f i) u → Has (crew f j) u → i ≡ j
  pub small : (j : ℕ) → ones (crew f j) ≤ w.size
  pub held : (p : ℕ) → Has f.held p → (u : ℕ) × Has f.crew u × Has (w.holds u) p
  pub whole : (j : ℕ) → j < f.closed → Held w (crew f j)
  pub enough : (j : ℕ) → j < f.closed → w.least ≤ ones (crew f j)

module _ (w : Work) (few : w.crews ≤ crew_limit) (F : ℕ) (f : Filling) (row : ℕ) (s : State w F f) (k : Tried w f row) where
  going : f.closed < w.crews
  going = unfinished w f s.shape k.going

  joined : (j : ℕ) → j ≡ f.closed → crew (put_of w f row) j ≡ with f.crew row
  unfolding place_of
  joined j e = filled_at (put_of w f row) j e

  there : (j : ℕ) → j ≢ f.closed → crew (put_of w f row) j ≡ crew f j
  unfolding place_of
  there j n = closed_at (put_of w f row) j n ∙ sym (closed_at f j n)

  free_row : Has f.free row
  free_row = k.candidate.free

  -- who is in a crew then
  was : (j u : ℕ) → Has (crew (put_of w f row) j) u → Has (crew f j) u ⊎ ((j ≡ f.closed) × (u ≡ row))
  was j u q = go (ℕ_discrete j f.closed)
    where
      go : Dec (j ≡ f.closed) → Has (crew f j) u ⊎ ((j ≡ f.closed) × (u ≡ row))
      go (yes e) =
          ⊎_elim (λ h. inl (ap (λ (x : ℕ). bit x u) (filled_at f j e) ∙ h)) (λ h. inr (e, pow_in row u h))
          (or_in f.crew (2 ^ row) u (sym (ap (λ (x : ℕ). bit x u) (joined j e)) ∙ q))
      go (no n) = inl (sym (ap (λ (x : ℕ). bit x u) (there j n)) ∙ q)

  pub stays : (j u : ℕ) → Has (crew f j) u → Has (crew (put_of w f row) j) u
  stays j u q = go (ℕ_discrete j f.closed)
    where
      go : Dec (j ≡ f.closed) → Has (crew (put_of w f row) j) u
      go (yes e) =
          ap (λ (x : ℕ). bit x u) (joined j e)
          ∙ or_in_l f.crew (2 ^ row) u (ap (λ (x : ℕ). bit x u) (sym (filled_at f j e)) ∙ q)
      go (no n) = ap (λ (x : ℕ). bit x u) (there j n) ∙ q

  -- a row that is free was in no crew
  new : (j u : ℕ) → Has (crew f j) u → u ≡ row → ⊥
  new j u q e = let z = (s.placed j u q).1 in omega (arith, ap (bit f.free) e, free_row)

  state_put : State w F (put_of w f row)
  unfolding place_of
  state_put =
      record {
        shape = shape_put w f row s.shape;
        free = λ u. omega (arith, drop-sub f.free row free_row u, s.free u);
        placed = λ j u q.
            ⊎_elim
            (λ h.
            let x = s.placed j u h in
            (x.0, omega (arith, drop-sub f.free row free_row u, x.1)))
            (λ h. (
              ap (bit F) h.1 ∙ has_of_sub f.free F s.free row free_row,
              ap (bit (bit_xor f.free (2 ^ row))) h.1 ∙ bit-drop_same f.free row free_row,
            ))
            (was j u q);
        apart = λ i j u q r.
            ⊎_elim
            (λ h. ⊎_elim (λ g. s.apart i j u h g) (λ g. absurd (new i u h g.1)) (was j u r))
            (λ h. ⊎_elim (λ g. absurd (new j u g h.1)) (λ g. h.0 ∙ sym g.0) (was j u r))
            (was i u q);
        small = λ j. grown j (ℕ_discrete j f.closed);
        held = λ p q.
            ⊎_elim
            (λ h. let x = s.held p h in (x.0, or_in_l f.crew (2 ^ row) x.0 x.1, x.2))
            (λ h. (row, bit-with_same f.crew row, h))
            (or_in f.held (w.holds row) p q);
        whole = λ j l p q. let x = s.whole j l p q in (x.0, stays j x.0 x.1, x.2);
        enough = λ j l. omega (arith, ap ones (there j (λ e. omega arith)), s.enough j l);
      }
    where
      grown : (j : ℕ) → Dec (j ≡ f.closed) → ones (crew (put_of w f row) j) ≤ w.size
      grown j (yes e) =
          let z : bit f.crew row ≡ 0 =
          ⊎_elim (λ o. o) (λ o. absurd (new j row (ap (λ (x : ℕ). bit x row) (filled_at f j e) ∙ o) refl)) (digit f.crew row) in
          omega (arith, ap ones (joined j e), ones-with f.crew row z, k.room)
      grown j (no n) = omega (arith, ap ones (there j n), s.small j)

-- the crew that is being filled covers: it is closed
state_close : (w : Work) → w.crews ≤ crew_limit → (F : ℕ) (f : Filling) → State w F f → f.closed < w.crews → missing_of w.task f ≡ 0
    → w.least ≤ ones f.crew → State w F (close_of f)
unfolding close_of
state_close w few F f s l z many =
    record {
      shape = shape_close w f s.shape l;
      free = s.free;
      placed = λ j u q. s.placed j u (before j u q);
      apart = λ i j u q r. s.apart i j u (before i u q) (before j u r);
      small = λ j. omega (arith, ap ones (same j), s.small j);
      held = λ p q. absurd (omega (arith, bit-none p));
      whole = λ j m. subst (Held w) (sym (same j)) (go j m (ℕ_discrete j f.closed));
      enough = λ j m. omega (arith, ap ones (same j), fill j m (ℕ_discrete j f.closed));
    }
  where
    same : (j : ℕ) → crew (close_of f) j ≡ crew f j
    same = close_at w f s.shape (omega arith)

    before : (j u : ℕ) → Has (crew (close_of f) j) u → Has (crew f j) u
    before j u q = ap (λ (x : ℕ). bit x u) (sym (same j)) ∙ q

    fill : (j : ℕ) → j < f.closed + 1 → Dec (j ≡ f.closed) → w.least ≤ ones (crew f j)
    fill j m (yes e) = omega (arith, ap ones (filled_at f j e), many)
    fill j m (no n) = s.enough j (omega arith)

    go : (j : ℕ) → j < f.closed + 1 → Dec (j ≡ f.closed) → Held w (crew f j)
    go j m (yes e) p q =
        let x = s.held p (has_of_sub w.task f.held (sub_of_missing w.task f.held z) p q) in
        (x.0, ap (λ (c : ℕ). bit c x.0) (filled_at f j e) ∙ x.1, x.2)
    go j m (no n) p q = s.whole j (omega arith) p q

pub state_placed : (w : Work) → w.crews ≤ crew_limit → (F : ℕ) (f : Filling) (row : ℕ) → State w F f → Tried w f row → State w F (placed_of w f row)
unfolding place_of
state_placed w few F f row s k =
    let l = unfinished w f s.shape k.going in
    placed_is w f row (State w F)
    (λ z m. state_close w few F (put_of w f row) (state_put w few F f row s k) l z m)
    (λ z. state_put w few F f row s k)

pub state_begin : (w : Work) (F : ℕ) → State w F (begin F)
state_begin w F =
    record {
      shape = shape_begin w F;
      free = λ u. omega arith;
      placed = λ j u q. absurd (nobody j u q);
      apart = λ i j u q r. absurd (nobody i u q);
      small = λ j. omega (arith, ap ones (empty j), ones_none);
      held = λ p q. absurd (omega (arith, bit-none p));
      whole = λ j l. absurd (omega arith);
      enough = λ j l. absurd (omega arith);
    }
  where
    empty : (j : ℕ) → crew (begin F) j ≡ 0
    empty j = go (ℕ_discrete j 0)
      where
        go : Dec (j ≡ 0) → crew (begin F) j ≡ 0
        go (yes e) = filled_at (begin F) j e
        go (no n) = closed_at (begin F) j n ∙ none-at j

    nobody : (j u : ℕ) → Has (crew (begin F) j) u → ⊥
    nobody j u q = omega (arith, ap (λ (x : ℕ). bit x u) (empty j), bit-none u)

-- ---- over a table

-- the work is about the table: rows hold what they hold there, and the holders of a permission are those rows
pub record Agrees (table : Table) (w : Work) : Type 0 where
  pub holds : (u : ℕ) → u < table.rows → w.holds u ≡ held table w.task u
  pub holders : (p u : ℕ) → u < table.rows → bit (w.holders p) u ≡ bit (w.holds u) p

-- who is present: a row of the table that is not absent
pub present_in : (table : Table) (A u : ℕ) → table.rows ≤ row_limit → Has (present table A) u → (u < table.rows) × (bit A u ≡ 0)
present_in table A u h q = go (dec_lt A (2 ^ row_limit))
  where
    full : 2 ^ table.rows - 1 < 2 ^ table.rows
    full = omega (arith, pow_pos table.rows)

    go : Dec (A < 2 ^ row_limit) → (u < table.rows) × (bit A u ≡ 0)
    go (yes l) =
        let e = bit-minus row_limit (2 ^ table.rows - 1) A u (lt_of_lt_of_le full (pow_mono h)) l in (
          bit_below (2 ^ table.rows - 1) table.rows u full (omega (arith, bit_le (2 ^ table.rows - 1) u)),
          omega (arith, bit_le (2 ^ table.rows - 1) u),
        )
    go (no n) =
        let z : (2 ^ row_limit - 1) - A ≡ 0 = omega arith in
        absurd (omega (arith, bit-and (2 ^ table.rows - 1) ((2 ^ row_limit - 1) - A) u, ap (λ (x : ℕ). bit x u) z, bit-none u))

pub in_present : (table : Table) (A u : ℕ) → table.rows ≤ row_limit → A < 2 ^ table.rows → u < table.rows → bit A u ≡ 0 → Has (present table A) u
in_present table A u h a l z =
    let full : 2 ^ table.rows - 1 < 2 ^ table.rows = omega (arith, pow_pos table.rows) in
    omega (
      arith,
      bit-minus row_limit (2 ^ table.rows - 1) A u (lt_of_lt_of_le full (pow_mono h)) (lt_of_lt_of_le a (pow_mono h)),
      bit-full table.rows u l,
    )

-- crews of which each is in order are a list
module _ (table : Table) (rows : table.rows ≤ row_limit) (A : ℕ) (w : Work) (few : w.crews ≤ crew_limit) (agrees : Agrees table w)
    (ed : ℕ) (least : least_members ed ≤ w.least) where
  listed : (f : Filling) → State w (present table A) f → f.closed ≡ w.crews → CrewList table w.task w.crews w.size ed A (take w.crews f.crews)
  listed f s e =
      record {
        many = length-take-le w.crews f.crews (omega (arith, s.shape.eight));
        rows = λ j l. subst (λ (c : ℕ). c < 2 ^ table.rows) (sym (at j l)) (lt_of_bits table.rows (crew f j) (λ u h. outside j u h (digit (crew f j) u)));
        disjoint = λ i j l m n.
            subst (λ (c : ℕ). Apart c (get_or (take w.crews f.crews) j 0)) (sym (at i l))
            (subst (λ (c : ℕ). Apart (crew f i) c) (sym (at j m)) (apart_of_has (crew f i) (crew f j) (λ u q r. n (s.apart i j u q r))));
        present = λ j l.
            subst (λ (c : ℕ). Apart c A) (sym (at j l)) (apart_of_has (crew f j) A (λ u q r. omega (arith, (here_in j u q).1)));
        small = λ j l. subst (λ (c : ℕ). ones c ≤ w.size) (sym (at j l)) (s.small j);
        enough = λ j l. subst (λ (c : ℕ). least_members ed ≤ ones c) (sym (at j l)) (omega (arith, s.enough j (omega arith)));
        whole = λ j l. subst (Covers table w.task) (sym (at j l)) (λ p q.
            let x = s.whole j (omega arith) p q in
            (x.0, x.1, ap (λ (m : ℕ). bit m p) (sym (agrees.holds x.0 (here_in j x.0 x.1).0)) ∙ x.2));
      }
    where
      at : (j : ℕ) → j < w.crews → get_or (take w.crews f.crews) j 0 ≡ crew f j
      at j l = get_or-take w.crews f.crews j 0 l ∙ sym (closed_at f j (λ z. omega arith))

      here_in : (j u : ℕ) → Has (crew f j) u → (u < table.rows) × (bit A u ≡ 0)
      here_in j u q = present_in table A u rows (s.placed j u q).0

      outside : (j u : ℕ) → table.rows ≤ u → (bit (crew f j) u ≡ 0) ⊎ (bit (crew f j) u ≡ 1) → bit (crew f j) u ≡ 0
      outside j u h (inl z) = z
      outside j u h (inr o) = absurd (omega (arith, (here_in j u o).0))

  -- What the search finds is a crew list, for any rule of beginning and any least number of members.
  pub sound : (n : ℕ) → (search n w (begin (present table A))).found ≡ true
      → CrewList table w.task w.crews w.size ed A (take w.crews (search n w (begin (present table A))).crews)
  sound n =
      search_keeps w (State w (present table A)) (λ cs. CrewList table w.task w.crews w.size ed A (take w.crews cs))
      (λ f row s k. state_placed w few (present table A) f row s k) listed n (begin (present table A)) (state_begin w (present table A))
