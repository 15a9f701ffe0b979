-- One step of the definition at a time: what `search` under the rule and `try_each` come to by the facts that a program tests, and how the
-- allowance goes with them. Assumes nothing.
use Rattle.std.specs.Prelude.{◌≡◌, ◌≢◌, Bool, true, false, ◌&&◌, List, [], ◌∷◌, leb}
use Rattle.std.proofs.Math.Path.{refl, ap}
use Rattle.std.proofs.Common.{sym, ap₂, ◌∙◌, true≢false, add_assoc, add-zero, lt_of_lt_of_le, pow_mono, pow_pos}
use Rattle.std.proofs.Math.Logic.{⊎_elim}
use Prim.Native.Nat.{ℕ, zero, suc, ◌+◌, ◌-◌, ◌^◌, ◌≤◌, ◌<◌, min}
use Rattle.std.proofs.Math.Decide.{dec_le}
use native.Mathlib.Omega.{arith}
use Rattle.std.specs.Int.Bits.{bit_and}
use Rattle.std.specs.Int.Count.{ones}
use Rattle.std.proofs.Math.Dec.{eqb}
use borrow.Author.Tests.{eq-eqb, ne_eqb, eqb-true, eqb-false, le-leb, lt-leb, leb-true, leb-false}
use Rattle.sets.specs.Sets.{bit, minus, bit-none, bit_high, bit-and, bit_not, bit-full, ext_all, missing_all}
use Rattle.sets.proofs.Sets.{ones-empty}
use Rattle.sets.specs.Sums.{to_n}
use Rattle.sets.specs.Members.{members, set_of}
use Rattle.sets.specs.Laws.Sums.{either, to_n-true, to_n-false}
use Rattle.sets.proofs.Laws.Build.{set_of-bit}
use Rattle.sets.proofs.Laws.Members.{members-empty, members_ext, filter-members}
use Rattle.roster.specs.Limits.{row_limit}
use Rattle.roster.specs.Replies.{no_crews}
use Rattle.crews.specs.declared.Filling.{Filling}
use Rattle.crews.specs.declared.Ending.TheVariants.{Complete, Exhausted, Undecided}
use Rattle.crews.specs.declared.Filled.{Filled}
use Rattle.crews.specs.Filling.{Work, Outcome, nothing, complete, after, missing_of, place_of, close_of, closes_of, placed_of, pool_of, candidates, try_each, search, begin, search_from, orderly}
use Rattle.crews.specs.Filled.{ending_of, filled_of, found_from}
use Rattle.crews.specs.Inner.Placing.{closed_where, full, stuck, eligible_of}
use Rattle.crews.proofs.Laws.Search.{pool_in, search_out, search_open}

-- ---- the allowance

pub filled-fits : (most spent : ℕ) (o : Outcome) → spent + o.need ≤ most
    → filled_of most spent o ≡ record { ending = ending_of o.found; crews = o.crews; units = spent + o.need }
unfolding filled_of
filled-fits most spent o h = rw (le-leb _ _ h, filled_of)

pub filled-over : (most spent : ℕ) (o : Outcome) → most < spent + o.need
    → filled_of most spent o ≡ record { ending = Undecided; crews = no_crews; units = most }
unfolding filled_of
filled-over most spent o h = rw (lt-leb _ _ h, filled_of)

-- placements before are units spent before
pub filled-after : (most spent n : ℕ) (o : Outcome) → filled_of most spent (after n o) ≡ filled_of most (spent + n) o
unfolding filled_of
filled-after most spent n o =
    ap (λ (x : ℕ). elim (leb x most) [
      | true ↦ record { ending = ending_of o.found; crews = o.crews; units = x }
      | false ↦ record { ending = Undecided; crews = no_crews; units = most }
    ]) (sym (add_assoc spent n o.need))

-- the outcome is one of these three
pub data Judged (most spent : ℕ) (o : Outcome) (r : Filled) : Type 0 where
  is_complete : o.found ≡ true → r.ending ≡ Complete → spent + o.need ≤ most → Judged most spent o r
  is_exhausted : o.found ≡ false → r.ending ≡ Exhausted → r.units ≡ spent + o.need → r.units ≤ most → Judged most spent o r
  is_over : most < spent + o.need → r.ending ≡ Undecided → Judged most spent o r

pub judge : (most spent : ℕ) (o : Outcome) (r : Filled) → r ≡ filled_of most spent o → Judged most spent o r
judge most spent o r e =
    ⊎_elim
    (λ l.
    let h = leb-true _ _ l in
    let w = e ∙ filled-fits most spent o h in
    let u = ap (λ (x : Filled). x.units) w in
    ⊎_elim
    (λ b. is_complete b (ap (λ (x : Filled). x.ending) w ∙ ap ending_of b) h)
    (λ b. is_exhausted b (ap (λ (x : Filled). x.ending) w ∙ ap ending_of b) u (omega arith))
    (either o.found))
    (λ l.
    let h = leb-false _ _ l in
    is_over h (ap (λ (x : Filled). x.ending) (e ∙ filled-over most spent o h)))
    (either (leb (spent + o.need) most))

-- no unit is spent by what is at once complete, or at once exhausted
pub says_complete : (most spent : ℕ) (crews : List ℕ) (o : Outcome) → o ≡ complete crews → spent ≤ most
    → record { ending = Complete; crews = crews; units = spent } ≡ filled_of most spent o
says_complete most spent crews o e h =
    sym (ap (filled_of most spent) e ∙ filled-fits most spent (complete crews) (omega arith)
    ∙ ap (λ (n : ℕ). record { ending = Complete; crews = crews; units = n }) (add-zero spent))

pub says_exhausted : (most spent : ℕ) (o : Outcome) → o ≡ nothing → spent ≤ most
    → record { ending = Exhausted; crews = no_crews; units = spent } ≡ filled_of most spent o
says_exhausted most spent o e h =
    sym (ap (filled_of most spent) e ∙ filled-fits most spent nothing (omega arith)
    ∙ ap (λ (n : ℕ). record { ending = Exhausted; crews = no_crews; units = n }) (add-zero spent))

-- ---- the candidates in turn

module _ (deeper : Filling → Outcome) (w : Work) (f : Filling) where
  pub try_none : try_each deeper w f [] ≡ nothing
  unfolding try_each
  try_none = refl

  module _ (row : ℕ) (rest : List ℕ) where
    -- what comes of the row's placement
    abbrev tried : Outcome
    tried = deeper (placed_of w f row)

    pub try_works : tried.found ≡ true → try_each deeper w f (row ∷ rest) ≡ after 1 tried
    unfolding try_each
    try_works e = rw (e, try_each) (ap (λ (b : Bool). record { found = b; crews = tried.crews; need = 1 + tried.need }) e)

    pub try_fails : tried.found ≡ false → try_each deeper w f (row ∷ rest) ≡ after (1 + tried.need) (try_each deeper w f rest)
    unfolding try_each
    try_fails e = rw (e, try_each)

    -- a placement costs a unit, and what lies below it
    try_need : 1 + tried.need ≤ (try_each deeper w f (row ∷ rest)).need
    try_need =
        ⊎_elim (λ e. let q = ap (λ (o : Outcome). o.need) (try_works e) in omega arith)
        (λ e. let q = ap (λ (o : Outcome). o.need) (try_fails e) in omega arith) (either tried.found)

    module _ (most spent : ℕ) where
      -- no unit is left for the placement
      pub turn_spent : spent ≤ most → most ≤ spent
          → record { ending = Undecided; crews = no_crews; units = most } ≡ filled_of most spent (try_each deeper w f (row ∷ rest))
      turn_spent l m = let n = try_need in sym (filled-over most spent (try_each deeper w f (row ∷ rest)) (omega arith))

      module _ (r : Filled) (e : r ≡ filled_of most (spent + 1) tried) where
        -- it is complete or undecided, and so is the whole
        pub turn-ended : r.ending ≢ Exhausted → r ≡ filled_of most spent (try_each deeper w f (row ∷ rest))
        turn-ended v = go (judge most (spent + 1) tried r e)
          where
            go : Judged most (spent + 1) tried r → r ≡ filled_of most spent (try_each deeper w f (row ∷ rest))
            go (is_complete b x fits) = e ∙ sym (filled-after most spent 1 tried) ∙ ap (filled_of most spent) (sym (try_works b))
            go (is_exhausted b x u l) = absurd (v x)
            go (is_over h x) =
                let n = try_need in
                e ∙ filled-over most (spent + 1) tried h ∙ sym (filled-over most spent (try_each deeper w f (row ∷ rest)) (omega arith))

        -- the other candidates, at what it took
        pub turn_exhausted : r.ending ≡ Exhausted
            → (filled_of most spent (try_each deeper w f (row ∷ rest)) ≡ filled_of most r.units (try_each deeper w f rest)) × (r.units ≤ most)
        turn_exhausted v = go (judge most (spent + 1) tried r e)
          where
            go : Judged most (spent + 1) tried r
                → (filled_of most spent (try_each deeper w f (row ∷ rest)) ≡ filled_of most r.units (try_each deeper w f rest)) × (r.units ≤ most)
            go (is_complete b x fits) = let z : ◌≡◌ {A = ℕ} 0 1 = cc in absurd (omega arith)
            go (is_exhausted b x u l) = (
              ap (filled_of most spent) (try_fails b) ∙ filled-after most spent (1 + tried.need) (try_each deeper w f rest)
                  ∙ ap (λ (n : ℕ). filled_of most n (try_each deeper w f rest)) (sym (add_assoc spent 1 tried.need) ∙ sym u),
              l,
            )
            go (is_over h x) = let z : ◌≡◌ {A = ℕ} 0 1 = cc in absurd (omega arith)

-- ---- a crew that closes, and one that is full and cannot

module _ (task least : ℕ) (f : Filling) where
  pub shut : closes_of task least f ≡ true → closed_where task least f ≡ close_of f
  unfolding closed_where
  shut e = rw (e, closed_where)

  pub short : closes_of task least f ≡ false → closed_where task least f ≡ f
  unfolding closed_where
  short e = rw (e, closed_where)

  -- either way no row is placed or freed
  pub closed_free : (closed_where task least f).free ≡ f.free
  unfolding close_of
  closed_free =
      ⊎_elim (λ e. ap (λ (g : Filling). g.free) (shut e)) (λ e. ap (λ (g : Filling). g.free) (short e)) (either (closes_of task least f))

  module _ (size : ℕ) where
    pub covering : closes_of task least f ≡ true → stuck task size least f ≡ false
    unfolding stuck
    covering e = rw (e, stuck)

    pub lacking : closes_of task least f ≡ false → stuck task size least f ≡ full size f
    unfolding stuck
    lacking e = rw (e, stuck)

    -- what is stuck cannot be closed, and is full
    pub stuck_is : stuck task size least f ≡ true → (closes_of task least f ≡ false) × (full size f ≡ true)
    stuck_is s =
        ⊎_elim
        (λ e. absurd (true≢false (sym s ∙ covering e)))
        (λ e. (e, sym (lacking e) ∙ s))
        (either (closes_of task least f))

-- a crew lacks something, or has all and members enough
pub closes_lacks : (task least : ℕ) (f : Filling) → missing_of task f ≢ 0 → closes_of task least f ≡ false
unfolding closes_of
closes_lacks task least f n = ap (λ (b : Bool). b && leb least (ones f.crew)) (ne_eqb _ 0 n)

pub closes_whole : (task least : ℕ) (f : Filling) → missing_of task f ≡ 0 → closes_of task least f ≡ leb least (ones f.crew)
unfolding closes_of
closes_whole task least f e = ap (λ (b : Bool). b && leb least (ones f.crew)) (eq-eqb _ 0 e)

-- a crew just begun lacks the whole task
pub begun_short : (task least free : ℕ) → task ≢ 0 → closed_where task least (begin free) ≡ begin free
begun_short task least free n = short task least (begin free) (closes_lacks task least (begin free) (λ e. n (sym (missing_all task) ∙ e)))

-- ---- the search under the rule

module _ (f : Filling) (rows : ℕ) where
  pub eligible_first : f.crew ≡ 0 → eligible_of f rows ≡ minus row_limit rows (2 ^ min f.from row_limit - 1)
  unfolding eligible_of
  eligible_first e = rw (eq-eqb _ 0 e, eligible_of)

  pub eligible_next : f.crew ≢ 0 → eligible_of f rows ≡ rows
  unfolding eligible_of
  eligible_next n = rw (ne_eqb _ 0 n, eligible_of)

  -- they are some of the rows
  pub eligible_in : (i : ℕ) → bit (eligible_of f rows) i ≤ bit rows i
  eligible_in i =
      ⊎_elim
      (λ e.
      let z = ap (λ (x : ℕ). bit x i) (eligible_first (eqb-true _ 0 e)) in
      omega (arith, bit-and rows ((2 ^ row_limit - 1) - (2 ^ min f.from row_limit - 1)) i))
      (λ e. omega (arith, ap (λ (x : ℕ). bit x i) (eligible_next (eqb-false _ 0 e))))
      (either (eqb f.crew 0))

-- the rows from k on
from_on : (k i : ℕ) → i < row_limit → bit ((2 ^ row_limit - 1) - (2 ^ min k row_limit - 1)) i ≡ to_n (leb k i)
from_on k i l = bit_not row_limit (2 ^ min k row_limit - 1) i small l ∙ go (dec_le k i)
  where
    small : 2 ^ min k row_limit - 1 < 2 ^ row_limit
    small =
        let within : min k row_limit ≤ row_limit = omega arith in
        lt_of_lt_of_le (omega (arith, pow_pos (min k row_limit))) (pow_mono within)

    go : Dec (k ≤ i) → 1 - bit (2 ^ min k row_limit - 1) i ≡ to_n (leb k i)
    go (yes h) =
        omega (arith, bit_high (2 ^ min k row_limit - 1) (min k row_limit) i (omega (arith, pow_pos (min k row_limit))) (omega arith), to_n-true (leb k i) (le-leb k i h))
    go (no n) = omega (arith, bit-full (min k row_limit) i (omega arith), to_n-false (leb k i) (lt-leb k i (omega arith)))

module _ (holds holders : ℕ → ℕ) (P d t least : ℕ) (f : Filling) where
  abbrev rule : Work
  rule = orderly holds holders P d t least

  pub placed-orderly : (row : ℕ) → placed_of rule f row ≡ closed_where P least (place_of f row (holds row))
  unfolding placed_of closed_where
  placed-orderly row = refl

  -- the free rows that hold the permission wanted, or all of them where none is
  abbrev all : ℕ
  all = pool_of holders (missing_of P f) f.free

  pub candidates-orderly : candidates rule f ≡ members 0 row_limit (eligible_of f all)
  unfolding candidates
  candidates-orderly =
      ⊎_elim
      (λ (e : eqb f.crew 0 ≡ true).
      rw (e, candidates)
      (filter-members (leb f.from) row_limit all
      ∙ members_ext 0 row_limit (bit_and (set_of row_limit (leb f.from)) all) (minus row_limit all (2 ^ min f.from row_limit - 1)) above
      ∙ ap (members 0 row_limit) (sym (eligible_first f all (eqb-true _ 0 e)))))
      (λ (e : eqb f.crew 0 ≡ false). rw (e, candidates) (ap (members 0 row_limit) (sym (eligible_next f all (eqb-false _ 0 e)))))
      (either (eqb f.crew 0))
    where
      above : (i : ℕ) → i < row_limit
          → bit (bit_and (set_of row_limit (leb f.from)) all) i ≡ bit (minus row_limit all (2 ^ min f.from row_limit - 1)) i
      above i l =
          omega (
            arith,
            bit-and (set_of row_limit (leb f.from)) all i,
            bit-and all ((2 ^ row_limit - 1) - (2 ^ min f.from row_limit - 1)) i,
            set_of-bit row_limit (leb f.from) i l,
            from_on f.from i l,
          )

  -- where no row is free there is none to try
  pub search-tries : f.closed ≢ rule.crews → ones f.crew < rule.size
      → search (ones f.free) rule f ≡ try_each (λ g. search (ones f.free - 1) rule g) rule f (members 0 row_limit (eligible_of f all))
  search-tries e h = go (ones f.free) refl
    where
      empty : ones f.free ≡ 0 → eligible_of f all ≡ 0
      empty z =
          ext_all (eligible_of f all) 0 (λ i.
          omega (arith, eligible_in f all i, pool_in holders (missing_of P f) f.free i, ap (λ (x : ℕ). bit x i) (ones-empty f.free z), bit-none i))

      go : (n : ℕ) → ones f.free ≡ n → search n rule f ≡ try_each (λ g. search (n - 1) rule g) rule f (members 0 row_limit (eligible_of f all))
      go zero z =
          search_out rule f e ∙ sym (try_none (λ g. search (0 - 1) rule g) rule f)
          ∙ ap (try_each (λ g. search (0 - 1) rule g) rule f) (sym (members-empty row_limit) ∙ ap (members 0 row_limit) (sym (empty z)))
      go (suc n) z =
          let same : n ≡ suc n - 1 = omega arith in
          search_open rule f n e h
          ∙ ap₂ (λ (k : ℕ) (l : List ℕ). try_each (λ g. search k rule g) rule f l) same candidates-orderly

-- ---- no more crews than a reply has room for

module _ (w : Work) (free : ℕ) where
  pub found_few : w.task ≢ 0 → w.crews ≤ 8 → found_from w free ≡ search_from w free
  unfolding found_from
  found_few n l = rw (le-leb 1 w.task (omega (arith, n)), le-leb _ _ l, found_from)

  pub found-many : w.task ≢ 0 → 8 < w.crews → found_from w free ≡ nothing
  unfolding found_from
  found-many n l = rw (le-leb 1 w.task (omega (arith, n)), lt-leb _ _ l, found_from)

  pub found-idle : w.task ≡ 0 → found_from w free ≡ nothing
  unfolding found_from
  found-idle z = rw (lt-leb 1 w.task (omega (arith, z)), found_from)
