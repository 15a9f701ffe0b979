-- The definition step by step: what `candidates`, `placed_of`, `try_each` and `search` give, from what they test. A proof about filling cites
-- these and looks into no definition again. Assumes nothing.
use Rattle.std.specs.Prelude.{◌≡◌, Bool, ◌&&◌, ◌⊎◌, ◌≢◌, eqb, leb}
use Rattle.std.proofs.Math.Path.{refl, ap}
use Rattle.std.proofs.Common.{sym, ap₂, ◌∙◌, subst, true≢false, inl, inr, arith}
use Rattle.std.proofs.Math.Bool.{true, false}
use Rattle.std.proofs.Math.Logic.{⊎_elim}
use mathlib.Core.List.Memᴰ
use mathlib.Core.List.{List, [], ◌∷◌, Memᴰ}
use Prim.Native.Nat.{ℕ, zero, suc, ◌+◌, ◌^◌, ◌≤◌, ◌<◌}
use Rattle.std.proofs.Math.Decide.{ℕ_discrete}
use Rattle.std.specs.Int.Bits.{bit_and}
use Rattle.std.specs.Int.Count.{ones}
use borrow.Author.Tests.{eq-eqb, ne_eqb, le-leb, lt-leb, eqb-true, eqb-false, leb-true, leb-false}
use Rattle.sets.specs.Sets.{bit, Has, bit_le, bit-and, and_in, in_and, missing_lt, missing_in, trailing_least}
use Rattle.sets.specs.Members.{members, set_of, Ascends}
use Rattle.sets.specs.Laws.Sums.{either, to_n-true}
use Rattle.sets.proofs.Laws.Build.{set_of-bit}
use Rattle.sets.proofs.Laws.Members.{has_of_mem, mem_of_has, members_ascend, filter-members}
use Rattle.roster.specs.Limits.{row_limit}
use Rattle.roster.specs.Replies.{no_crews}
use Rattle.crews.specs.declared.Filling.{Filling}
use Rattle.crews.specs.Filling.{Work, Outcome, nothing, complete, missing_of, place_of, close_of, closes_of, placed_of, wanted_of, pool_of, pool, candidates, try_each, search}
pub use Rattle.crews.proofs.Laws.Pool.{pool-short, pool_whole, pool_in}

-- the row placed, and its crew not yet closed
abbrev pub put_of : Work → Filling → ℕ → Filling
put_of w f row = place_of f row (w.holds row)

-- ---- a placement

-- a crew closes where it covers and has members enough; else it stays open
pub data Closing (task least : ℕ) (f : Filling) : Type 0 where
  closes : missing_of task f ≡ 0 → least ≤ ones f.crew → closes_of task least f ≡ true → Closing task least f
  stays : (missing_of task f ≢ 0) ⊎ (ones f.crew < least) → closes_of task least f ≡ false → Closing task least f

pub closing : (task least : ℕ) (f : Filling) → Closing task least f
unfolding closes_of
closing task least f =
    ⊎_elim
    (λ e.
    ⊎_elim
    (λ l. closes (eqb-true _ 0 e) (leb-true _ _ l) (ap₂ ◌&&◌ e l))
    (λ l. stays (inr (leb-false _ _ l)) (ap₂ ◌&&◌ e l))
    (either (leb least (ones f.crew))))
    (λ e. stays (inl (eqb-false _ 0 e)) (ap (λ (b : Bool). b && leb least (ones f.crew)) e))
    (either (eqb (missing_of task f) 0))

module _ (w : Work) (f : Filling) (row : ℕ) where
  placed_shut : closes_of w.task w.least (put_of w f row) ≡ true → placed_of w f row ≡ close_of (put_of w f row)
  unfolding placed_of
  placed_shut c = rw (c, placed_of)

  placed_kept : closes_of w.task w.least (put_of w f row) ≡ false → placed_of w f row ≡ put_of w f row
  unfolding placed_of
  placed_kept c = rw (c, placed_of)

  -- what holds of the crew closed, where it covers and has members enough, and of the crew left open, where not, holds of either
  pub placed_is : (Q : Filling → Type 0)
      → (missing_of w.task (put_of w f row) ≡ 0 → w.least ≤ ones (put_of w f row).crew → Q (close_of (put_of w f row)))
      → ((missing_of w.task (put_of w f row) ≢ 0) ⊎ (ones (put_of w f row).crew < w.least) → Q (put_of w f row))
      → Q (placed_of w f row)
  placed_is Q shut kept = go (closing w.task w.least (put_of w f row))
    where
      go : Closing w.task w.least (put_of w f row) → Q (placed_of w f row)
      go (closes z l c) = subst Q (sym (placed_shut c)) (shut z l)
      go (stays z c) = subst Q (sym (placed_kept c)) (kept z)

-- from which row on the next crew may begin: the row after the first of this one
module _ (f : Filling) (row h : ℕ) where
  pub from_first : f.crew ≡ 0 → (place_of f row h).from ≡ row + 1
  unfolding place_of
  from_first e = ap (λ (b : Bool). elim b [ true ↦ row + 1 | false ↦ f.from ]) (eq-eqb f.crew 0 e)

  pub from_next : f.crew ≢ 0 → (place_of f row h).from ≡ f.from
  unfolding place_of
  from_next n = ap (λ (b : Bool). elim b [ true ↦ row + 1 | false ↦ f.from ]) (ne_eqb f.crew 0 n)

-- ---- the candidates

-- the permission that is wanted is one of P, and the crew being filled does not hold it
pub wanted_missing : (task : ℕ) (f : Filling) → task < 2 ^ 32 → missing_of task f ≢ 0
    → Has task (wanted_of task f) × (bit f.held (wanted_of task f) ≡ 0)
wanted_missing task f wide some =
    missing_in task f.held (wanted_of task f) (trailing_least 32 (missing_of task f) (missing_lt 32 task f.held wide) (omega (arith, some))).has

-- row is a candidate: it is neither absent nor in a crew, and holds the permission that is wanted, where one is
pub record Candidate (w : Work) (f : Filling) (row : ℕ) : Type 0 where
  pub below : row < row_limit
  pub holder : missing_of w.task f ≢ 0 → Has (w.holders (wanted_of w.task f)) row
  pub free : Has f.free row

module _ (w : Work) (f : Filling) where
  abbrev all : ℕ
  all = pool w f

  begun : eqb f.crew 0 ≡ true → candidates w f ≡ members 0 row_limit (bit_and (set_of row_limit (w.begins f)) all)
  unfolding candidates
  begun e = rw (e, candidates) (filter-members (w.begins f) row_limit all)

  going : eqb f.crew 0 ≡ false → candidates w f ≡ members 0 row_limit all
  unfolding candidates
  going e = rw (e, candidates)

  pub is_candidate : (row : ℕ) → row < row_limit → Has all row → Candidate w f row
  is_candidate row l h = record {
    below = l;
    holder = λ n.
        (and_in (w.holders (wanted_of w.task f)) f.free row
        (sym (ap (λ (x : ℕ). bit x row) (pool-short w.holders (missing_of w.task f) f.free n)) ∙ h)).0;
    free = omega (arith, pool_in w.holders (missing_of w.task f) f.free row, bit_le f.free row);
  }

  pub in_pool : (row : ℕ) → Candidate w f row → Has all row
  in_pool row c = go (ℕ_discrete (missing_of w.task f) 0)
    where
      go : Dec (missing_of w.task f ≡ 0) → Has all row
      go (yes e) = ap (λ (x : ℕ). bit x row) (pool_whole w.holders (missing_of w.task f) f.free e) ∙ c.free
      go (no n) =
          ap (λ (x : ℕ). bit x row) (pool-short w.holders (missing_of w.task f) f.free n)
          ∙ in_and (w.holders (wanted_of w.task f)) f.free row (c.holder n) c.free

  pub candidate_of : (row : ℕ) → Memᴰ row (candidates w f) → Candidate w f row
  candidate_of row m =
      ⊎_elim
      (λ e.
      let x = has_of_mem row_limit (bit_and (set_of row_limit (w.begins f)) all) row (rw (begun e) at m) in
      is_candidate row x.0 (and_in (set_of row_limit (w.begins f)) all row x.1).1)
      (λ e. let x = has_of_mem row_limit all row (rw (going e) at m) in is_candidate row x.0 x.1)
      (either (eqb f.crew 0))

  -- every one is among them that may begin a crew
  pub among : (row : ℕ) → Candidate w f row → w.begins f row ≡ true → Memᴰ row (candidates w f)
  among row c b =
      let h = in_pool row c in
      let s = set_of-bit row_limit (w.begins f) row c.below ∙ to_n-true (w.begins f row) b in
      ⊎_elim
      (λ e.
      rw (begun e)
      (mem_of_has row_limit (bit_and (set_of row_limit (w.begins f)) all) row c.below (in_and (set_of row_limit (w.begins f)) all row s h)))
      (λ e. rw (going e) (mem_of_has row_limit all row c.below h))
      (either (eqb f.crew 0))

  pub candidates_ascend : Ascends 0 (candidates w f)
  candidates_ascend =
      ⊎_elim
      (λ e. rw (begun e) (members_ascend 0 row_limit (bit_and (set_of row_limit (w.begins f)) all)))
      (λ e. rw (going e) (members_ascend 0 row_limit all))
      (either (eqb f.crew 0))

-- what is in an ascending list is not below its beginning
pub ascends_mem : (k : ℕ) (l : List ℕ) → Ascends k l → (c : ℕ) → Memᴰ c l → k ≤ c
ascends_mem k [] a c m = absurd (Memᴰ.not-nil m)
ascends_mem k (x ∷ l) a c m =
    ⊎_elim (λ e. omega (arith, e, a.0)) (λ i. omega (arith, ascends_mem (suc x) l a.1 c i, a.0)) (Memᴰ.cases_cons m)

-- ---- one candidate after another

module _ (deeper : Filling → Outcome) (w : Work) (f : Filling) where
  -- whether the row's placement leads to a list
  abbrev leads : ℕ → Bool
  leads row = (deeper (placed_of w f row)).found

  -- a candidate whose placement leads to a list is not passed over
  pub try_finds : (row : ℕ) (rows : List ℕ) → Memᴰ row rows → leads row ≡ true → (try_each deeper w f rows).found ≡ true
  unfolding try_each
  try_finds row [] m ok = absurd (Memᴰ.not-nil m)
  try_finds row (x ∷ rest) m ok =
      ⊎_elim
      (λ (h : leads x ≡ true). rw (h, try_each) h)
      (λ (h : leads x ≡ false).
      rw (h, try_each)
      (⊎_elim
      (λ e. absurd (true≢false (sym ok ∙ ap leads e ∙ h)))
      (λ t. try_finds row rest t ok)
      (Memᴰ.cases_cons m)))
      (either (leads x))

  -- where one is found, the placement of some candidate led to it, and those below it led to none
  pub record First (rows : List ℕ) : Type 0 where
    pub row : ℕ
    pub mem : Memᴰ row rows
    pub works : leads row ≡ true
    pub crews : (try_each deeper w f rows).crews ≡ (deeper (placed_of w f row)).crews
    pub before : (c : ℕ) → Memᴰ c rows → c < row → leads c ≡ false

  pub first : (k : ℕ) (rows : List ℕ) → Ascends k rows → (try_each deeper w f rows).found ≡ true → First rows
  unfolding try_each
  first k [] a e = absurd (true≢false (sym e))
  first k (x ∷ rest) a e =
      ⊎_elim
      (λ (h : leads x ≡ true). record {
        row = x;
        mem = Memᴰ.head refl;
        works = h;
        crews = rw (h, try_each);
        before = λ c m l.
            ⊎_elim (λ i. absurd (omega (arith, i))) (λ i. absurd (omega (arith, ascends_mem (suc x) rest a.1 c i))) (Memᴰ.cases_cons m);
      })
      (λ (h : leads x ≡ false).
      let y = first (suc x) rest a.1 (rw (h, try_each) at e) in
      record {
        row = y.row;
        mem = Memᴰ.tail y.mem;
        works = y.works;
        crews = rw (h, try_each) y.crews;
        before = λ c m l. ⊎_elim (λ i. ap leads i ∙ h) (λ i. y.before c i l) (Memᴰ.cases_cons m);
      })
      (either (leads x))

  -- where none is found, no crew is given
  pub try_none : (rows : List ℕ) → (try_each deeper w f rows).found ≡ false → (try_each deeper w f rows).crews ≡ no_crews
  unfolding try_each
  try_none [] e = refl
  try_none (row ∷ rest) e =
      ⊎_elim
      (λ (h : leads row ≡ true). absurd (true≢false (sym h ∙ rw (h, try_each) at e)))
      (λ (h : leads row ≡ false). rw (h, try_each) (try_none rest (rw (h, try_each) at e)))
      (either (leads row))

-- ---- the search

module _ (w : Work) (f : Filling) where
  pub search-done : (n : ℕ) → f.closed ≡ w.crews → search n w f ≡ complete f.crews
  unfolding search
  search-done zero e = rw (eq-eqb _ _ e, search)
  search-done (suc n) e = rw (eq-eqb _ _ e, search)

  pub search_out : f.closed ≢ w.crews → search 0 w f ≡ nothing
  unfolding search
  search_out e = rw (ne_eqb _ _ e, search)

  pub search-full : (n : ℕ) → f.closed ≢ w.crews → w.size ≤ ones f.crew → search n w f ≡ nothing
  unfolding search
  search-full zero e h = rw (ne_eqb _ _ e, search)
  search-full (suc n) e h = rw (ne_eqb _ _ e, le-leb _ _ h, search)

  pub search_open : (n : ℕ) → f.closed ≢ w.crews → ones f.crew < w.size
      → search (suc n) w f ≡ try_each (λ g. search n w g) w f (candidates w f)
  unfolding search
  search_open n e h = rw (ne_eqb _ _ e, lt-leb _ _ h, search)

  -- the four cases
  pub search_is : (Q : Outcome → Type 0) (n : ℕ)
      → (f.closed ≡ w.crews → Q (complete f.crews))
      → (f.closed ≢ w.crews → Q nothing)
      → ((m : ℕ) → n ≡ suc m → f.closed ≢ w.crews → ones f.crew < w.size → Q (try_each (λ g. search m w g) w f (candidates w f)))
      → Q (search n w f)
  search_is Q zero done none each =
      ⊎_elim
      (λ e. subst Q (sym (search-done 0 (eqb-true _ _ e))) (done (eqb-true _ _ e)))
      (λ e. subst Q (sym (search_out (eqb-false _ _ e))) (none (eqb-false _ _ e)))
      (either (eqb f.closed w.crews))
  search_is Q (suc n) done none each =
      ⊎_elim
      (λ e. subst Q (sym (search-done (suc n) (eqb-true _ _ e))) (done (eqb-true _ _ e)))
      (λ e.
      let c = eqb-false _ _ e in
      ⊎_elim
      (λ l. subst Q (sym (search-full (suc n) c (leb-true _ _ l))) (none c))
      (λ l. subst Q (sym (search_open n c (leb-false _ _ l))) (each n refl c (leb-false _ _ l)))
      (either (leb w.size (ones f.crew))))
      (either (eqb f.closed w.crews))

-- where no list is found, no crew is given
pub search-none : (n : ℕ) (w : Work) (f : Filling) → (search n w f).found ≡ false → (search n w f).crews ≡ no_crews
search-none n w f =
    search_is w f (λ o. o.found ≡ false → o.crews ≡ no_crews) n
    (λ e h. absurd (true≢false h))
    (λ e h. refl)
    (λ m s e l h. try_none (λ g. search m w g) w f (candidates w f) h)

-- ---- what placements keep, the search keeps

-- a row that is tried: a candidate for a crew that is not full, of a list that is not complete
pub record Tried (w : Work) (f : Filling) (row : ℕ) : Type 0 where
  pub going : f.closed ≢ w.crews
  pub room : ones f.crew < w.size
  pub candidate : Candidate w f row

-- Inv holds of each state that the search reaches, and so Q of the crews that it ends with.
module _ (w : Work) (Inv : Filling → Type 0) (Q : List ℕ → Type 0)
    (step : (f : Filling) (row : ℕ) → Inv f → Tried w f row → Inv (placed_of w f row))
    (done : (f : Filling) → Inv f → f.closed ≡ w.crews → Q f.crews) where
  -- one placement deeper, where it is known of the deeper searches
  keeps_each : (m : ℕ) → ((g : Filling) → Inv g → (search m w g).found ≡ true → Q (search m w g).crews)
      → (f : Filling) → Inv f → f.closed ≢ w.crews → ones f.crew < w.size
      → (try_each (λ g. search m w g) w f (candidates w f)).found ≡ true → Q (try_each (λ g. search m w g) w f (candidates w f)).crews
  keeps_each m deeper f i e l h =
      let x = first (λ g. search m w g) w f 0 (candidates w f) (candidates_ascend w f) h in
      subst Q (sym x.crews)
      (deeper (placed_of w f x.row) (step f x.row i (record { going = e; room = l; candidate = candidate_of w f x.row x.mem })) x.works)

  pub search_keeps : (n : ℕ) (f : Filling) → Inv f → (search n w f).found ≡ true → Q (search n w f).crews
  search_keeps zero f i =
      search_is w f (λ o. o.found ≡ true → Q o.crews) 0
      (λ e h. done f i e) (λ e h. absurd (true≢false (sym h))) (λ m s. absurd (omega arith))
  search_keeps (suc n) f i =
      search_is w f (λ o. o.found ≡ true → Q o.crews) (suc n)
      (λ e h. done f i e) (λ e h. absurd (true≢false (sym h)))
      (λ m s e l.
      let k : n ≡ m = omega arith in
      keeps_each m (subst (λ (x : ℕ). (g : Filling) → Inv g → (search x w g).found ≡ true → Q (search x w g).crews) k (λ g j. search_keeps n g j)) f i e l)
