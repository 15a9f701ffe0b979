-- `go_on` and the loop of `try_each`, apart from their code. A placement: nothing comes of one that fills a crew that cannot be closed, and from
-- any other filling goes on. The loop: what is still to be tried is `rest`, and trying it at `units` gives what the whole search gives at
-- `spent`; each way through a turn keeps that or ends with the answer. Assumes nothing.
use mathlib.Core.Path.{◌≡◌, refl, sym, ap, ap₂, ◌∙◌}
use mathlib.Core.Logic.{⊎_elim, ◌≢◌}
use mathlib.Core.Bool.{true, false}
use mathlib.Core.List.{List, [], ◌∷◌, Memᴰ}
use Prim.Native.Nat.{ℕ, suc, ◌+◌, ◌-◌, ◌≤◌, ◌<◌}
use native.Mathlib.Omega.{arith}
use lib.Count.{ones}
use borrow.Author.Tests.{leb-true, leb-false}
use Rattle.sets.specs.Sets.{bit, Has, bit_le}
use Rattle.sets.proofs.Sets.{ones_none}
use Rattle.sets.specs.Members.{members}
use Rattle.sets.specs.Laws.Sums.{either}
use Rattle.sets.proofs.Laws.Drop.{ones-drop}
use Rattle.sets.proofs.Laws.Members.{has_of_mem, members-first}
use Rattle.roster.specs.Limits.{crew_limit}
use Rattle.roster.specs.Replies.{no_crews}
use Rattle.crews.specs.declared.Filling.{Filling}
use Rattle.crews.specs.declared.Ending.TheVariants.{Exhausted, Undecided}
use Rattle.crews.specs.declared.Filled.{Filled}
use Rattle.crews.specs.Filling.{Work, Outcome, missing_of, place_of, close_of, closes_of, placed_of, pool_of, try_each, search, orderly}
use Rattle.sets.specs.Arrays.{at}
use Rattle.crews.specs.Filled.{filled_of}
use Rattle.crews.specs.Inner.Placing.{closed_where, HasRoom, stuck, eligible_of, Ready, Placing}
use Rattle.crews.proofs.Laws.Search.{pool_in, search-full}
use Rattle.crews.proofs.Laws.Steps as step

-- ---- a placement

module _ (f : Filling) (row holds : ℕ) where
  -- one row fewer is free
  placed_falls : Has f.free row → suc (ones (place_of f row holds).free) ≡ ones f.free
  unfolding place_of
  placed_falls h = ones-drop f.free row h

  module _ (task least : ℕ) where
    abbrev settled : Filling
    settled = closed_where task least (place_of f row holds)

    -- what holds of the crew closed, where it can be, and of the crew left open, where it cannot, holds of either
    settled_is : (Q : Filling → Type 0) → (closes_of task least (place_of f row holds) ≡ true → Q (close_of (place_of f row holds)))
        → (closes_of task least (place_of f row holds) ≡ false → Q (place_of f row holds)) → Q settled
    settled_is Q shut open-still =
        ⊎_elim
        (λ e. rw (step.shut task least (place_of f row holds) e) (shut e))
        (λ e. rw (step.short task least (place_of f row holds) e) (open-still e))
        (either (closes_of task least (place_of f row holds)))

    -- closed or not, there is at most one crew more
    closed_next : settled.closed ≤ f.closed + 1
    unfolding place_of close_of
    closed_next = settled_is (λ g. g.closed ≤ f.closed + 1) (λ z. omega arith) (λ z. omega arith)

    -- a crew just begun has room, and so has one that is not full
    room_next : (size : ℕ) → HasRoom size f → stuck task size least (place_of f row holds) ≡ false → HasRoom size settled
    unfolding place_of close_of
    room_next size room k =
        settled_is (HasRoom size) (λ z. omega (arith, room, ones_none))
        (λ z. leb-false _ _ (sym (step.lacking task least (place_of f row holds) size z) ∙ k))

module _ (holds holders : ℕ → ℕ) (task crews size least : ℕ) (f : Filling) (row spent allowance : ℕ) (p : Placing crews size f row spent allowance) where
  abbrev w : Work
  w = orderly holds holders task crews size least

  -- what `go_on` answers
  abbrev whole : Filled
  whole = filled_of allowance spent (search (ones f.free - 1) w (placed_of w f row))

  abbrev next : Filling
  next = place_of f row (holds row)

  settled_next : placed_of w f row ≡ closed_where task least next
  settled_next = step.placed-orderly holds holders task crews size least f row

  -- g is what the code has of the state after the placement
  module _ {g : Filling} (eq : g ≡ next) where
    -- a row fewer is free
    pub free_falls : suc (ones g.free) ≡ ones f.free
    free_falls = rw eq (placed_falls f row (holds row) p.free)

    -- the crew is full and cannot be closed: nothing deeper
    pub stuck_here : stuck task size least g ≡ true → record { ending = Exhausted; crews = no_crews; units = spent } ≡ whole
    unfolding place_of
    stuck_here k =
        let x = step.stuck_is task least next size (ap (stuck task size least) (sym eq) ∙ k) in
        step.says_exhausted allowance spent (search (ones f.free - 1) w (placed_of w f row))
        (ap (search (ones f.free - 1) w) (settled_next ∙ step.short task least next x.0)
        ∙ search-full w next _ (λ e. omega (arith, p.going)) (leb-true _ _ x.1))
        p.within

    -- else each candidate can be tried from there
    pub next_ready : stuck task size least g ≡ false → Ready task crews size least g spent allowance
    next_ready k =
        rw eq
        (record {
          few = p.few;
          closed = omega (arith, p.going, closed_next f row (holds row) task least);
          room = λ n. room_next f row (holds row) task least size p.room (ap (stuck task size least) (sym eq) ∙ k);
          within = p.within;
        })

    -- and what comes of that is the answer
    pub went_on : {r : Filled} → r ≡ filled_of allowance spent (search (ones g.free) w (closed_where task least g)) → r ≡ whole
    went_on e =
        let n : ones next.free ≡ ones f.free - 1 = omega (arith, placed_falls f row (holds row) p.free) in
        e
        ∙ ap (λ (x : Filling). filled_of allowance spent (search (ones x.free) w (closed_where task least x))) eq
        ∙ ap (filled_of allowance spent) (ap₂ (λ (k : ℕ) (x : Filling). search k w x) n (sym settled_next))

-- ---- the turns

-- what `try_each` is called with, its state settled
pub record Asked : Type 0 where
  pub holds : List ℕ
  pub holders : List ℕ
  pub task : ℕ
  pub crews : ℕ
  pub size : ℕ
  pub least : ℕ
  pub state : Filling
  pub spent : ℕ
  pub allowance : ℕ

abbrev pub rule : Asked → Work
rule a = orderly (at a.holds) (at a.holders) a.task a.crews a.size a.least

-- what it answers
abbrev pub answer : Asked → Filled
answer a = filled_of a.allowance a.spent (search (ones a.state.free) (rule a) a.state)

-- what its contract says of a state not settled yet, where these units are spent
abbrev pub promised : Asked → ℕ → Filling → Filled
promised a units placed = filled_of a.allowance units (search (ones placed.free) (rule a) (closed_where a.task a.least placed))

pub settled_answer : (a : Asked) (placed : Filling) → a.state ≡ closed_where a.task a.least placed → answer a ≡ promised a a.spent placed
settled_answer a placed e =
    ap (filled_of a.allowance a.spent)
    (ap₂ (λ (n : ℕ) (f : Filling). search n (rule a) f) (ap ones (ap (λ (f : Filling). f.free) e ∙ step.closed_free a.task a.least placed)) e)

-- the rows that are wanted, and those of them that may come next
abbrev holding : Asked → ℕ
holding a = pool_of (at a.holders) (missing_of a.task a.state) a.state.free

abbrev pub all : Asked → ℕ
all a = eligible_of a.state (holding a)

-- the search one placement deeper, and each of the rows tried by it
abbrev deeper : Asked → Filling → Outcome
deeper a g = search (ones a.state.free - 1) (rule a) g

abbrev trying : Asked → List ℕ → Outcome
trying a rows = try_each (deeper a) (rule a) a.state rows

-- what comes of a row's placement
abbrev pub outcome : Asked → ℕ → ℕ → Filled
outcome a units row = filled_of a.allowance (units + 1) (deeper a (placed_of (rule a) a.state row))

pub record Going (a : Asked) (rest units : ℕ) : Type 0 where
  pub few : a.crews ≤ crew_limit
  pub unfinished : a.state.closed < a.crews
  pub room : HasRoom a.size a.state
  pub own : (i : ℕ) → Memᴰ i (members 0 64 rest) → Has a.state.free i
  pub within : units ≤ a.allowance
  pub same : answer a ≡ filled_of a.allowance units (trying a (members 0 64 rest))

pub begun : (a : Asked) (placed : Filling) {rest : ℕ} → a.state ≡ closed_where a.task a.least placed
    → Ready a.task a.crews a.size a.least placed a.spent a.allowance → rest ≡ all a → a.state.closed ≢ a.crews
    → Going a rest a.spent
begun a placed es r e n =
    record {
      few = r.few;
      unfinished = omega (arith, ap (λ (f : Filling). f.closed) es, r.closed, n);
      room = room;
      own = λ i m.
          omega (
            arith,
            (has_of_mem 64 _ i m).1,
            bit_le a.state.free i,
            ap (λ (x : ℕ). bit x i) e,
            step.eligible_in a.state (holding a) i,
            pool_in (at a.holders) (missing_of a.task a.state) a.state.free i,
          );
      within = r.within;
      same =
          ap (filled_of a.allowance a.spent)
          (step.search-tries (at a.holds) (at a.holders) a.task a.crews a.size a.least a.state n room
          ∙ ap (λ (x : ℕ). trying a (members 0 64 x)) (sym e));
    }
  where
    room : HasRoom a.size a.state
    room = rw es (r.room (λ z. n (ap (λ (f : Filling). f.closed) es ∙ z)))

module _ {a : Asked} {rest units : ℕ} (g : Going a rest units) where
  pub ended : members 0 64 rest ≡ [] → record { ending = Exhausted; crews = no_crews; units = units } ≡ answer a
  ended z =
      step.says_exhausted a.allowance units (trying a (members 0 64 rest))
      (ap (trying a) z ∙ step.try_none (deeper a) (rule a) a.state) g.within
      ∙ sym g.same

  -- a candidate's turn: it is the first of those to come
  module _ (row left : ℕ) (come : members 0 64 rest ≡ row ∷ members 0 64 left) where
    pub row_below : row < 64
    row_below = (members-first 64 rest row _ come).0

    pub row_free : Has a.state.free row
    row_free = g.own row (rw come (Memᴰ.head refl))

    pub some_free : 0 < ones a.state.free
    some_free = omega (arith, ones-drop a.state.free row row_free)

    abbrev others : List ℕ
    others = members 0 64 left

    first : answer a ≡ filled_of a.allowance units (trying a (row ∷ others))
    first = g.same ∙ ap (λ (l : List ℕ). filled_of a.allowance units (trying a l)) come

    pub spent_out : a.allowance ≤ units → record { ending = Undecided; crews = no_crews; units = a.allowance } ≡ answer a
    spent_out l = step.turn_spent (deeper a) (rule a) a.state row others a.allowance units g.within l ∙ sym first

    -- r is what comes of the row's placement
    module _ {r : Filled} (said : r ≡ outcome a units row) where
      pub ended_here : r.ending ≢ Exhausted → r ≡ answer a
      ended_here v = step.turn-ended (deeper a) (rule a) a.state row others a.allowance units r said v ∙ sym first

      pub exhausted_here : r.ending ≡ Exhausted → Going a left r.units
      exhausted_here v =
          let t = step.turn_exhausted (deeper a) (rule a) a.state row others a.allowance units r said v in
          record {
            few = g.few;
            unfinished = g.unfinished;
            room = g.room;
            own = λ i m. g.own i (rw come (Memᴰ.tail m));
            within = t.1;
            same = first ∙ t.0;
          }

    -- it can be placed
    pub placing : units < a.allowance → Placing a.crews a.size a.state row (units + 1) a.allowance
    placing l =
        record {
          few = g.few;
          going = g.unfinished;
          room = g.room;
          below = row_below;
          free = row_free;
          within = omega arith;
        }
