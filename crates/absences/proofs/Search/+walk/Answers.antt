-- The walk is the unrolling of `listed` from its rank on, by the open ranks. Assumes nothing.
use Rattle.std.specs.Prelude.{Ok, Err, Result}
use borrow.Author.Rules.{rules}
use mathlib.Core.Path.{◌≡◌, sym, ap, ◌∙◌, subst}
use mathlib.Core.Logic.{◌≢◌}
use mathlib.Core.List.{List}
use Prim.Native.Nat.{ℕ, suc, ◌-◌, ◌≤◌, ◌<◌}
use native.Mathlib.Omega.{arith}
use Rattle.sets.specs.Sets.{with, missing}
use Rattle.sets.specs.Arrays.{at}
use Rattle.absences.specs.declared.Search.{Search}
use Rattle.absences.specs.declared.Stop.{Stop}
use Rattle.absences.specs.Inner.Opens.{Opens}
use Rattle.absences.specs.Inner.Walk.{Over, walked_by, onward}
use Rattle.absences.proofs.Turns as turns
use Rattle.absences.proofs.Search.+walk.Goals as goal
use Rattle.absences.proofs.Search.+walk.Goals.{After-least-rank}

-- ---- what a turn comes to: k is the place where the first open rank is known

module _ (t : ℕ) (k : After-least-rank t) where
  abbrev S : Search
  S = k.args.self.now

  abbrev order : List ℕ
  order = S.order

  abbrev outweighed : List ℕ
  outweighed = S.outweighed

  abbrev absent : ℕ
  absent = k.args.absent

  abbrev begun : ℕ
  begun = k.args.begun

  abbrev wanted : ℕ
  wanted = k.args.wanted

  abbrev ranks : ℕ
  ranks = k.loop-rank.ranks

  abbrev units : ℕ
  units = k.loop-rank.units

  abbrev rank : ℕ
  rank = k.least-rank.result

  -- what the lent is of, and where the walk began
  record Of : Type 0 where
    over : Over S
    next : ℕ
    opens : Opens over.way over.table S.wanted.task next absent begun

  -- there is such a table
  here : Of
  here = let p = k.requires.0 in record { over = p.0; next = p.1; opens = p.2 }

  module _ (of : Of) where
    abbrev onward_from : ℕ → ℕ → ℕ → List ℕ
    onward_from = onward of.over.way of.over.table S.wanted.task

    abbrev asked : Result ℕ Stop
    asked = walked_by of.over.table of.over.edition S k.args.spent (onward_from wanted of.next absent)

    so_far : (q : ℕ) × Opens of.over.way of.over.table S.wanted.task q absent ranks × (asked ≡ walked_by of.over.table of.over.edition S units (onward_from wanted q absent))
    so_far = k.loop-rank.invariant.1 of.over of.next of.opens

    turn : turns.Turn of.over.way of.over.table S so_far.0 absent ranks wanted rank
    turn = record {
      small = of.over.lent.small;
      ranked = of.over.ranked;
      opens = so_far.1;
      room = omega (arith, k.loop-rank-test.true, k.size.ensures);
      some = k.if-wanted-eq0.false;
      first = k.least-rank.ensures;
    }

    -- the walk with the row comes to r
    module _ (r : Result ℕ Stop) (told : r ≡ walked_by of.over.table of.over.edition S units (onward_from (wanted - 1) (suc rank) (with absent (at order rank)))) where
      passed : (n : ℕ) → r ≡ Ok n
          → ((q : ℕ) × Opens of.over.way of.over.table S.wanted.task q absent (missing (turns.without ranks rank) (at outweighed rank))
          × (asked ≡ walked_by of.over.table of.over.edition S n (onward_from wanted q absent))) × (n ≤ S.wanted.allowance)
      passed n o = let w = turns.turn-none turn of.over.edition units r told n o in ((suc rank, turns.opens_passed turn, so_far.2 ∙ w.0), w.1)

      stops : (stop : Stop) → r ≡ Err stop → r ≡ asked
      stops stop o = turns.turn_stops turn of.over.edition units r told stop o ∙ sym so_far.2

  some : wanted ≢ 0
  some = (turn here).some

  fits : rank < 64
  fits = turns.rank-fits (turn here)

  -- what the recursive call is asked and says, of the row added
  module _ {added : ℕ} (is : added ≡ with absent (at order rank)) (of : Of) where
    taken : Opens of.over.way of.over.table S.wanted.task (suc rank) added (turns.without ranks rank)
    taken = subst (λ (G : ℕ). Opens of.over.way of.over.table S.wanted.task (suc rank) G (turns.without ranks rank)) (sym is) (turns.opens_taken (turn of))

    walked : {r : Result ℕ Stop}
        → ((by : Over S) (next : ℕ) → Opens by.way by.table S.wanted.task next added (turns.without ranks rank)
        → r ≡ walked_by by.table by.edition S units (onward by.way by.table S.wanted.task (wanted - 1) next added))
        → r ≡ walked_by of.over.table of.over.edition S units (onward_from of (wanted - 1) (suc rank) (with absent (at order rank)))
    walked says =
        says of.over (suc rank) taken
        ∙ ap (λ (G : ℕ). walked_by of.over.table of.over.edition S units (onward_from of (wanted - 1) (suc rank) G)) is

pub returns-then-wanted-eq0 : goal.returns-then-wanted-eq0
returns-then-wanted-eq0 t c over next opens =
    let a = c.args in
    c.try_absence.ensures over
    ∙ ap (walked_by over.table over.edition a.self.now a.spent) (turns.turn_whole over.way over.table a.self.now.wanted.task a.wanted next a.absent c.if-wanted-eq0.true)

pub overflow_shl-others : goal.overflow_shl-others
overflow_shl-others t c = fits t (goal.at.overflow_shl-others t c).After-least-rank

pub bounds-self-rank : goal.bounds-self-rank
bounds-self-rank t c = fits t (goal.at.bounds-self-rank t c).After-least-rank

pub adding-taken-requires : goal.adding-taken-requires
adding-taken-requires t c = let k = (goal.at.adding-taken-requires t c).After-least-rank in turns.row_fits (turn t k (here t k))

pub walk-requires : goal.walk-requires
walk-requires t c =
    let k = (goal.at.walk-requires t c).After-least-rank in
    let of = here t k in
    (omega (arith, c.decreases, some t k), ((of.over, suc (rank t k), taken t k c.adding-taken.ensures of), c.loop-rank.invariant.0))

pub returns-in_err-units : goal.returns-in_err-units
returns-in_err-units t c over next opens =
    let k = (goal.at.returns-in_err-units t c).After-least-rank in
    let of : Of t k = record { over = over; next = next; opens = opens } in
    let same : c.from_residual.result ≡ Err c.in_err-units.field-0.0 = search rules in
    same ∙ sym c.in_err-units.was ∙ stops t k of c.walk.result (walked t k c.adding-taken.ensures of c.walk.ensures) _ c.in_err-units.was

pub bounds-self-rank-in-loop-rank : goal.bounds-self-rank-in-loop-rank
bounds-self-rank-in-loop-rank t c = fits t (goal.at.bounds-self-rank-in-loop-rank t c).After-least-rank

pub loop-rank-smaller : goal.loop-rank-smaller
loop-rank-smaller t c = let k = (goal.at.loop-rank-smaller t c).After-least-rank in turns.fewer_still (turn t k (here t k))

pub loop-rank-preserved : goal.loop-rank-preserved
loop-rank-preserved t c =
    let k = (goal.at.loop-rank-preserved t c).After-least-rank in
    let on : (of : Of t k)
    → ((q : ℕ) × Opens of.over.way of.over.table (S t k).wanted.task q (absent t k) (missing (turns.without (ranks t k) (rank t k)) (at (outweighed t k) (rank t k)))
    × (asked t k of ≡ walked_by of.over.table of.over.edition (S t k) c.in_ok-units.units (onward_from t k of (wanted t k) q (absent t k)))) × (c.in_ok-units.units ≤ (S t k).wanted.allowance) =
    λ of. passed t k of c.walk.result (walked t k c.adding-taken.ensures of c.walk.ensures) _ c.in_ok-units.was in
    ((on (here t k)).1, λ over next opens. (on (record { over = over; next = next; opens = opens })).0)

pub returns : goal.returns
returns t c over next opens =
    let l = c.loop-rank in
    let a = c.args in
    let i = l.invariant.1 over next opens in
    turns.turn_ends over.way over.table over.edition a.self.now a.wanted i.0 a.absent l.ranks l.units i.1 (omega (arith, c.loop-rank-test.false, c.size.ensures)) l.invariant.0
    ∙ sym i.2
