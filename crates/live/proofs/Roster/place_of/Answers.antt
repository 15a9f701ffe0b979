-- No place passed is the number's. Assumes nothing.
use Rattle.std.specs.Prelude.{◌≡◌, ◌≢◌, false, List, ℕ, ◌/◌, ◌^◌, bit_and}
use Rattle.std.proofs.Common.{sym, ◌∙◌, arith, below_more, eq-eqb, ne_eqb}
use Rattle.sets.specs.Sets.{bit, bit_le, shr_and_one}
use Rattle.live.specs.Changes.{standing}
use Rattle.live.specs.Laws.First.{from_first, from_none}
use Rattle.live.proofs.Laws.Steps.{standing_in, standing_out}
use Rattle.live.proofs.Roster.place_of.Goals as goal
use Rattle.live.proofs.Roster.place_of.Goals.{else-self-place-eq1-via-then-self-place-eq1+else-staff-number, else-self-place-eq1-via-else-self-place-eq1}

-- the bit that the code tests
taken : (occupied i : ℕ) → bit_and (occupied / 2 ^ i) 1 ≡ 1 → bit occupied i ≡ 1
taken occupied i e = sym (shr_and_one occupied i) ∙ e

nobody : (occupied : ℕ) (staff : List ℕ) (number i : ℕ) → bit_and (occupied / 2 ^ i) 1 ≢ 1 → standing occupied staff number i ≡ false
nobody occupied staff number i n =
    let m : bit occupied i ≢ 1 = λ e. n (shr_and_one occupied i ∙ e) in
    standing_out occupied staff number i (omega (arith, bit_le occupied i))

pub returns-then-staff-number : goal.returns-then-staff-number
returns-then-staff-number c = let r = c.args.self.now in
    let i = c.loop-place.place in
    sym (from_first (standing r.occupied r.staff c.args.number) 64 0 i (omega arith) (omega arith) (λ j x b. c.loop-place.invariant j b)
    (standing_in r.occupied r.staff c.args.number i (taken r.occupied i c.if-self-place-eq1.true) ∙ eq-eqb _ _ c.if-staff-number.true))

pub loop-place-preserved : goal.loop-place-preserved
loop-place-preserved c = let r = c.args.self.now in
    let i = c.loop-place.place in
    below_more _ i c.loop-place.invariant
    (elim c.else-self-place-eq1.branch [
      | else-self-place-eq1-via-then-self-place-eq1+else-staff-number w ↦
          standing_in r.occupied r.staff c.args.number i (taken r.occupied i w.if-self-place-eq1.true) ∙ ne_eqb _ _ w.if-staff-number.false
      | else-self-place-eq1-via-else-self-place-eq1 w ↦ nobody r.occupied r.staff c.args.number i w.if-self-place-eq1.false
    ])

pub returns : goal.returns
returns c = let r = c.args.self.now in
    sym (from_none (standing r.occupied r.staff c.args.number) 64 0 (λ j x b. c.loop-place.invariant j (omega (arith, c.loop-place-test.false))))
