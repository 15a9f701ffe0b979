-- By whether something is missing; past the array's end nobody holds anything. Assumes nothing.
use mathlib.Core.Path.{sym, ap, ◌∙◌}
use Prim.Native.Nat.{ℕ}
use lib.Bits.{bit_and, and_zero_l}
use lib.ListN.{get_or-eq_default}
use borrow.Author.Rules.{rules}
use Rattle.sets.specs.Arrays.{at}
use Rattle.crews.proofs.Laws.Search.{pool-short, pool_whole}
use Rattle.crews.proofs.candidates.Goals as goal

pub returns-then-missing-eq0 : goal.returns-then-missing-eq0
returns-then-missing-eq0 c = let l = c.args in
    sym (pool_whole (at l.holders.now) l.missing l.free c.if-missing-eq0.true)

pub returns-then-permission-holders : goal.returns-then-permission-holders
returns-then-permission-holders c = let l = c.args in
    sym (pool-short (at l.holders.now) l.missing l.free c.if-missing-eq0.false
    ∙ ap (λ (p : ℕ). bit_and (at l.holders.now p) l.free) (sym c.lowest-permission.ensures)
    ∙ ap (λ (x : ℕ). bit_and x l.free) (get_or-eq_default l.holders.now 0 c.if-permission-holders.true)
    ∙ and_zero_l l.free)

pub returns : goal.returns
returns c = let l = c.args in
    ◌∙◌ {b = bit_and (at l.holders.now c.lowest-permission.result) l.free} (search rules)
    (ap (λ (p : ℕ). bit_and (at l.holders.now p) l.free) c.lowest-permission.ensures
    ∙ sym (pool-short (at l.holders.now) l.missing l.free c.if-missing-eq0.false))
