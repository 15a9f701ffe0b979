-- The loop's invariant, for every table that what is lent is of: what is to be answered is what the sizes from `size` on come to at `units`.
-- Assumes nothing.
use mathlib.Core.Path.{◌≡◌, sym, ◌∙◌, subst}
use Prim.Native.Nat.{ℕ, ◌+◌, ◌-◌, ◌≤◌}
use native.Mathlib.Omega.{arith}
use borrow.Author.Rules.{rules}
use Rattle.std.specs.Prelude.{Err}
use Rattle.roster.specs.declared.Table.{Table}
use Rattle.absences.specs.Inner.Opens.{Opens}
use Rattle.absences.specs.Inner.Walk.{Lent, Over, walked_by, onward}
use Rattle.absences.specs.declared.Way.{Way}
use Rattle.absences.specs.Tried.{sizes_from}
use Rattle.absences.specs.declared.Search.{Search}
use Rattle.absences.proofs.Laws.Open.{all_open}
use Rattle.absences.proofs.Sizes.{sizes_end, size_none, size_stops}
use Rattle.absences.proofs.Search.by_size.Goals as goal
use Rattle.absences.proofs.Search.by_size.Goals.{After-walk}

-- with nobody absent every rank is open
begins : (way : Way) (table : Table) (ed : ℕ) (s : Search) → Lent table ed s → Opens way table s.wanted.task 0 0 s.everyone
begins way table ed s lent = subst (λ (x : ℕ). Opens way table s.wanted.task 0 0 x) (sym lent.everyone) (all_open way table s.wanted.task)

-- what the walk says of one size, for one table
walked : (k : After-walk) → let s = k.args.self.now in (of : Over s)
    → k.walk.result ≡ walked_by of.table of.edition s k.loop-size.units (onward of.way of.table s.wanted.task k.loop-size.size 0 0)
walked k of = k.walk.ensures of 0 (begins of.way of.table of.edition k.args.self.now of.lent)

pub walk-requires : goal.walk-requires
walk-requires c = let p = c.requires.0 in
    ((p, 0, begins p.way p.table p.edition c.args.self.now p.lent), c.loop-size.invariant.0)

pub returns-in_err-units : goal.returns-in_err-units
returns-in_err-units c of = let s = c.args.self.now in
    let l = c.loop-size in
    let same : c.from_residual.result ≡ Err c.in_err-units.field-0.0 = search rules in
    same ∙ sym c.in_err-units.was
    ∙ size_stops of.way of.table of.edition s c.args.most l.size l.units (omega arith) c.walk.result (walked (goal.at.returns-in_err-units c).After-walk of)
    _ c.in_err-units.was
    ∙ sym (l.invariant.1 of)

pub loop-size-preserved : goal.loop-size-preserved
loop-size-preserved c = let s = c.args.self.now in
    let p = c.requires.0 in
    let l = c.loop-size in
    let none : (of : Over s)
    → (walked_by of.table of.edition s l.units (sizes_from of.way of.table s.wanted.task ((c.args.most + 1) - l.size) l.size)
    ≡ walked_by of.table of.edition s c.in_ok-units.units (sizes_from of.way of.table s.wanted.task ((c.args.most + 1) - (l.size + 1)) (l.size + 1)))
    × (c.in_ok-units.units ≤ s.wanted.allowance) =
    λ of.
    size_none of.way of.table of.edition s c.args.most l.size l.units (omega arith) c.walk.result (walked (goal.at.loop-size-preserved c).After-walk of) _ c.in_ok-units.was in
    ((none p).1, λ of. l.invariant.1 of ∙ (none of).0)

pub returns : goal.returns
returns c of = let s = c.args.self.now in
    let l = c.loop-size in
    sizes_end of.way of.table of.edition s c.args.most l.size l.units (omega arith) l.invariant.0 ∙ sym (l.invariant.1 of)
