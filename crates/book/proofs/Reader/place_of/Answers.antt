-- An entry stands past the count and those before it, where the section has it and the book has it whole. Assumes nothing.
use mathlib.Core.Path.{sym, ap, ◌∙◌}
use Prim.Native.Nat.{ℕ, ◌+◌, ◌*◌, ◌≤◌, ◌<◌}
use native.Mathlib.Omega.{arith}
use lib.ListN.{length}
use borrow.Author.Tests.{ltb-true, ltb-false}
use Rattle.book.specs.Reading.{count_at}
use Rattle.book.specs.Parts.{place_of}
use Rattle.book.specs.Inner.Steps.{width_in}
use Rattle.book.specs.Laws.Places.{place_past, place_cut, place_at, counted}
use Rattle.book.proofs.Places.{near}
use Rattle.book.proofs.Reader.place_of.Goals as goal
use Rattle.book.proofs.Reader.place_of.Goals.{After-width-wide}

-- the count is within the book, and the entry not far from it
facts : (c : After-width-wide) → (c.args.start < length c.args.self.bytes.now) × (c.args.i < count_at c.args.self.bytes.now c.args.start) × (c.width-wide.result * c.args.i ≤ 3060)
facts c = let a = c.args in
    let below : a.i < count_at a.self.bytes.now a.start = omega (arith, c.count_at.ensures.0, c.if-i-count_at.false) in (
      counted a.self.bytes.now a.start a.i below,
      below,
      rw c.width-wide.ensures (near a.self.form a.section a.i (omega (arith, below, c.count_at.ensures))),
    )

pub returns-then-i-count_at : goal.returns-then-i-count_at
returns-then-i-count_at c = let a = c.args in
    sym (place_past (width_in a.self.form a.section) a.self.bytes.now a.start a.i (omega (arith, c.count_at.ensures.0, c.if-i-count_at.true)))

pub returns-then-cut : goal.returns-then-cut
returns-then-cut c = let a = c.args in
    let at = a.start + 1 + c.width-wide.result * a.i in
    let cut = ltb-true (length a.self.bytes.now) (at + c.width-wide.result) (sym c.cut.ensures ∙ c.if-cut.true) in
    sym (ap (λ (x : ℕ). place_of x a.self.bytes.now a.start a.i) (sym c.width-wide.ensures)
    ∙ place_cut c.width-wide.result a.self.bytes.now a.start a.i (facts (goal.at.returns-then-cut c).After-width-wide).1 cut)

pub returns : goal.returns
returns c = let a = c.args in
    let at = a.start + 1 + c.width-wide.result * a.i in
    let whole = ltb-false (length a.self.bytes.now) (at + c.width-wide.result) (sym c.cut.ensures ∙ c.if-cut.false) in
    sym (ap (λ (x : ℕ). place_of x a.self.bytes.now a.start a.i) (sym c.width-wide.ensures)
    ∙ place_at c.width-wide.result a.self.bytes.now a.start a.i (facts (goal.at.returns c).After-width-wide).1 whole)
