-- A row that is whole is told by its two tests, at the field that they name. Assumes nothing.
use Rattle.std.specs.Prelude.{Result}
use mathlib.Core.Path.{◌≡◌, sym, ap, ◌∙◌}
use mathlib.Core.Bool.{Bool}
use Prim.Native.Nat.{ℕ, ◌+◌}
use lib.Dec.{ltb}
use lib.ListN.{length}
use Rattle.book.specs.Layout.{row_widths, form_has_persons}
use Rattle.book.specs.Reading.{rows_of, width, prior, entry_at, entry_look, past_listed, row_amiss, placed, refused}
use Rattle.book.specs.declared.Row.{Row}
use Rattle.book.specs.declared.Fault.TheVariants.{Short}
use Rattle.book.specs.Laws.First.{faulty_at, past_fault}
use Rattle.book.proofs.Looks.{staff_stays}
use Rattle.book.proofs.Fields.{was_cut, row_cut, row_field}
use Rattle.book.proofs.Reader.look_row.Goals as goal
use Rattle.book.proofs.Reader.look_row.Goals.{After-cut, After-row_amiss}
use Rattle.book.specs.declared.Amiss.{Amiss}

-- what is amiss by equal tests
amiss_by : {r : Result Unit Amiss} (persons : Bool) {low low' beyond beyond' : Bool} → r ≡ row_amiss persons low beyond → low ≡ low' → beyond ≡ beyond'
    → r ≡ row_amiss persons low' beyond'
amiss_by persons e l b = rw (l, b) at e

-- a row is cut by its whole width
short : (c : After-cut) → let a = c.args in c.cut.result ≡ ltb (length a.self.bytes.now) (a.cursor.at + width (rows_of a.self.form))
short c = let a = c.args in
    c.cut.ensures ∙ ap (λ (w : ℕ). ltb (length a.self.bytes.now) (a.cursor.at + w)) c.row_width.ensures

-- what is amiss with the row that stands there
amiss_there : (c : After-row_amiss) → let a = c.args in c.row_amiss.result ≡ (rows_of a.self.form).faults a.listed (prior (entry_at (rows_of a.self.form) a.self.bytes.now) a.cursor.before) (entry_at (rows_of a.self.form) a.self.bytes.now a.cursor.at)
amiss_there c = let a = c.args in
    amiss_by (form_has_persons a.self.form) c.row_amiss.ensures
    (c.stays-low.ensures ∙ staff_stays a.self.form a.self.bytes.now a.cursor)
    (c.past_listed-beyond.ensures ∙ ap (λ (row : Row). past_listed a.listed row.holdings) c.row_from-row.ensures)

pub returns-then-cut : goal.returns-then-cut
unfolding entry_look
returns-then-cut c = let a = c.args in
    let h = was_cut (length a.self.bytes.now) a.cursor.at (width (rows_of a.self.form)) (short (goal.at.returns-then-cut c).After-cut) c.if-cut.true in
    faulty_at Short _ (short (goal.at.returns-then-cut c).After-cut) c.if-cut.true (c.cut_row.ensures ∙ row_cut a.self.form (length a.self.bytes.now) a.cursor.at h)

pub returns-in-Err : goal.returns-in-Err
unfolding entry_look
returns-in-Err c = let a = c.args in
    past_fault Short _ (short (goal.at.returns-in-Err c).After-cut) c.if-cut.false
    (ap (refused c.in-Err.amiss.fault) (row_field (form_has_persons a.self.form) c.stays-low.result c.past_listed-beyond.result a.cursor.at (sym c.row_amiss.ensures ∙ c.in-Err.is)).1
    ∙ ap (placed (row_widths (form_has_persons a.self.form)) a.cursor.at) (sym c.in-Err.is ∙ amiss_there (goal.at.returns-in-Err c).After-row_amiss))

pub returns : goal.returns
unfolding entry_look
returns c = let a = c.args in
    past_fault Short _ (short (goal.at.returns c).After-cut) c.if-cut.false
    (ap (placed (row_widths (form_has_persons a.self.form)) a.cursor.at) (sym c.in_default.is ∙ amiss_there (goal.at.returns c).After-row_amiss))
