-- The row that stands at its place. Assumes nothing.
use mathlib.Core.Path.{◌≡◌, sym, ap, ◌∙◌}
use native.Mathlib.Omega.{arith}
use Rattle.book.specs.Reading.{rows_of, width}
use Rattle.book.specs.Parts.{place_of, row_place}
use Rattle.book.specs.Laws.Places.{place_within}
use Rattle.book.specs.declared.Form.{Form}
use Rattle.book.proofs.row_at.Goals as goal
use Rattle.book.proofs.row_at.Goals.{After-place_of}

-- where the row stands
stood : (c : After-place_of) → let a = c.args in c.place_of.result ≡ row_place a.book.now a.starts a.row
stood c = let a = c.args in
    let by : c.place_of.result ≡ place_of (width (rows_of c.form_of-form.result)) a.book.now a.starts.rows a.row = c.place_of.ensures in
    by ∙ ap (λ (f : Form). place_of (width (rows_of f)) a.book.now a.starts.rows a.row) c.form_of-form.ensures.reply

pub row_from-requires : goal.row_from-requires
row_from-requires c = let a = c.args in
    let wide = ap (λ (f : Form). width (rows_of f)) c.form_of-form.ensures.reply in
    let h = place_within _ _ _ _ (sym (stood (goal.at.row_from-requires c).After-place_of) ∙ c.in_ok-at.was) in
    omega arith
