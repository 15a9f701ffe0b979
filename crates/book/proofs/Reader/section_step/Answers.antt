-- A faulty count ends it; a sound one has its entries after it. Assumes nothing.
use mathlib.Core.Path.{sym, ap, ◌∙◌}
use Prim.Native.Nat.{◌+◌}
use Rattle.book.specs.Inner.Steps.{look_in, width_in, step_from, start_at}
use Rattle.book.proofs.Looks.{passed_up, section_faulty, section_sound}
use Rattle.book.proofs.Reader.section_step.Goals as goal

pub returns-in_err-look_count : goal.returns-in_err-look_count
returns-in_err-look_count c = let a = c.args in
    passed_up _ c.from_residual.ensures.1
    ∙ sym (section_faulty a.self.form a.section a.self.bytes.now a.listed a.at _ (sym c.look_count.ensures ∙ c.in_err-look_count.was))

pub returns : goal.returns
returns c = let a = c.args in
    c.entries.ensures
    ∙ ap (step_from (look_in a.self.form a.section a.self.bytes.now a.listed) (width_in a.self.form a.section) (start_at (a.at + 1))) c.count_at.ensures.0
    ∙ sym (section_sound a.self.form a.section a.self.bytes.now a.listed a.at (sym c.look_count.ensures ∙ c.in_ok-look_count.was))
