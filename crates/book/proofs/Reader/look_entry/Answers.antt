-- The section says which kind of entry it is. Assumes nothing.
use mathlib.Core.Path.{sym, ap, ◌∙◌}
use Rattle.book.specs.Reading.{entry_look}
use Rattle.book.specs.Inner.Steps.{look_in}
use Rattle.book.specs.declared.Section.{Section}
use Rattle.book.proofs.Reader.look_entry.Goals as goal

pub returns-in-Permissions : goal.returns-in-Permissions
unfolding entry_look
returns-in-Permissions c = let a = c.args in
    c.look_code.ensures ∙ ap (λ (s : Section). look_in a.self.form s a.self.bytes.now a.listed a.cursor.before a.cursor.at) (sym c.in-Permissions.is)

pub returns-in-Policies : goal.returns-in-Policies
unfolding entry_look
returns-in-Policies c = let a = c.args in
    c.look_policy.ensures ∙ ap (λ (s : Section). look_in a.self.form s a.self.bytes.now a.listed a.cursor.before a.cursor.at) (sym c.in-Policies.is)
