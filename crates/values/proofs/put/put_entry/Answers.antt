-- The section says which bytes. Assumes nothing.
use mathlib.Core.Path.{◌≡◌, sym, ap, ◌∙◌}
use mathlib.Core.List.{append-nil}
use Prim.Native.Nat.{ℕ}
use Rattle.std.proofs.Common.{rules}
use Rattle.book.specs.Layout.{little_endian, field_bytes, code_widths, code_fields}
use Rattle.book.specs.declared.Section.{Section}
use Rattle.text.specs.Laws.Appends.{read_as}
use Rattle.values.specs.Inner.Puts.{entry_bytes}
use Rattle.values.proofs.put.put_entry.Goals as goal

one_field : (code : ℕ) → little_endian 2 code ≡ field_bytes code_widths (code_fields code)
unfolding field_bytes
one_field code = sym (append-nil (little_endian 2 code))

pub returns-in-Permissions : goal.returns-in-Permissions
returns-in-Permissions c = let a = c.args in
    let same : c.from.result ≡ c.code_in.result = search rules in
    read_as
    (ap (little_endian 2) (same ∙ c.code_in.ensures)
    ∙ one_field _
    ∙ ap (λ (s : Section). entry_bytes a.values.now s a.i) (sym c.in-Permissions.is))
    c.put_two.ensures
