-- The four numbers one after the other, and the edition. Assumes nothing.
use mathlib.Core.Path.{◌≡◌, ap, ◌∙◌}
use mathlib.Core.Bool.{Bool, true, false}
use mathlib.Core.List.{[], ◌∷◌, ◌++◌, append_assoc}
use Prim.Native.Nat.{◌%◌}
use Rattle.std.proofs.Common.{rules}
use Rattle.roster.specs.declared.Policy.{Policy}
use Rattle.book.specs.Layout.{little_endian, field_bytes, policy_widths, policy_fields, form_has_editions}
use Rattle.text.specs.Laws.Appends.{◌then◌, read_as}
use Rattle.values.specs.Inner.Puts.{edition_bytes}
use Rattle.values.proofs.Puts.{byte, low_of}
use Rattle.values.proofs.put.put_policy.Goals as goal

parts : (editions : Bool) (p : Policy)
    → little_endian 4 p.task ++ (p.away % 256 ∷ []) ++ (p.crews % 256 ∷ []) ++ (p.size % 256 ∷ []) ++ edition_bytes editions p.edition
    ≡ field_bytes (policy_widths editions) (policy_fields editions p)
unfolding field_bytes little_endian
parts false p = simp append_assoc
parts true p = simp append_assoc

pub returns : goal.returns
returns c = let a = c.args in
    let task : c.from.result ≡ a.policy.task = search rules in
    let away : c.from-2.result ≡ a.policy.away = search rules in
    let size : c.from-3.result ≡ a.policy.size = search rules in
    read_as (parts (form_has_editions a.form) a.policy)
    (read_as (ap (little_endian 4) task) c.put_four-tasked.ensures
    then read_as (byte (c.low.ensures ∙ low_of away)) c.put-spared.ensures
    then read_as (byte c.low-2.ensures) c.put-crewed.ensures
    then read_as (byte (c.low-3.ensures ∙ low_of size)) c.put-sized.ensures
    then c.put_edition.ensures)
