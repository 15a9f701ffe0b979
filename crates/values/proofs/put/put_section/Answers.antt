-- The count, which is a byte, then the entries: the loop's invariant says which are left. Assumes nothing.
use mathlib.Core.Path.{◌≡◌, ap, ◌∙◌}
use mathlib.Core.List.{◌∷◌}
use Prim.Native.Nat.{ℕ, ◌%◌, ◌<◌}
use native.Mathlib.Omega.{arith}
use Rattle.book.specs.declared.Section.{Section}
use Rattle.book.specs.declared.Section.TheVariants.{Permissions, Rows, Policies}
use Rattle.text.specs.Laws.Appends.{step, with_rest, finish, read_as, ◌then◌}
use Rattle.values.specs.Inner.Looks.{limit_in}
use Rattle.values.specs.Inner.Puts.{entry_bytes, in_order}
use Rattle.values.specs.Laws.Order.{order_next, order_last}
use Rattle.values.proofs.Puts.{byte}
use Rattle.values.proofs.put.put_section.Goals as goal

limit_small : (section : Section) → limit_in section < 256
limit_small Permissions = omega arith
limit_small Rows = omega arith
limit_small Policies = omega arith

pub loop-i-preserved : goal.loop-i-preserved
loop-i-preserved c = let l = c.loop-i in
    let a = c.args in
    step _ (with_rest (order_next (entry_bytes a.values.now a.section) l.i c.count_of-count.result c.loop-i-test.true) l.invariant) c.put_entry-next.ensures

pub returns : goal.returns
returns c = let l = c.loop-i in
    let a = c.args in
    let bytes = entry_bytes a.values.now a.section in
    let n = c.count_of-count.result in
    let entries = finish (with_rest (order_last bytes l.i n c.loop-i-test.false) l.invariant) in
    let few : n < 256 = omega (arith, c.count_of-count.ensures, c.requires, limit_small a.section) in
    let whole : n % 256 ≡ n = omega arith in
    read_as (ap (λ (k : ℕ). k ∷ in_order bytes 0 k) c.count_of-count.ensures)
    (read_as (byte (c.low.ensures ∙ whole)) c.put-next.ensures then entries)
