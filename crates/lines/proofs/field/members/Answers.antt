-- Each turn writes the first of the members to come. Assumes nothing.
use mathlib.Core.Path.{sym, ap, ◌∙◌}
use Prim.Native.Nat.{ℕ}
use Rattle.sets.proofs.Laws.Members.{members-first}
use Rattle.sets.specs.declared.Members.{Members}
use Rattle.text.specs.Text.{marked}
use Rattle.lines.specs.Lines.{names, between_members}
use Rattle.text.specs.Laws.Appends.{begin, step, with_rest, finish}
use Rattle.lines.proofs.Walk.{member_next, member_last}
use Rattle.lines.proofs.field.members.Goals as goal

pub member-next-requires : goal.member-next-requires
member-next-requires c = (members-first 64 _ _ _ c.in-Some.ensures.steps).0

pub loop-row-init : goal.loop-row-init
loop-row-init c = let a = c.args in
    with_rest (ap (λ (m : ℕ). marked a.mark between_members (names a.numbers.now m)) (sym (ap (λ (m : Members). m.left) c.into_iter-row-iterator.ensures.into_iter_gives ∙ c.of-row-items.ensures)))
    (begin _ _ _)

pub loop-row-preserved : goal.loop-row-preserved
loop-row-preserved c = let l = c.loop-row in
    step _ (with_rest (member_next _ l.before l.row-iterator.left c.in-Some.row c.next.new.self.left c.in-Some.ensures.steps) l.invariant) c.member-next.ensures

pub returns : goal.returns
returns c = finish (with_rest (member_last _ _ _ c.in-None.ensures.steps.0) c.loop-row.invariant)
