-- A blank line, a heading, or a line under one. Assumes nothing.
use Rattle.std.proofs.Common.{◌≡◌, Option, Some, None, sym, refl, ◌∙◌}
use Rattle.table.specs.declared.Span.{Span}
use Rattle.table.proofs.Lines.{takes_blank, takes_heading, takes_headed}
use Rattle.table.proofs.fit.take_line.Goals as goal

missing : (h : Option Span) → ((s : Span) → h ≡ Some s → ⊥) → h ≡ None
missing None n = refl
missing (Some s) n = absurd (n s refl)

pub returns-then-is_blank : goal.returns-then-is_blank
returns-then-is_blank c = let a = c.args in
    takes_blank _ _ _ a.line.from a.line.to _ c.between-cells.ensures (sym c.is_blank.ensures ∙ c.if-is_blank.true)

pub returns-in_default : goal.returns-in_default
returns-in_default c = let a = c.args in
    takes_heading _ _ _ a.line.from a.line.to _ c.between-cells.ensures (sym c.is_blank.ensures ∙ c.if-is_blank.false) (missing _ c.in_default.not-Some) c.requires.0 c.put_gap-gap.ensures c.put_fitted-next.ensures

pub returns : goal.returns
returns c = let a = c.args in
    takes_headed _ _ _ a.line.from a.line.to _ c.between-cells.ensures c.in-Some.heading c.in-Some.is c.between-above.ensures (sym c.is_blank.ensures ∙ c.if-is_blank.false) c.requires.1 c.put_fitted-next-2.ensures
