-- By whether something of the task is missing, and whether members are asked for. Assumes nothing.
use mathlib.Core.Path.{sym, ap, ◌∙◌}
use native.Mathlib.Omega.{arith}
use lib.Count.{ones}
use lib.Dec.{leb}
use borrow.Author.Tests.{le-leb}
use Rattle.crews.proofs.Laws.Steps.{closes_lacks, closes_whole}
use Rattle.crews.proofs.Filling.closes.Goals as goal

pub returns-then-missing-ne0 : goal.returns-then-missing-ne0
returns-then-missing-ne0 c = let a = c.args in
    sym (closes_lacks a.task a.least a.self (λ z. c.if-missing-ne0.true (c.missing.ensures ∙ z)))

pub returns-then-least-eq0 : goal.returns-then-least-eq0
returns-then-least-eq0 c = let a = c.args in
    sym (closes_whole a.task a.least a.self (sym c.missing.ensures ∙ c.if-missing-ne0.false)
    ∙ le-leb a.least (ones a.self.crew) (omega (arith, c.if-least-eq0.true)))

pub returns : goal.returns
returns c = let a = c.args in
    ap (leb a.least) c.size.ensures
    ∙ sym (closes_whole a.task a.least a.self (sym c.missing.ensures ∙ c.if-missing-ne0.false))
