-- P is cut, or the book ends in the bytes after it. Assumes nothing.
use mathlib.Core.Path.{sym}
use mathlib.Core.List.{◌∷◌}
use lib.ListN.{length}
use Rattle.book.specs.Layout.{edition_widths, form_has_editions}
use Rattle.book.proofs.Looks.{uncut}
use Rattle.book.proofs.Fields.{was_cut, cut-first, policy_cut}
use Rattle.book.proofs.Reader.cut_policy.Goals as goal

pub returns-then-cut : goal.returns-then-cut
returns-then-cut c = let a = c.args in
    let len = length a.self.bytes.now in
    sym (cut-first 4 (1 ∷ 1 ∷ 1 ∷ edition_widths (form_has_editions a.self.form)) len a.at (was_cut len a.at 4 c.cut.ensures c.if-cut.true))

pub returns : goal.returns
returns c = let a = c.args in
    let len = length a.self.bytes.now in
    policy_cut (form_has_editions a.self.form) len a.at (uncut len a.at 4 c.cut.ensures c.if-cut.false) c.requires
