-- The first or the second field is cut, or else the third. Assumes nothing.
use mathlib.Core.Path.{◌≡◌, sym, ◌∙◌}
use mathlib.Core.List.{[], ◌∷◌}
use Prim.Native.Nat.{◌+◌, ◌≤◌}
use native.Mathlib.Omega.{arith}
use lib.ListN.{length}
use Rattle.book.proofs.Looks.{uncut}
use Rattle.book.proofs.Fields.{was_cut, cut-first, cut_next}
use Rattle.book.proofs.Reader.cut_row.Goals as goal
use Rattle.book.proofs.Reader.cut_row.Goals.{Else-cut, Else-cut-2}

-- past the first field
first_whole : (c : Else-cut) → let a = c.args in a.at + 4 ≤ length a.self.bytes.now
first_whole c = let a = c.args in
    uncut (length a.self.bytes.now) a.at 4 c.cut.ensures c.if-cut.false

-- past the second
second_whole : (c : Else-cut-2) → let a = c.args in a.at + 4 + 4 ≤ length a.self.bytes.now
second_whole c = let a = c.args in
    uncut (length a.self.bytes.now) (a.at + 4) 4 c.cut-2.ensures c.if-cut-2.false

pub returns-then-cut : goal.returns-then-cut
returns-then-cut c = let a = c.args in
    let len = length a.self.bytes.now in
    sym (cut-first 4 (4 ∷ 4 ∷ []) len a.at (was_cut len a.at 4 c.cut.ensures c.if-cut.true))

pub returns-then-cut-2 : goal.returns-then-cut-2
returns-then-cut-2 c = let a = c.args in
    let len = length a.self.bytes.now in
    sym (cut_next 4 (4 ∷ 4 ∷ []) len a.at (first_whole (goal.at.returns-then-cut-2 c).Else-cut)
    ∙ cut-first 4 (4 ∷ []) len (a.at + 4) (was_cut len (a.at + 4) 4 c.cut-2.ensures c.if-cut-2.true))

pub returns : goal.returns
returns c = let len = length c.args.self.bytes.now in
    let at = c.args.at in
    let third : at + 8 ≡ at + 4 + 4 = omega arith in
    third
    ∙ sym (cut_next 4 (4 ∷ 4 ∷ []) len at (first_whole (goal.at.returns c).Else-cut)
    ∙ cut_next 4 (4 ∷ []) len (at + 4) (second_whole (goal.at.returns c).Else-cut-2)
    ∙ cut-first 4 [] len (at + 4 + 4) (omega (arith, c.requires)))
