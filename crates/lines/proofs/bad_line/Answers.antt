-- As in `line`: the word, the number, the place and the newline one after the other are the line. Assumes nothing.
use mathlib.Core.Path.{◌≡◌, ap}
use mathlib.Core.List.{[], ◌∷◌, ◌++◌, append_assoc, append-nil}
use Rattle.std.proofs.Common.{ℕ, rules}
use Rattle.text.specs.Text.{quoted, space, newline, decimal, marked, joined}
use Rattle.text.specs.Laws.Appends.{◌then◌, read_as}
use Rattle.lines.specs.Lines.{bad_line}
use Rattle.lines.proofs.bad_line.Goals as goal

parts : (fault place : ℕ) → quoted "bad" ++ (space ∷ decimal fault) ++ (space ∷ decimal place) ++ (newline ∷ []) ≡ bad_line fault place
unfolding bad_line marked joined
parts fault place = simp (append_assoc, append-nil)

pub returns : goal.returns
returns c = let a = c.args in
    let same : c.from.result ≡ a.fault = search rules in
    let fault = read_as (ap (λ (n : ℕ). space ∷ decimal n) same) c.number-numbered.ensures in
    read_as (parts a.fault a.place) (c.word-called.ensures.appended then fault then c.number-placed.ensures then c.put.ensures)
