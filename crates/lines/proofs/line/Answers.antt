-- The parts of the line are appended one after the other, and in this order they are the line. Assumes nothing.
use mathlib.Core.Path.{◌≡◌, ap}
use mathlib.Core.List.{List, [], ◌∷◌, ◌++◌, append_assoc, append-nil}
use Rattle.std.proofs.Common.{ℕ, rules}
use Rattle.roster.specs.declared.Reply.{Reply}
use Rattle.text.specs.Text.{space, newline, decimal, marked, joined}
use Rattle.text.specs.Laws.Appends.{◌then◌, read_as}
use Rattle.lines.specs.Lines.{verdict_word, sets_text, line_of}
use Rattle.lines.proofs.line.Goals as goal

parts : (numbers : List ℕ) (index : ℕ) (reply : Reply)
    → decimal index
    ++ (space ∷ [])
    ++ verdict_word reply.verdict
    ++ (space ∷ decimal reply.units)
    ++ (space ∷ sets_text numbers reply reply.verdict)
    ++ (newline ∷ [])
    ≡ line_of numbers index reply
unfolding line_of marked joined
parts numbers index reply = simp (append_assoc, append-nil)

pub returns : goal.returns
returns c = let a = c.args in
    let same : c.from.result ≡ a.reply.units = search rules in
    let units = read_as (ap (λ (n : ℕ). space ∷ decimal n) same) c.number-spent.ensures in
    read_as (parts a.numbers.now a.index a.reply)
    (c.decimal-counted.ensures
    then c.put-spaced.ensures
    then c.verdict_word-judged.ensures
    then units
    then c.sets_field-named.ensures
    then c.put.ensures)
