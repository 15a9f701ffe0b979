-- The loop's invariant: what is left to be written is the reading of the bytes that are left. Assumes nothing.
use Rattle.std.proofs.Common.{◌≡◌, ℕ, false, List, drop, ap, ◌∙◌}
use Rattle.text.specs.Laws.Appends.{step, with_rest, finish, read_as}
use Rattle.table.specs.Understood.{mark_length, separator_from, plain_from, plain}
use Rattle.table.proofs.Bytes.{plain_next, plain_end}
use Rattle.table.proofs.plain.put_plain.Goals as goal

whole : (text : List ℕ) {from separator : ℕ} → from ≡ mark_length text → separator ≡ separator_from false (drop from text)
    → plain_from separator false (drop from text) ≡ plain text
unfolding plain
whole text {from} e f =
    ap (λ (s : ℕ). plain_from s false (drop from text)) f
    ∙ ap (λ (k : ℕ). plain_from (separator_from false (drop k text)) false (drop k text)) e

pub loop-i-preserved : goal.loop-i-preserved
loop-i-preserved c = let l = c.loop-i in
    step _ (with_rest (plain_next _ l.quoted _ l.i c.loop-i-test.true c.turned-quoted.ensures) l.invariant) c.put_byte-next.ensures

pub returns : goal.returns
returns c = let l = c.loop-i in
    record { put = read_as (whole _ c.mark_length-from.ensures c.separator_of-separator.ensures) (finish (with_rest (plain_end _ l.quoted _ l.i c.loop-i-test.false) l.invariant)) }
