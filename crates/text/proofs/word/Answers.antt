-- A byte more of the word is a byte more that is appended. Assumes nothing.
use Rattle.std.proofs.Common.{sym, ap, ◌∙◌, ℕ, take, add-one, arith}
use Rattle.std.proofs.Math.Seq.{take-suc}
use Rattle.text.specs.Laws.Appends.{◌then◌, read_as}
use Rattle.text.proofs.word.Goals as goal

pub loop-byte-preserved : goal.loop-byte-preserved
loop-byte-preserved c =
    let i = c.loop-byte.byte-index in
    let bytes = c.args.bytes.now in
    let e = ap (λ (k : ℕ). take k bytes) (add-one i) ∙ take-suc bytes i 0 (omega arith) in
    read_as (sym e) (c.loop-byte.invariant then c.put-next.ensures)
