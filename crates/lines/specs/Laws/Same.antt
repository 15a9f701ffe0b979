-- For one book and one buffer one reply and one text are promised. Assumes nothing.
use Rattle.std.specs.Prelude.{◌≡◌, List, ℕ, ◌≤◌, ◌<◌, length, Result}
use Rattle.std.proofs.Common.{sym, ◌∙◌, arith}
use Rattle.std.proofs.Math.Decide.{dec_lt}
use Rattle.lines.specs.declared.TooShort.{TooShort}
use Rattle.lines.specs.Sheet.{longest, Promised}

pub promised_same : {book old new new' : List ℕ} {r r' : Result ℕ TooShort} → Promised book old new r → Promised book old new' r' → (r ≡ r') × (new ≡ new')
promised_same {old = old} {new} {new'} {r} {r'} p q = go (dec_lt (length old) longest)
  where
    go : Dec (length old < longest) → (r ≡ r') × (new ≡ new')
    go (yes l) = ((p.short l).0 ∙ sym (q.short l).0, (p.short l).1 ∙ sym (q.short l).1)
    go (no n) =
        let l : longest ≤ length old = omega arith in
        ((p.written l).0 ∙ sym (q.written l).0, (p.written l).1 ∙ sym (q.written l).1)
