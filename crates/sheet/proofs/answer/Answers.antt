-- A whole input is answered with what `lines::sheet` writes, which finds the buffer long enough; any other with the complaint. Assumes nothing.
use mathlib.Core.Path.{◌≡◌, refl, sym, subst}
use mathlib.Core.List.{List}
use Prim.Native.Nat.{ℕ, ◌≤◌}
use native.Mathlib.Omega.{arith}
use lib.ListN.{length, take}
use Rattle.lines.specs.declared.TooShort.{TooShort}
use Rattle.lines.specs.Sheet.{sheet_of, longest, Promised}
use Rattle.std.proofs.Common.{Result, Ok, Err, MatchResult, rules}
use Rattle.output.specs.declared.Said.{Said}
use Rattle.output.specs.Says.{output, errors, Says}
use Rattle.output.specs.Laws.{all_said}
use Rattle.sheet.specs.Said.{unreadable, stream_of, text_of}
use Rattle.sheet.proofs.answer.Goals as goal

-- what `lines::sheet` promises of a buffer that is long enough
written : (book old new : List ℕ) (w : Result ℕ TooShort) → Promised book old new w → longest ≤ length old → (n : ℕ)
    → MatchResult w (λ k. n ≡ k) (λ e. n ≡ 0) → Says output (sheet_of book) old new (record { stream = output; length = n })
written book old new w p long n m = record {
  on = refl;
  long = subst (λ (x : Result ℕ TooShort). MatchResult x (λ k. n ≡ k) (λ e. n ≡ 0)) (p.written long).0 m;
  front = (p.written long).1;
}

complains : {E : Type 0} (buffer old new : List ℕ) (input : Result ℕ E) (r : Said) → ((n : ℕ) → input ≡ Ok n → ⊥) → Says errors unreadable old new r
    → Says (stream_of input) (text_of buffer input) old new r
unfolding stream_of text_of
complains buffer old new (Err e) r k s = s
complains buffer old new (Ok n) r k s = absurd (k n refl)

whole : {E : Type 0} (buffer old new : List ℕ) (input : Result ℕ E) (n : ℕ) (r : Said) → input ≡ Ok n → Says output (sheet_of (take n buffer)) old new r
    → Says (stream_of input) (text_of buffer input) old new r
unfolding stream_of text_of
whole {E} buffer old new input n r e s = subst (λ (p : Result ℕ E). Says (stream_of p) (text_of buffer p) old new r) (sym e) s

pub returns-in_default : goal.returns-in_default
returns-in_default c = complains _ _ _ _ _ c.in_default.not-Ok (all_said unreadable (omega (arith, c.requires.1)) c.complaint.ensures.said)

pub returns : goal.returns
returns c = whole _ _ _ _ _ _ c.in-Ok.is (written _ _ _ _ c.sheet.ensures.sheet c.requires.1 _ (search rules))
