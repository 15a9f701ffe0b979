-- A whole input is answered with what `table::show` writes, which finds the buffer long enough; any other with the complaint. Assumes nothing.
use mathlib.Core.Path.{◌≡◌, refl, sym, ap, subst, ◌∙◌}
use mathlib.Core.List.{List}
use Prim.Native.Nat.{ℕ, ◌≤◌}
use native.Mathlib.Omega.{arith}
use lib.ListN.{length, take}
use Rattle.book.specs.Reading.{read_of}
use Rattle.table.specs.declared.Shown.{Shown}
use Rattle.table.specs.declared.Shown.TheVariants.{Table, Bad}
use Rattle.lines.specs.declared.TooShort.{TooShort}
use Rattle.book.specs.declared.Starts.{Starts}
use Rattle.book.specs.declared.FaultAt.{FaultAt}
use Rattle.table.specs.Shown.{shown_of, shown_as, longest, Shows}
use Rattle.std.proofs.Common.{Result, Ok, Err}
use Rattle.output.specs.declared.Said.{Said}
use Rattle.output.specs.Says.{output, errors, Says}
use Rattle.output.specs.Laws.{all_said}
use Rattle.show.specs.Said.{unreadable, stream_of, text_of}
use Rattle.show.proofs.answer.Goals as goal

complains : {E : Type 0} (buffer old new : List ℕ) (input : Result ℕ E) (r : Said) → ((n : ℕ) → input ≡ Ok n → ⊥) → Says errors unreadable old new r
    → Says (stream_of input) (text_of buffer input) old new r
unfolding stream_of text_of
complains buffer old new (Err e) r k s = s
complains buffer old new (Ok n) r k s = absurd (k n refl)

whole : {E : Type 0} (buffer old new : List ℕ) (input : Result ℕ E) (n : ℕ) (r : Said) → input ≡ Ok n → Says output (shown_of (take n buffer)) old new r
    → Says (stream_of input) (text_of buffer input) old new r
unfolding stream_of text_of
whole {E} buffer old new input n r e s = subst (λ (p : Result ℕ E). Says (stream_of p) (text_of buffer p) old new r) (sym e) s

-- how many bytes are shown, of either kind
abbrev bytes_in : Result Shown TooShort → ℕ
bytes_in (Ok (Table n)) = n
bytes_in (Ok (Bad n)) = n
bytes_in (Err e) = 0

as_long : (r : Result Starts FaultAt) (n : ℕ) → bytes_in (Ok (shown_as r n)) ≡ n
as_long (Ok starts) n = refl
as_long (Err e) n = refl

-- what `table::show` promises of a buffer that is long enough
shown : (book old new : List ℕ) (w : Result Shown TooShort) → Shows book old new w → longest ≤ length old → (n : ℕ) → bytes_in w ≡ n
    → Says output (shown_of book) old new (record { stream = output; length = n })
shown book old new w p long n e = record {
  on = refl;
  long = sym e ∙ ap bytes_in (p.written long).0 ∙ as_long (read_of book) (length (shown_of book));
  front = (p.written long).1;
}

pub returns-in_default : goal.returns-in_default
returns-in_default c = complains _ _ _ _ _ c.in_default.not-Ok (all_said unreadable (omega (arith, c.requires.1)) c.complaint.ensures.said)

pub returns-in-Ok-Table : goal.returns-in-Ok-Table
returns-in-Ok-Table c =
    let is : c.show.result ≡ Ok (Table c.in-Ok-Table.length) = cc in
    whole _ _ _ _ _ _ c.in-Ok.is (shown _ _ _ _ c.show.ensures.shown c.requires.1 _ (ap bytes_in is))

pub returns-in-Ok-Bad : goal.returns-in-Ok-Bad
returns-in-Ok-Bad c =
    let is : c.show.result ≡ Ok (Bad c.in-Ok-Bad.length) = cc in
    whole _ _ _ _ _ _ c.in-Ok.is (shown _ _ _ _ c.show.ensures.shown c.requires.1 _ (ap bytes_in is))
