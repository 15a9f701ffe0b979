-- The line is that of the book's accounts, their numbers and the policy. Assumes nothing.
use Rattle.std.specs.Prelude.{Option, Some, None}
use mathlib.Core.Path.{◌≡◌, sym, ap, ap₂, ◌∙◌}
use mathlib.Core.List.{List, []}
use Prim.Native.Nat.{ℕ}
use Rattle.roster.specs.declared.Policy.{Policy}
use Rattle.accounts.specs.declared.Accounts.{Accounts}
use Rattle.book.specs.Parts.{accounts_in, policy_at}
use Rattle.lines.specs.Lines.{line_of}
use Rattle.lines.specs.Sheet.{answer_to, numbers_in, reply_to, line_by}
use Rattle.text.specs.Laws.Appends.{none, read_as}
use Rattle.lines.proofs.policy_line.Goals as goal

there : (book : List ℕ) (index : ℕ) (numbers : List ℕ) (accounts : Accounts) (p : Policy) (l : Option Policy) → numbers ≡ numbers_in book → accounts ≡ accounts_in book
    → l ≡ policy_at book index → l ≡ Some p
    → line_by book index (policy_at book index) ≡ line_of numbers index (answer_to accounts p)
unfolding line_by reply_to
there book index numbers accounts p l s t e f =
    ap (line_by book index) (sym e ∙ f)
    ∙ ap₂ (λ (x : List ℕ) (y : Accounts). line_of x index (answer_to y p)) (sym s) (sym t)

missing : (book : List ℕ) (index : ℕ) (l : Option Policy) → l ≡ policy_at book index → l ≡ None → [] ≡ line_by book index (policy_at book index)
unfolding line_by
missing book index l e f = ap (line_by book index) (sym f ∙ e)

pub returns-in-Some : goal.returns-in-Some
returns-in-Some c =
    let a = c.args in
    read_as
    (sym (there a.book.now a.index a.numbers.now a.accounts c.in-Some.policy c.policy_at.result c.requires.0 c.requires.1
    c.policy_at.ensures.reply c.in-Some.is)) c.asked.ensures

pub returns-in-None : goal.returns-in-None
returns-in-None c = let a = c.args in
    read_as (missing a.book.now a.index c.policy_at.result c.policy_at.ensures.reply c.in-None.is) (none a.out.now a.at)
