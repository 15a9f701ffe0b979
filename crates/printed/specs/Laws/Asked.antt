-- A policy of a good book is an admitted question, and what is printed of it is the reply that the search is allowed to give. Assumes nothing.
use Rattle.std.specs.Prelude.{◌≡◌, List, [], ◌∷◌, ◌++◌, ℕ, ◌^◌, ◌≤◌, ◌<◌, length, Ok}
use Rattle.std.proofs.Common.{sym, lt_of_lt_of_le, pow_mono, le-ltb}
use Rattle.std.proofs.Math.Option.{some}
use Rattle.std.proofs.Math.ListN.{get_elem?}
use Rattle.roster.specs.Limits.{row_limit}
use Rattle.roster.specs.Refusals.{policy_ruling}
use Rattle.roster.specs.declared.Policy.{Policy}
use Rattle.roster.specs.declared.Reply.{Reply}
use Rattle.absences.specs.declared.Way.TheVariants.{Skipping}
use Rattle.accounts.specs.Persons.{persons}
use Rattle.accounts.proofs.Laws.Merged.{persons_few}
use Rattle.absences.specs.Asked.{Admits, Tells}
use Rattle.absences.proofs.Laws.Demands.{policy_allowed, policy_exactly}
use Rattle.book.specs.Layout.{Contents, PolicyFits}
use Rattle.book.specs.Promises.{accounts_for}
use Rattle.book.proofs.Laws.Parts.{each_nth}
use Rattle.text.specs.Text.{newline}
use Rattle.text.specs.Cut.{lines_of}
use Rattle.lines.specs.Lines.{line_of}
use Rattle.lines.specs.Sheet.{allowance, numbers_in, reply_to, sheet_of}
use Rattle.lines.specs.Laws.Laid.{reply_laid}
use Rattle.printed.specs.Words.{PolicyOf, table_for, MayReply}
use Rattle.printed.specs.Laws.Lines.{line_text_lem}
use Rattle.printed.specs.Laws.Sheets.{line_at, sheet_line}

-- what is not refused without a table is not refused with one of few enough rows
admitted_with : (n P s d t ed : ℕ) → n ≤ row_limit → policy_ruling 0 P s d t ed ≡ Ok tt → policy_ruling n P s d t ed ≡ Ok tt
unfolding policy_ruling
admitted_with n P s d t ed l e = rw (le-ltb row_limit n l) e

module _ (book : List ℕ) (i : ℕ) (v : Contents) (p : Policy) (o : PolicyOf book i v p) where
  fits : PolicyFits (length v.codes) p
  fits = each_nth (PolicyFits (length v.codes)) v.policies i p o.layout.admitted.sound o.policy

  pub task_wide : p.task < 2 ^ 32
  task_wide = lt_of_lt_of_le fits.task (pow_mono o.layout.admitted.permissions)

  pub policy_admitted : Admits (table_for v) p.task p.away p.crews p.size p.edition
  policy_admitted = admitted_with (persons (accounts_for v)) p.task p.away p.crews p.size p.edition (persons_few (accounts_for v)) fits.sound

  pub policy_reply : MayReply v p (reply_to book p)
  policy_reply =
      rw (reply_laid v book o.layout p)
      (policy_allowed Skipping (table_for v) p.task p.away p.crews p.size p.edition task_wide allowance)

  pub policy_tells : Tells Skipping (table_for v) p.task p.away p.crews p.size p.edition allowance (reply_to book p)
  policy_tells = policy_exactly Skipping (table_for v) p.task p.away p.crews p.size p.edition task_wide allowance (reply_to book p) policy_reply

-- what line i of a sheet is
pub record PolicyLine (book : List ℕ) (i : ℕ) (v : Contents) (p : Policy) : Type 0 where
  pub reply : Reply
  pub admitted : Admits (table_for v) p.task p.away p.crews p.size p.edition
  pub allowed : MayReply v p reply
  pub text : List ℕ
  pub line : get_elem? (lines_of (sheet_of book)) i ≡ some text
  pub written : text ++ (newline ∷ []) ≡ line_of (numbers_in book) i reply

-- it is the line of a reply that may be given to policy i, whose question is admitted
pub policy_line : (book : List ℕ) (i : ℕ) (v : Contents) (p : Policy) → PolicyOf book i v p → PolicyLine book i v p
policy_line book i v p o = record {
  reply = reply_to book p;
  admitted = policy_admitted book i v p o;
  allowed = policy_reply book i v p o;
  text = line_at book i p;
  line = sheet_line book i v p o;
  written = sym (line_text_lem (numbers_in book) i (reply_to book p));
}
