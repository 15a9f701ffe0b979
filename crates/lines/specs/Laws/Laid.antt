-- The sheet of a good book is a function of its values: of the persons that its accounts come to, and of its policies. Assumes nothing.
use Rattle.std.specs.Prelude.{◌≡◌, ℕ, suc, ◌+◌, length, Result, Some}
use Rattle.std.proofs.Math.Path.{refl, ap, ap₂}
use Rattle.std.proofs.Common.{◌∙◌, arith}
use mathlib.Core.List.{List, [], ◌∷◌, ◌++◌}
use Rattle.std.proofs.Math.ListN.{get_elem?}
use Rattle.roster.specs.declared.Policy.{Policy}
use Rattle.roster.specs.declared.Reply.{Reply}
use Rattle.absences.specs.Replied.{policy_reply_of}
use Rattle.accounts.specs.declared.Accounts.{Accounts}
use Rattle.accounts.specs.declared.People.{People}
use Rattle.accounts.specs.Persons.{people_of}
use Rattle.accounts.proofs.Laws.Rulings.{few_admitted}
use Rattle.questions.specs.Replied.{behind}
use Rattle.book.specs.Layout.{Contents, LayoutOf}
use Rattle.book.specs.Parts.{policy_at}
use Rattle.book.specs.Promises.{answered, accounts_for}
use Rattle.book.proofs.Laws.Books.{layout_good}
use Rattle.book.proofs.Laws.Parts.{layout_parts}
use Rattle.lines.specs.Lines.{line_of}
use Rattle.lines.specs.Sheet.{allowance, way, answer_to, numbers_in, reply_to, line_by, lines_from, sheet_by, sheet_of}
use Rattle.roster.specs.declared.Refusal.{Refusal}

-- the reply to a policy over these persons, and the lines of policies, with the indices from this one on
abbrev pub reply_over : People → Policy → Reply
reply_over people p = policy_reply_of way people.table p.task p.away p.crews p.size p.edition allowance

unfoldable pub lines_over : People → ℕ → List Policy → List ℕ
lines_over people index [] = []
lines_over people index (p ∷ l) = line_of people.numbers index (reply_over people p) ++ lines_over people (suc index) l

module _ (v : Contents) (book : List ℕ) (l : LayoutOf v book) where
  pub numbers_laid : numbers_in book ≡ (people_of (accounts_for v)).numbers
  unfolding numbers_in
  numbers_laid = ap (λ (a : Accounts). (people_of a).numbers) (layout_parts v book l).accounts

  -- a book has at most 64 rows, so nothing of its accounts is refused
  pub reply_laid : (p : Policy) → reply_to book p ≡ reply_over (people_of (accounts_for v)) p
  unfolding reply_to
  reply_laid p =
      let a = accounts_for v in
      ap (λ (x : Accounts). answer_to x p) (layout_parts v book l).accounts
      ∙ ap (λ (first : Result Unit Refusal). behind first (reply_over (people_of a) p)) (few_admitted a l.admitted.rows)

  lines_laid : (index : ℕ) (policies : List Policy) → ((j : ℕ) → policy_at book (index + j) ≡ answered (get_elem? policies j))
      → lines_from book index (length policies) ≡ lines_over (people_of (accounts_for v)) index policies
  unfolding lines_from lines_over line_by
  lines_laid index [] h = refl
  lines_laid index (p ∷ rest) h =
      let here : policy_at book index ≡ Some p = ap (policy_at book) (omega arith) ∙ h 0 in
      let line = ap (line_by book index) here ∙ ap₂ (λ (n : List ℕ) (r : Reply). line_of n index r) numbers_laid (reply_laid p) in
      ap₂ (λ (one more : List ℕ). one ++ more) line (lines_laid (suc index) rest (λ j. ap (policy_at book) (omega arith) ∙ h (suc j)))

  pub sheet_laid : sheet_of book ≡ lines_over (people_of (accounts_for v)) 0 v.policies
  unfolding sheet_of sheet_by
  sheet_laid =
      let parts = layout_parts v book l in
      ap (sheet_by book) (layout_good v book l)
      ∙ ap (lines_from book 0) parts.policies
      ∙ lines_laid 0 v.policies (λ j. ap (policy_at book) (omega arith) ∙ parts.policy j)
