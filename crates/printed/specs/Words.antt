-- What stands on a sheet, in the words of the book that it is printed from. Nothing here is proved: these are definitions.
use Rattle.std.specs.Prelude.{◌≡◌, List, map, ℕ, ◌^◌, ◌≤◌, ◌<◌, get_or, take}
use Rattle.std.proofs.Math.Option.{some}
use Rattle.std.proofs.Math.ListN.{get_elem?}
use Rattle.sets.specs.Members.{members}
use Rattle.roster.specs.Limits.{row_limit}
use Rattle.roster.specs.declared.Policy.{Policy}
use Rattle.roster.specs.declared.Reply.{Reply}
use Rattle.roster.specs.declared.Table.{Table}
use Rattle.crews.specs.Named.{first_list}
use Rattle.absences.specs.declared.Way.{Way}
use Rattle.absences.specs.declared.Way.TheVariants.{Skipping}
use Rattle.absences.specs.Asked.{Admits, need_policy, PolicyReply}
use Rattle.accounts.specs.Persons.{number, merged}
use Rattle.book.specs.Layout.{Contents, LayoutOf}
use Rattle.book.specs.Promises.{accounts_for}
use Rattle.text.specs.Text.{comma, decimal, joined}
use Rattle.text.specs.Cut.{◌␣◌, HasLine}
use Rattle.lines.specs.Sheet.{allowance, sheet_of}

-- ---- a policy of a book

-- the table of the persons whose accounts these are
abbrev pub table_for : Contents → Table
table_for v = merged (accounts_for v)

-- the book is the layout of these values, and this is their policy with the index i
pub record PolicyOf (book : List ℕ) (i : ℕ) (v : Contents) (p : Policy) : Type 0 where
  pub layout : LayoutOf v book
  pub policy : get_elem? v.policies i ≡ some p

-- the units that deciding it takes
abbrev pub need_of : Contents → Policy → ℕ
need_of v p = need_policy Skipping (table_for v) p.task p.away p.crews p.size p.edition

-- what may be replied to it, by the search that skips and with the whole allowance
abbrev pub MayReply : Contents → Policy → Reply → Type 0
MayReply v p = PolicyReply Skipping (table_for v) p.task p.away p.crews p.size p.edition allowance

-- "the first list with nobody absent": the d crews that are printed with a yes
abbrev pub first_crews : Contents → Policy → List ℕ
first_crews v p = take p.crews (first_list (table_for v) p.task p.crews p.size p.edition 0)

-- the sheet has a line `i WORD ..`
abbrev pub Prints : List ℕ → ℕ → List ℕ → Type 0
Prints book i word = (rest : List ℕ) × HasLine (sheet_of book) (decimal i ␣ word ␣ rest)

-- a reply that may be given to an admitted policy question, by either search and with any allowance, over a table of at most n rows
pub record ReplyOver (n : ℕ) (r : Reply) : Type 0 where
  pub way : Way
  pub table : Table
  pub task : ℕ
  pub away : ℕ
  pub crews : ℕ
  pub size : ℕ
  pub edition : ℕ
  pub allowance : ℕ
  pub few : table.rows ≤ n
  pub wide : task < 2 ^ 32
  pub admitted : Admits table task away crews size edition
  pub allowed : PolicyReply way table task away crews size edition allowance r

-- ---- names

-- "Members are staff numbers in row order joined by `,`", "person numbers for new books": the numbers of these persons, in person order; `-` where
-- there is none
abbrev pub names_of : Contents → ℕ → List ℕ
names_of v A = joined comma (map (λ i. decimal (number (accounts_for v) i)) (members 0 row_limit A))

-- n names that are pairwise different
abbrev pub Different : ℕ → List ℕ → Type 0
Different n numbers = (u w : ℕ) → u < n → w < n → get_or numbers u 0 ≡ get_or numbers w 0 → u ≡ w
