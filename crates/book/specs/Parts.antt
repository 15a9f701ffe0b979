-- 01, "The roster book": what a book's parts are, for every byte string: the codes, the accounts, the policies, and each row by its number. A
-- refused book has no parts: its sections are taken to start at its end, where no count stands. Nothing here is proved: these are definitions.
use Rattle.std.specs.Prelude.{true, false, List, [], ◌∷◌, ℕ, zero, suc, ◌+◌, ◌*◌, leb, ltb, length, Option, Some, None, Result, unwrap_or}
use Rattle.sets.specs.Arrays.{tabulate}
use Rattle.roster.specs.Limits.{row_limit}
use Rattle.roster.specs.Refusals.{made}
use Rattle.accounts.specs.declared.Accounts.{Accounts}
use Rattle.book.specs.Layout.{Contents}
use Rattle.book.specs.Reading.{Kind, codes, rows_of, policies_of, width, entry_at, count_at, past, form_of, front, read_of}
use Rattle.book.specs.declared.Form.{Form}
use Rattle.book.specs.declared.FaultAt.{FaultAt}
use Rattle.book.specs.declared.Starts.{Starts}
use Rattle.book.specs.declared.Row.{Row}
use Rattle.book.specs.declared.Book.{Book}
use Rattle.roster.specs.declared.Policy.{Policy}
use Rattle.std.specs.Result.{result_ok, result_unwrap_or}
use Rattle.roster.specs.declared.Refusal.{Refusal}

-- ---- the values of a book

-- n entries from this place on
unfoldable pub entries_at : {A : Type 0} → Kind A → List ℕ → ℕ → ℕ → List A
entries_at kind book at zero = []
entries_at kind book at (suc n) = entry_at kind book at ∷ entries_at kind book (at + width kind) n

-- the values of the section that starts here
abbrev pub values_at : {A : Type 0} → Kind A → List ℕ → ℕ → List A
values_at kind book at = entries_at kind book (at + 1) (count_at book at)

-- the values that a good book is the layout of, by its form
unfoldable pub contents_by : Form → List ℕ → Contents
contents_by form book =
    let rows_at = past codes book (front form) in
    record {
      form = form;
      codes = values_at codes book (front form);
      rows = values_at (rows_of form) book rows_at;
      policies = values_at (policies_of form) book (past (rows_of form) book rows_at);
    }

abbrev pub contents_of : List ℕ → Contents
contents_of book = contents_by (form_of book) book

-- ---- its parts by place

-- where the sections are taken to start, of a refused book too
abbrev pub starts_by : List ℕ → Result Starts FaultAt → Starts
starts_by book reply = result_unwrap_or reply (record { permissions = length book; rows = length book; policies = length book })

unfoldable pub starts_in : List ℕ → Starts
starts_in book = starts_by book (read_of book)

-- where the i-th entry of this width stands in the section that starts here, if it has one
unfoldable pub place_of : ℕ → List ℕ → ℕ → ℕ → Option ℕ
place_of wide book start i =
    let at = start + 1 + wide * i in
    elim (leb (count_at book start) i) [
      | true ↦ None
      | false ↦ elim (ltb (length book) (at + wide)) [ true ↦ None | false ↦ Some at ]
    ]

-- ---- its codes

-- "The i-th code is bit i."
abbrev pub code_from : List ℕ → Option ℕ → Option ℕ
code_from book (Some at) = Some (entry_at codes book at)
code_from book None = None

-- a code of a book whose sections start here
abbrev pub code_at : List ℕ → Starts → ℕ → Option ℕ
code_at book starts i = code_from book (place_of (width codes) book starts.permissions i)

unfoldable pub code_count_of : List ℕ → ℕ
code_count_of book = count_at book (starts_in book).permissions

-- ---- its rows

-- "staff number and holdings by row; past the last row it answers "no such row"": the row whole, with its person number
abbrev pub row_from : List ℕ → Option ℕ → Option Row
row_from book (Some at) = Some (entry_at (rows_of (form_of book)) book at)
row_from book None = None

-- a row of a book whose sections start here: where it stands, and what it is
abbrev pub row_place : List ℕ → Starts → ℕ → Option ℕ
row_place book starts row = place_of (width (rows_of (form_of book))) book starts.rows row

abbrev pub row_at : List ℕ → Starts → ℕ → Option Row
row_at book starts row = row_from book (row_place book starts row)

-- a row of a book
abbrev pub row_by_number : List ℕ → ℕ → Option Row
row_by_number book row = row_at book (starts_in book) row

-- "a view over it answers staff number and holdings by row"
abbrev pub row_of : Book → ℕ → Option Row
row_of view row = row_at view.bytes.now view.starts row

-- ---- the accounts and the policies

-- a row that is not there has no numbers and holds nothing
abbrev pub row_or0 : Option Row → Row
row_or0 seen = unwrap_or seen (record { staff = 0; person = 0; holdings = 0 })

-- "The table is one value that carries all 64 holdings and its row count", and all person numbers: that of a book whose sections start here
abbrev pub accounts_at : List ℕ → Starts → Accounts
accounts_at book starts = record {
  holdings = tabulate row_limit (λ row. (row_or0 (row_at book starts row)).holdings);
  persons = tabulate row_limit (λ row. (row_or0 (row_at book starts row)).person);
  rows = count_at book starts.rows;
}

unfoldable pub accounts_in : List ℕ → Accounts
accounts_in book = accounts_at book (starts_in book)

unfoldable pub policy_count_of : List ℕ → ℕ
policy_count_of book = count_at book (starts_in book).policies

abbrev pub listed_by : Result Policy Refusal → Option Policy
listed_by made = result_ok made

abbrev pub policy_from : List ℕ → Option ℕ → Option Policy
policy_from book (Some at) = listed_by (made (entry_at (policies_of (form_of book)) book at))
policy_from book None = None

-- the i-th policy of the section that starts here: where it stands, and what it is
abbrev pub policy_place : List ℕ → ℕ → ℕ → Option ℕ
policy_place book start i = place_of (width (policies_of (form_of book))) book start i

abbrev pub policy_in : List ℕ → ℕ → ℕ → Option Policy
policy_in book start i = policy_from book (policy_place book start i)

unfoldable pub policy_at : List ℕ → ℕ → Option Policy
policy_at book i = policy_in book (starts_in book).policies i
