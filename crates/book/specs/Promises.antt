-- What the reader promises, in the words of the layout: what a first fault is, what may be replied, and what the parts of a book are. The laws
-- show that every byte string has exactly one reply. Nothing here is proved: these are definitions.
use Rattle.std.specs.Prelude.{◌≡◌, List, [], ◌∷◌, ◌++◌, ℕ, ◌<◌, length, get_or, Option, Some, None, Result, Ok}
use Rattle.std.proofs.Math.Option.{Option as Maybe, some, none}
use Rattle.std.proofs.Math.ListN.{get_elem?}
use Rattle.std.specs.Borrow.{Bor}
use Rattle.sets.specs.Arrays.{tabulate}
use Rattle.roster.specs.Limits.{row_limit}
use Rattle.accounts.specs.declared.Accounts.{Accounts}
use Rattle.book.specs.Layout.{Contents, Each, LayoutOf, section, code_widths, code_fields, row_widths, row_fields, form_has_persons, lead}
use Rattle.book.specs.Reading.{form_of, looks, Look, refused}
use Rattle.book.specs.declared.Form.{Form}
use Rattle.book.specs.Parts.{starts_in, code_count_of, code_at, row_by_number, row_or0, accounts_in, policy_count_of, policy_at}
use Rattle.book.specs.declared.Fault.{Fault}
use Rattle.book.specs.declared.Starts.{Starts}
use Rattle.book.specs.declared.Book.{Book}
use Rattle.book.specs.declared.FaultAt.{FaultAt}

-- a byte string, as a lent slice of bytes is one
abbrev pub Bytes : List ℕ → Type 0
Bytes book = (i : ℕ) → get_or book i 0 < 256

-- nothing of what is looked at is at fault
abbrev pub AllSound : List Look → Type 0
AllSound = Each (λ x. x ≡ Ok tt)

-- "the first fault": of all that is looked at, in the order of the bytes, this is at fault and nothing before it is
pub record FirstFault (book : List ℕ) (f : Fault) (at : ℕ) : Type 0 where
  pub before : List Look
  pub after : List Look
  pub order : looks book ≡ before ++ (refused f at ∷ after)
  pub sound : AllSound before

-- where the sections of the layout of these values start
abbrev pub starts_for : Contents → Starts
starts_for v =
    let first = section code_widths code_fields v.codes in
    let second = section (row_widths (form_has_persons v.form)) (row_fields (form_has_persons v.form)) v.rows in
    record {
      permissions = length (lead v.form);
      rows = length (lead v.form ++ first);
      policies = length (lead v.form ++ (first ++ second));
    }

-- what may be replied to these bytes
pub record Allows (book : List ℕ) (r : Result Starts FaultAt) : Type 0 where
  pub good : (v : Contents) → LayoutOf v book → r ≡ Ok (starts_for v)
  pub refused : (f : Fault) (at : ℕ) → FirstFault book f at → r ≡ refused f at

-- ---- the parts of a book

-- what is answered of a code, a row or a policy that is there or not
abbrev pub answered : {A : Type 0} → Maybe A → Option A
answered none = None
answered (some x) = Some x

-- the accounts of these values: a row's holdings and person number, and 0 past the last
abbrev pub accounts_for : Contents → Accounts
accounts_for v = record {
  holdings = tabulate row_limit (λ row. (row_or0 (answered (get_elem? v.rows row))).holdings);
  persons = tabulate row_limit (λ row. (row_or0 (answered (get_elem? v.rows row))).person);
  rows = length v.rows;
}

-- what the form, the codes, the accounts, the policies and the rows of a book are that has these values
pub record PartsOf (v : Contents) (book : List ℕ) : Type 0 where
  pub form : form_of book ≡ v.form
  pub codes : code_count_of book ≡ length v.codes
  pub code : (i : ℕ) → code_at book (starts_in book) i ≡ answered (get_elem? v.codes i)
  pub accounts : accounts_in book ≡ accounts_for v
  pub policies : policy_count_of book ≡ length v.policies
  pub policy : (i : ℕ) → policy_at book i ≡ answered (get_elem? v.policies i)
  pub row : (i : ℕ) → row_by_number book i ≡ answered (get_elem? v.rows i)

-- what a refused book is taken to have: its form, which is its first byte's, and nothing else
abbrev pub nothing : Form → Contents
nothing form = record { form = form; codes = []; rows = []; policies = [] }

-- ---- the view

-- what may be answered as the view of these bytes: the bytes as they were lent, and where their sections are taken to start
pub record ViewOf (bytes : Bor (List ℕ)) (view : Book) : Type 0 where
  pub lent : view.bytes ≡ bytes
  pub starts : view.starts ≡ starts_in bytes.now
