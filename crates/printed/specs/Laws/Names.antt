-- The names on a sheet are the person numbers of the book's rows, the staff numbers where it is old, and no two persons have one name. Assumes
-- nothing.
use Rattle.std.specs.Prelude.{◌≡◌, List, [], ◌∷◌, ℕ, zero, suc, ◌^◌, ◌<◌, length, get_or}
use Rattle.std.proofs.Common.{sym, ◌∙◌, arith}
use Rattle.std.proofs.Math.Path.{ap}
use Rattle.std.proofs.Math.Option.{some}
use Rattle.std.proofs.Math.ListN.{get_elem?}
use Rattle.sets.specs.Sets.{bit_below}
use Rattle.sets.specs.Members.{members}
use Rattle.sets.proofs.Laws.Members.{has_of_mem}
use Rattle.roster.specs.Limits.{row_limit}
use Rattle.accounts.specs.declared.Accounts.{Accounts}
use Rattle.accounts.specs.Persons.{rows_of, person, persons, number}
use Rattle.accounts.proofs.Laws.Merged.{same_person, every_person, at_numbers, numbered, own-person}
use Rattle.book.specs.declared.Row.{Row}
use Rattle.book.specs.declared.Form.TheVariants.{Old}
use Rattle.book.specs.Layout.{Contents, LayoutOf}
use Rattle.book.specs.Promises.{accounts_for}
use Rattle.book.proofs.Laws.Old.{old-person, old_different}
use Rattle.book.proofs.Laws.View.{there, account_of}
use Rattle.text.specs.Text.{comma, decimal, joined}
use Rattle.text.specs.Cut.{Every}
use Rattle.text.specs.Laws.Every.{map_ext}
use Rattle.lines.specs.Lines.{names, set_text}
use Rattle.lines.specs.Sheet.{numbers_in}
use Rattle.lines.specs.Laws.Laid.{numbers_laid}
use Rattle.printed.specs.Words.{names_of, Different}

-- a place with something there is within the list
within : {A : Type 0} (l : List A) (i : ℕ) (x : A) → get_elem? l i ≡ some x → i < length l
within [] i x e = let z : ◌≡◌ {A = ℕ} 0 1 = cc in absurd (omega arith)
within (y ∷ l) zero x e = omega arith
within (y ∷ l) (suc i) x e = omega (arith, within l i x e)

-- a person of the book: one of his rows, and that his number is that row's
pub record PersonOf (v : Contents) (i : ℕ) : Type 0 where
  pub row : ℕ
  pub account : Row
  pub listed : get_elem? v.rows row ≡ some account
  pub his : person (accounts_for v) row ≡ i
  pub called : number (accounts_for v) i ≡ account.person

module _ (v : Contents) (book : List ℕ) (l : LayoutOf v book) where
  abbrev a : Accounts
  a = accounts_for v

  row_below : (u : ℕ) (row : Row) → get_elem? v.rows u ≡ some row → (u < rows_of a) × (u < row_limit)
  row_below u row e = let h = within v.rows u row e in let few = l.admitted.rows in (omega arith, omega arith)

  -- the number of a row's person is that of the row
  pub person_called : (u : ℕ) (row : Row) → get_elem? v.rows u ≡ some row → number a (person a u) ≡ row.person
  person_called u row e =
      let h = row_below u row e in
      sym (at_numbers a (person a u)) ∙ numbered a u h.0 ∙ (account_of v u row h.1 e).0

  -- every person has a row of the book, and is called by its person number
  pub person_there : (i : ℕ) → i < persons a → PersonOf v i
  person_there i h =
      let (u, below, his, first) = every_person a i h in
      let (row, e) = there v.rows u (omega arith) in
      record { row = u; account = row; listed = e; his = his; called = ap (number a) (sym his) ∙ person_called u row e }

  -- ---- what is printed of them

  printed_number : (i : ℕ) → get_or (numbers_in book) i 0 ≡ number a i
  printed_number i = ap (λ (l : List ℕ). get_or l i 0) (numbers_laid v book l) ∙ at_numbers a i

  -- the name of a row's person is its person number
  pub name_of_row : (u : ℕ) (row : Row) → get_elem? v.rows u ≡ some row → get_or (numbers_in book) (person a u) 0 ≡ row.person
  name_of_row u row e = printed_number (person a u) ∙ person_called u row e

  -- "staff numbers for old": there a row is a person of its own
  pub old_name : v.form ≡ Old → (u : ℕ) (row : Row) → get_elem? v.rows u ≡ some row → get_or (numbers_in book) u 0 ≡ row.staff
  old_name old u row e =
      let own = own-person a (old_different v l.admitted old) u (row_below u row e).0 in
      ap (λ (i : ℕ). get_or (numbers_in book) i 0) (sym own) ∙ name_of_row u row e ∙ old-person v l.admitted old u row e

  -- nobody who is not there is named
  pub set-persons : (A : ℕ) → A < 2 ^ persons a → Every (PersonOf v) (members 0 row_limit A)
  set-persons A h i m = person_there i (bit_below A (persons a) i h (has_of_mem row_limit A i m).1)

  -- the names of a set are those of its persons, in person order
  pub set-names : (A : ℕ) → set_text (numbers_in book) A ≡ names_of v A
  unfolding names
  set-names A =
      ap (joined comma) (map_ext (λ i. decimal (get_or (numbers_in book) i 0)) (λ i. decimal (number a i)) (members 0 row_limit A) (λ i m. ap decimal (printed_number i)))

  -- ---- no two persons have one name

  pub names_different : Different (persons a) (numbers_in book)
  names_different i j hi hj e =
      let x = person_there i hi in
      let y = person_there j hj in
      let row : (k : ℕ) (z : PersonOf v k) → get_or a.persons z.row 0 ≡ number a k =
      λ k z. (account_of v z.row z.account (row_below z.row z.account z.listed).1 z.listed).0 ∙ sym z.called in
      let same : get_or a.persons x.row 0 ≡ get_or a.persons y.row 0 =
      row i x ∙ sym (printed_number i) ∙ e ∙ printed_number j ∙ sym (row j y) in
      sym x.his ∙ (same_person a x.row y.row).1 same ∙ y.his
