-- The view: lent bytes have one view, what it answers of a row is the row of the bytes, and that agrees with their accounts. Assumes nothing.
use Rattle.std.specs.Prelude.{◌≡◌, refl, ◌⊎◌, List, [], ◌∷◌, ℕ, zero, suc, ◌≤◌, ◌<◌, length, get_or, Option, Some, None}
use Rattle.std.proofs.Common.{sym, ap, ◌∙◌, inl, inr, arith}
use Rattle.std.proofs.Math.Option.{Option as Maybe, some, none}
use Rattle.std.proofs.Math.ListN.{get_elem?}
use Rattle.std.specs.Borrow.{Bor}
use Rattle.sets.specs.Laws.Arrays.{at-tabulate}
use Rattle.roster.specs.Limits.{row_limit}
use Rattle.accounts.specs.declared.Accounts.{Accounts}
use Rattle.book.specs.Layout.{Contents}
use Rattle.book.specs.Reading.{form_of, starts_of}
use Rattle.book.specs.Parts.{contents_of, row_at, row_by_number, row_of, row_or0, accounts_in}
use Rattle.book.specs.Promises.{Bytes, answered, accounts_for, PartsOf, nothing, ViewOf}
use Rattle.book.proofs.Laws.Books.{Good, Refused, reply, good_layout}
use Rattle.book.proofs.Laws.Parts.{layout_parts, refused_parts}
use Rattle.book.specs.declared.Row.{Row}
use Rattle.book.specs.declared.Starts.{Starts}
use Rattle.book.specs.declared.Book.{Book}

-- ---- one view, one answer

a_view : {b b' : Bor (List ℕ)} {s s' : Starts} → b ≡ b' → s ≡ s' → ◌≡◌ {A = Book} (record { bytes = b; starts = s }) (record { bytes = b'; starts = s' })
a_view e h = rw (e, h)

-- any two views of the same lent bytes are equal
pub view_same : (bytes : Bor (List ℕ)) (v w : Book) → ViewOf bytes v → ViewOf bytes w → v ≡ w
view_same bytes v w a b = a_view (a.lent ∙ sym b.lent) (a.starts ∙ sym b.starts)

-- a view answers the row of its bytes
pub view_row : (bytes : Bor (List ℕ)) (v : Book) → ViewOf bytes v → (row : ℕ) → row_of v row ≡ row_by_number bytes.now row
view_row bytes v a row =
    ap (λ (x : Bor (List ℕ)). row_at x.now v.starts row) a.lent
    ∙ ap (λ (s : Starts). row_at bytes.now s row) a.starts

-- so views of the same bytes answer the same, wherever the bytes are lent from
pub rows_same : (a b : Bor (List ℕ)) (v w : Book) → a.now ≡ b.now → ViewOf a v → ViewOf b w → (row : ℕ) → row_of v row ≡ row_of w row
rows_same a b v w e av bw row =
    view_row a v av row ∙ ap (λ (book : List ℕ). row_by_number book row) e ∙ sym (view_row b w bw row)

-- ---- the view agrees with the accounts

-- the parts of any byte string are those of some values with few enough rows
pub record SomeParts (book : List ℕ) : Type 0 where
  pub values : Contents
  pub few : length values.rows ≤ row_limit
  pub parts : PartsOf values book

pub some_parts : (book : List ℕ) → Bytes book → SomeParts book
some_parts book bytes = go (reply book)
  where
    go : Good book ⊎ Refused book → SomeParts book
    go (inl g) =
        let l = good_layout book (starts_of (form_of book) book) bytes g.reply in
        record { values = contents_of book; few = l.admitted.rows; parts = layout_parts (contents_of book) book l }
    go (inr r) = record { values = nothing (form_of book); few = omega arith; parts = refused_parts book r.fault r.place r.reply }

-- a place within a list has something there
pub there : {A : Type 0} (l : List A) (i : ℕ) → i < length l → (x : A) × (get_elem? l i ≡ some x)
there [] i h = absurd (omega arith)
there (x ∷ l) zero h = (x, refl)
there (x ∷ l) (suc i) h = there l i (omega arith)

pub not_there : {A : Type 0} (l : List A) (i : ℕ) → length l ≤ i → get_elem? l i ≡ none
not_there [] i h = refl
not_there (x ∷ l) zero h = absurd (omega arith)
not_there (x ∷ l) (suc i) h = not_there l i (omega arith)

-- what is answered of a row, beside accounts: a row of them with its person number and what it holds there, and "no such row" past the last
pub record RowSeen (a : Accounts) (row : ℕ) (r : Option Row) : Type 0 where
  pub held : row < a.rows
      → (staff : ℕ) × (r ≡ Some (record { staff = staff; person = get_or a.persons row 0; holdings = get_or a.holdings row 0 }))
  pub past : a.rows ≤ row → r ≡ None

-- what the accounts of these values have of a row
pub account_of : (v : Contents) (row : ℕ) (x : Row) → row < row_limit → get_elem? v.rows row ≡ some x
    → (get_or (accounts_for v).persons row 0 ≡ x.person) × (get_or (accounts_for v).holdings row 0 ≡ x.holdings)
account_of v row x h e =
    let at : Maybe Row → Row = λ o. row_or0 (answered o) in (
      at-tabulate row_limit (λ i. (at (get_elem? v.rows i)).person) row h ∙ ap (λ (o : Maybe Row). (at o).person) e,
      at-tabulate row_limit (λ i. (at (get_elem? v.rows i)).holdings) row h ∙ ap (λ (o : Maybe Row). (at o).holdings) e,
    )

seen-with : {s p p' h h' : ℕ} → p ≡ p' → h ≡ h'
    → ◌≡◌ {A = Option Row} (Some (record { staff = s; person = p; holdings = h })) (Some (record { staff = s; person = p'; holdings = h' }))
seen-with e f = rw (e, f)

values_agree : (v : Contents) → length v.rows ≤ row_limit → (row : ℕ) → RowSeen (accounts_for v) row (answered (get_elem? v.rows row))
values_agree v few row = record {
  held = λ l.
      let here = there v.rows row l in
      let has = account_of v row here.0 (omega (arith, few)) here.1 in
      (here.0.staff, ap answered here.1 ∙ seen-with (sym has.0) (sym has.1));
  past = λ l. ap answered (not_there v.rows row l);
}

row_agrees : (book : List ℕ) → Bytes book → (row : ℕ) → RowSeen (accounts_in book) row (row_by_number book row)
row_agrees book bytes row =
    let parts = some_parts book bytes in
    let p = parts.parts in
    rw (p.accounts, p.row row) (values_agree parts.values parts.few row)

pub view_agrees : (bytes : Bor (List ℕ)) (v : Book) → ViewOf bytes v → Bytes bytes.now → (row : ℕ) → RowSeen (accounts_in bytes.now) row (row_of v row)
view_agrees bytes v a b row = rw (view_row bytes v a row) (row_agrees bytes.now b row)
