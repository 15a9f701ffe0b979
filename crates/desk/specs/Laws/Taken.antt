-- Which books are taken, and what each case of filling comes to: a good book is taken exactly if no two of its rows share a person. Assumes nothing.
use Rattle.std.specs.Prelude.{◌≡◌, Bool, true, false, ◌⊎◌, ◌↔◌, List, ℕ, zero, suc, ◌+◌, ◌-◌, ◌≤◌, ◌<◌, get_or, Result, Ok, Err}
use Rattle.std.proofs.Common.{sym, ap, ◌∙◌, inl, inr, arith, lt-ltb, le-ltb}
use Rattle.std.proofs.Math.Decide.{dec_lt}
use Rattle.sets.specs.Arrays.{tabulate, at}
use Rattle.sets.specs.Laws.Sums.{either}
use Rattle.sets.specs.Laws.Arrays.{length-tabulate, get_d_tabulate, tabulated}
use Rattle.roster.specs.Limits.{row_limit}
use Rattle.accounts.specs.Persons.{first_of, leads, count_of, persons, rows_of}
use Rattle.accounts.specs.Meaning.{Different}
use Rattle.accounts.proofs.Laws.Numbering as numbering
use Rattle.accounts.proofs.Laws.Merged.{own-persons}
use Rattle.accounts.specs.declared.Accounts.{Accounts}
use Rattle.book.specs.Layout.{Contents}
use Rattle.book.specs.Reading.{read_of}
use Rattle.book.specs.Parts.{contents_of, accounts_in}
use Rattle.book.specs.declared.Row.{Row}
use Rattle.book.specs.declared.Starts.{Starts}
use Rattle.values.specs.Values.{nobody, values_for, contents_by, values_of}
use Rattle.desk.specs.Filled.{seated_by, seated, sharing, filled_if, filled_by, filled_from}
use Rattle.desk.specs.declared.NotTaken.TheVariants.{Shared, Refused}
use Rattle.book.specs.declared.FaultAt.{FaultAt}

-- ---- the three cases

pub filled_refused : (book : List ℕ) (fault : FaultAt) → read_of book ≡ Err fault → filled_from book ≡ Err (Refused fault)
unfolding filled_from
filled_refused book fault e = ap (filled_by book) e

by_sharing : (book : List ℕ) (s : Starts) (b : Bool) → read_of book ≡ Ok s → sharing (accounts_in book) ≡ b
    → filled_from book ≡ filled_if b (contents_of book).rows
unfolding filled_from
by_sharing book s b e h = ap (filled_by book) e ∙ ap (λ (x : Bool). filled_if x (contents_of book).rows) h

pub filled_shared : (book : List ℕ) (s : Starts) → read_of book ≡ Ok s → persons (accounts_in book) < (accounts_in book).rows
    → filled_from book ≡ Err Shared
filled_shared book s e h = by_sharing book s true e (lt-ltb (persons (accounts_in book)) (accounts_in book).rows h)

pub filled_taken : (book : List ℕ) (s : Starts) → read_of book ≡ Ok s → (accounts_in book).rows ≤ persons (accounts_in book)
    → filled_from book ≡ Ok (seated (contents_of book).rows)
filled_taken book s e h = by_sharing book s false e (le-ltb (persons (accounts_in book)) (accounts_in book).rows h)

-- ---- rows out of the arrays of a book's values

table_same : {A : Type 0} (d : A) (n : ℕ) (f g : ℕ → A) → ((i : ℕ) → i < n → f i ≡ g i) → tabulate n f ≡ tabulate n g
table_same d n f g e = tabulated d n g (tabulate n f) (length-tabulate n f) (λ i b. get_d_tabulate d n f i b ∙ e i b)

pub seated_values : (v : Contents) → seated_by (values_for v).rows (values_for v).row_count ≡ seated v.rows
unfolding seated_by values_for
seated_values v = rw (staff, held)
  where
    array : List Row
    array = tabulate row_limit (λ i. get_or v.rows i nobody)

    row : (i : ℕ) → i < 64 → get_or array i nobody ≡ get_or v.rows i nobody
    row i b = get_d_tabulate nobody 64 (λ i. get_or v.rows i nobody) i b

    staff : tabulate 64 (λ i. (get_or array i nobody).staff) ≡ tabulate 64 (λ i. (get_or v.rows i nobody).staff)
    staff = table_same 0 64 _ _ (λ i b. ap Row.staff (row i b))

    held : tabulate 64 (λ i. (get_or array i nobody).holdings) ≡ tabulate 64 (λ i. (get_or v.rows i nobody).holdings)
    held = table_same 0 64 _ _ (λ i b. ap Row.holdings (row i b))

pub values_good : (book : List ℕ) (s : Starts) → read_of book ≡ Ok s → values_of book ≡ values_for (contents_of book)
unfolding values_of
values_good book s e = ap (λ (r : Result Starts FaultAt). values_for (contents_by book r)) e

-- ---- fewer persons than rows: two rows share a person

-- each row adds one person at most
count_slow : (f : ℕ → ℕ) (m k : ℕ) → count_of f (m + k) ≤ count_of f m + k
count_slow f m zero = let z : m + 0 ≡ m = omega arith in omega (arith, ap (count_of f) z)
count_slow f m (suc k) = go (either (leads f (m + k))) (count_slow f m k)
  where
    z : m + suc k ≡ suc (m + k)
    z = omega arith

    go : (leads f (m + k) ≡ true) ⊎ (leads f (m + k) ≡ false) → count_of f (m + k) ≤ count_of f m + k → count_of f (m + suc k) ≤ count_of f m + suc k
    go (inl y) ih = omega (arith, ap (count_of f) z, numbering.count_more f (m + k) y)
    go (inr n) ih = omega (arith, ap (count_of f) z, numbering.count_same f (m + k) n)

-- a row with the number of an earlier one adds none
count_shared : (f : ℕ → ℕ) (n u v : ℕ) → u < v → v < n → f u ≡ f v → count_of f n < n
count_shared f n u v l h e =
    let later : first_of f v < v = omega (arith, numbering.first_of_least f v u e) in
    let q : suc v + (n - suc v) ≡ n = omega arith in
    omega (
      arith,
      ap (count_of f) q,
      count_slow f (suc v) (n - suc v),
      numbering.count_same f v (numbering.leads_not f v later),
      numbering.count_le f v,
    )

pub shares_none : (a : Accounts) → a.rows ≤ row_limit → (a.rows ≤ persons a) ↔ Different a
shares_none a few = (λ h u v b c e. go h u v b c e (dec_lt u v) (dec_lt v u), λ d. omega (arith, own-persons a d))
  where
    go : a.rows ≤ persons a → (u v : ℕ) → u < rows_of a → v < rows_of a → at a.persons u ≡ at a.persons v → Dec (u < v) → Dec (v < u) → u ≡ v
    go h u v b c e (yes l) x = absurd (omega (arith, count_shared (at a.persons) (rows_of a) u v l c e))
    go h u v b c e (no n) (yes l) = absurd (omega (arith, count_shared (at a.persons) (rows_of a) v u l b (sym e)))
    go h u v b c e (no n) (no m) = omega arith
