-- Request 07, for planners: "a book in which no two rows share a person (another is not taken, and says so)"; "the roster of such a book has the
-- holdings of its rows, and its rows given back, with the book's codes and policies, write the same book in the old form"; one that names editions
-- keeps its form, which says them. Assumes nothing.
use Rattle.std.specs.Prelude.{◌≡◌, refl, false, ◌↔◌, ◌≢◌, List, [], ◌∷◌, ◌++◌, map, ℕ, zero, suc, ◌^◌, ◌≤◌, ◌<◌, get_or, drop, Result, Ok, Err, IsOk, is_ok}
use Rattle.std.proofs.Common.{sym, ap, ap₂, ◌∙◌, subst, arith}
use Rattle.std.proofs.Math.Path.{fun_ext}
use Rattle.std.proofs.Math.Decide.{dec_lt}
use Rattle.std.proofs.Math.ListN.{length, get_elem?}
use Rattle.sets.specs.Sets.{bit_high, lt_of_bits, lt_pow}
use Rattle.sets.specs.Arrays.{tabulate, at}
use Rattle.roster.specs.Limits.{row_limit}
use Rattle.roster.specs.declared.Reply.{Reply}
use Rattle.roster.specs.declared.Table.{Table}
use Rattle.crews.specs.Named.{NamedReply}
use Rattle.absences.specs.declared.Way.{Way}
use Rattle.absences.specs.Asked.{PolicyReply}
use Rattle.accounts.specs.Persons.{persons}
use Rattle.accounts.specs.Meaning.{row_by_row, Different}
use Rattle.accounts.specs.declared.Accounts.{Accounts}
use Rattle.questions.specs.Asked.{PolicyAsked, NamedAsked}
use Rattle.questions.specs.Laws.Replies.{policy_as_before, named_as_before}
use Rattle.book.specs.Layout.{Contents, form_has_persons, bytes_of, Own, Each, Ascends, Admitted}
use Rattle.book.specs.Reading.{read_of}
use Rattle.book.specs.Parts.{row_or0, contents_of, accounts_in}
use Rattle.book.specs.Promises.{Bytes, answered, accounts_for}
use Rattle.book.proofs.Laws.Books.{good_layout}
use Rattle.book.proofs.Laws.Old.{old_different}
use Rattle.book.proofs.Laws.Parts.{layout_parts}
use Rattle.book.proofs.Laws.Values.{each}
use Rattle.book.specs.declared.Form.{Form}
use Rattle.book.specs.declared.Form.TheVariants.{Old, Persons, Editions}
use Rattle.book.specs.declared.Row.{Row}
use Rattle.book.specs.declared.Starts.{Starts}
use Rattle.values.specs.Values.{nobody, contents_for, values_of}
use Rattle.values.specs.Writing.{Writes}
use Rattle.values.specs.Laws.Admitted.{admitted_none}
use Rattle.values.specs.declared.Values.{Values}
use Rattle.live.specs.Changes.{empty, Call, told_of, after_from, table_of}
use Rattle.live.specs.Plain.{answer_of, plain_from}
use Rattle.live.specs.Agrees.{Agrees}
use Rattle.live.proofs.Laws.Always.{always_from}
use Rattle.live.specs.Laws.Twice.{Once, once_from}
use Rattle.live.specs.declared.Roster.{Roster}
use Rattle.desk.specs.Filled.{seated_by, seated, plain_rows, filled_from, roster_from}
use Rattle.desk.specs.Back.{own_row, form_back, rows_back, given_back, in_back_form}
use Rattle.desk.specs.Laws.Taken.{filled_shared, filled_taken, values_good, shares_none}
use Rattle.desk.specs.Laws.Seated.{column_fit, seated_agrees, seated_once, seated_table}
use Rattle.desk.proofs.Laws.Back.{back_of, back_ascends, back_admitted, back_contents, rows_back_lem}
use Rattle.std.specs.Result.{result_unwrap_or}
use Rattle.values.specs.declared.NotWritten.{NotWritten}
use Rattle.desk.specs.declared.NotTaken.TheVariants.{Shared}
use Rattle.desk.specs.declared.NotTaken.{NotTaken}

-- at most 32 permissions are listed
narrower : (k x : ℕ) → k ≤ 32 → x < 2 ^ k → x < 2 ^ 32
narrower k x h l = lt_of_bits 32 x (λ i b. bit_high x k i l (omega arith))

row-or : (l : List Row) (i : ℕ) → row_or0 (answered (get_elem? l i)) ≡ get_or l i nobody
row-or [] i = refl
row-or (x ∷ l) zero = refl
row-or (x ∷ l) (suc i) = row-or l i

-- rows of an old book are given back as they were
own-rows : (l : List Row) → Each (Own false) l → map (λ row. own_row row.staff row.holdings) l ≡ l
unfolding Each
own-rows [] o = refl
own-rows (x ∷ l) o = ap₂ (λ (y : Row) (m : List Row). y ∷ m) (one x o.0) (own-rows l o.1)
  where
    one : (row : Row) → Own false row → own_row row.staff row.holdings ≡ row
    one row o = rw o

-- ---- a good book

module _ (book : List ℕ) (s : Starts) (bytes : Bytes book) (good : read_of book ≡ Ok s) where
  abbrev rows : List Row
  rows = (contents_of book).rows

  ok : Admitted (contents_of book)
  ok = (good_layout book s bytes good).admitted

  accounts_are : accounts_in book ≡ accounts_for (contents_of book)
  accounts_are = (layout_parts (contents_of book) book (good_layout book s bytes good)).accounts

  few : (accounts_in book).rows ≤ 64
  few = omega (arith, ap Accounts.rows accounts_are, ok.rows)

  -- the roster of its rows is what a plain list of them says, and nobody stands in it twice
  pub book_agrees : Agrees (seated rows) (plain_rows rows)
  book_agrees =
      seated_agrees rows ok.rows
      (each (λ row h. narrower (length (contents_of book).codes) row.holdings ok.permissions h) rows ok.holdings)

  pub book_once : Once (plain_rows rows)
  book_once = seated_once rows ok.rows ok.staff_ascends

  -- its table is that of the book's rows, each its own person
  pub book_table : table_of (seated rows) ≡ row_by_row (accounts_in book)
  book_table =
      seated_table rows ok.rows
      ∙ ap {B = Table} (λ (f : ℕ → Row). record { holdings = tabulate row_limit (λ i. (f i).holdings); rows = length rows })
      (fun_ext (λ i. sym (row-or rows i)))
      ∙ sym (ap row_by_row accounts_are)

  numbers : (i : ℕ) → at (seated rows).staff i < 2 ^ 32
  unfolding seated_by
  numbers i = column_fit rows ok.rows Row.staff (2 ^ 32) (omega arith) ok.staff i

  listed : (i : ℕ) → at (seated rows).holdings i < 2 ^ length (contents_of book).codes
  unfolding seated_by
  listed i =
      let m = 2 ^ length (contents_of book).codes in
      column_fit rows ok.rows Row.holdings m (omega (arith, lt_pow (length (contents_of book).codes))) ok.holdings i

  back_is : back_of (seated rows) (contents_of book) ≡ in_back_form (contents_of book)
  back_is =
      ap {B = Contents} (λ (l : List Row). record { form = form_back (contents_of book).form; codes = (contents_of book).codes; rows = l; policies = (contents_of book).policies })
      (rows_back_lem rows ok.rows ok.staff_ascends)

  given_admitted : Admitted (in_back_form (contents_of book))
  given_admitted = subst Admitted back_is (back_admitted (seated rows) (plain_rows rows) book_agrees book_once (contents_of book) ok numbers listed)

  book_back : contents_for (given_back (seated rows) (values_of book)) ≡ in_back_form (contents_of book)
  book_back =
      ap (λ (v : Values). contents_for (given_back (seated rows) v)) (values_good book s good)
      ∙ back_contents (seated rows) (plain_rows rows) book_agrees book_once (contents_of book) ok numbers listed
      ∙ back_is

  -- ---- taken or not

  -- it is taken exactly if no two of its rows share a person
  pub taken_iff : IsOk (filled_from book) ↔ Different (accounts_in book)
  taken_iff = (
    λ e. (shares_none (accounts_in book) few).0 (all e (dec_lt (persons (accounts_in book)) (accounts_in book).rows)),
    λ d. ap is_ok (filled_taken book s good ((shares_none (accounts_in book) few).1 d)),
  )
    where
      all : IsOk (filled_from book) → Dec (persons (accounts_in book) < (accounts_in book).rows)
          → (accounts_in book).rows ≤ persons (accounts_in book)
      all e (yes l) = let q = ap is_ok (filled_shared book s good l) in let z : ◌≡◌ {A = ℕ} 0 1 = cc in absurd (omega arith)
      all e (no n) = omega arith

  -- and otherwise it says so
  pub shared_iff : (filled_from book ≡ Err Shared) ↔ (Different (accounts_in book) → ⊥)
  shared_iff = (there, λ n. back n (dec_lt (persons (accounts_in book)) (accounts_in book).rows))
    where
      there : filled_from book ≡ Err Shared → Different (accounts_in book) → ⊥
      there e d = let q = taken_iff.1 d in let f = ap is_ok e in let z : ◌≡◌ {A = ℕ} 0 1 = cc in omega arith

      back : (Different (accounts_in book) → ⊥) → Dec (persons (accounts_in book) < (accounts_in book).rows) → filled_from book ≡ Err Shared
      back n (yes l) = filled_shared book s good l
      back n (no m) = absurd (n ((shares_none (accounts_in book) few).0 (omega arith)))

  -- ---- no two rows share a person

  module _ (different : Different (accounts_in book)) where
    pub book_taken : filled_from book ≡ Ok (seated rows)
    book_taken = filled_taken book s good ((shares_none (accounts_in book) few).1 different)

    roster_is : roster_from book ≡ seated rows
    roster_is = ap (λ (f : Result Roster NotTaken). result_unwrap_or f empty) book_taken

    -- and then any calls: the roster is what the plain list of the book's rows says after them, with the same answers, nobody stands twice, and the
    -- rows that it gives back ascend
    module _ (calls : List Call) where
      abbrev later : Roster
      later = after_from (roster_from book) calls

      pub book_always : Agrees later (plain_from (plain_rows rows) calls)
          × ((c : Call) → (told_of later c).outcome ≡ (answer_of (plain_from (plain_rows rows) calls) c).outcome)
      book_always = rw roster_is (always_from (seated rows) (plain_rows rows) book_agrees calls)

      pub book_nobody-twice : Once (plain_from (plain_rows rows) calls)
      book_nobody-twice = once_from (plain_rows rows) book_once calls

      pub book_ascends : Ascends (λ row. row.staff) (rows_back later.staff later.holdings later.occupied)
      book_ascends = back_ascends later (plain_from (plain_rows rows) calls) book_always.0 book_nobody-twice

    -- asked of the roster, a question has the reply that it has of the book
    pub policy_as_book : (way : Way) (P away d t ed allowance : ℕ) → P < 2 ^ 32 → (r q : Reply)
        → PolicyAsked way (accounts_in book) P away d t ed allowance r
        → PolicyReply way (table_of (roster_from book)) P away d t ed allowance q → r ≡ q
    policy_as_book way P away d t ed allowance wide r q k m =
        policy_as_before (accounts_in book) different way P away d t ed allowance wide r q k
        (subst (λ (x : Table). PolicyReply way x P away d t ed allowance q) (ap table_of roster_is ∙ book_table) m)

    pub named_as_book : (P d t ed A allowance : ℕ) → P < 2 ^ 32 → (r q : Reply) → NamedAsked (accounts_in book) P d t ed A allowance r
        → NamedReply (table_of (roster_from book)) P d t ed A allowance q → r ≡ q
    named_as_book P d t ed A allowance wide r q k m =
        named_as_before (accounts_in book) different P d t ed A allowance wide r q k
        (subst (λ (x : Table). NamedReply x P d t ed A allowance q) (ap table_of roster_is ∙ book_table) m)

    -- "its rows given back, with the book's codes and policies, write the same book in the old form" (`older_back`), and one that names editions in its
    -- own
    pub given_back_lem : contents_for (given_back (roster_from book) (values_of book)) ≡ in_back_form (contents_of book)
    given_back_lem = ap (λ (f : Roster). contents_for (given_back f (values_of book))) roster_is ∙ book_back

    pub writes_back_form : (old new : List ℕ) (r : Result ℕ NotWritten) → Writes (contents_for (given_back (roster_from book) (values_of book))) old new r
        → let same = bytes_of (in_back_form (contents_of book)) in
        length same ≤ length old → (r ≡ Ok (length same)) × (new ≡ same ++ drop (length same) old)
    writes_back_form old new r w room =
        (subst (λ (v : Contents). Writes v old new r) given_back_lem w).written (admitted_none (in_back_form (contents_of book)) given_admitted) room

  pub older_back : (contents_of book).form ≢ Editions → (in_back_form (contents_of book)).form ≡ Old
  older_back older = go (contents_of book).form older
    where
      go : (f : Form) → f ≢ Editions → form_back f ≡ Old
      go Old n = refl
      go Persons n = refl
      go Editions n = absurd (n refl)

  -- ---- an old book is taken, and written again as it was

  module _ (old-form : (contents_of book).form ≡ Old) where
    pub old_book_different : Different (accounts_in book)
    old_book_different = subst Different (sym accounts_are) (old_different (contents_of book) ok old-form)

    same_contents : in_back_form (contents_of book) ≡ contents_of book
    same_contents =
        ap₂ {C = Contents}
        (λ (f : Form) (l : List Row). record { form = f; codes = (contents_of book).codes; rows = l; policies = (contents_of book).policies })
        (ap form_back old-form ∙ sym old-form) (own-rows rows (subst (λ (f : Form). Each (Own (form_has_persons f)) rows) old-form ok.own))

    pub writes_same_book : (old new : List ℕ) (r : Result ℕ NotWritten) → Writes (contents_for (given_back (roster_from book) (values_of book))) old new r
        → length book ≤ length old → (r ≡ Ok (length book)) × (new ≡ book ++ drop (length book) old)
    writes_same_book old new r w room =
        let same : bytes_of (in_back_form (contents_of book)) ≡ book = ap bytes_of same_contents ∙ sym (good_layout book s bytes good).bytes in
        let out = writes_back_form old_book_different old new r w (omega (arith, ap length same)) in
        (out.0 ∙ ap {B = Result ℕ NotWritten} (λ (b : List ℕ). Ok (length b)) same, out.1 ∙ ap (λ (b : List ℕ). b ++ drop (length b) old) same)
