-- Older books move in nothing: a book that starts with neither 200 nor 201 is read, laid out and viewed as 01 has it, and one that does not start
-- with 201 is read as request 04 has it; what starts so was refused before. Every row of an old book is a person of its own, and every policy of an
-- older book is of the first edition. Assumes nothing.
use Rattle.std.specs.Prelude.{◌≡◌, refl, ◌≢◌, Bool, true, false, List, [], ◌∷◌, ◌++◌, map, ℕ, zero, suc, ◌+◌, ◌<◌, eqb, ltb, length, get_or, Option, Some, None, Result, Ok}
use Rattle.std.proofs.Common.{sym, ap, ap₂, ◌∙◌, arith, eqb-true, eq-eqb, ne_eqb, le-ltb}
use Rattle.std.proofs.Math.Option.{some}
use Rattle.std.proofs.Math.Decide.{dec_lt}
use Rattle.std.proofs.Math.ListN.{get_elem?}
use Rattle.std.proofs.lemmas.Bool.{eqb-false}
use Rattle.roster.specs.Limits.{away_limit, crew_limit, size_limit}
use Rattle.roster.specs.Refusals.{refused_if, outside, policy_ruling, made_by, made}
use Rattle.roster.specs.declared.Policy.{Policy}
use Rattle.roster.specs.declared.Refusal.TheVariants as refusal
use Rattle.accounts.specs.Meaning.{Different}
use Rattle.book.specs.Layout.{Contents, code_widths, row_widths, policy_widths, code_fields, row_fields, policy_fields, field_bytes, joined, section, bytes_of, Below, Ascends, Own, OwnEdition, form_has_persons, form_has_editions, permission_limit, Admitted}
use Rattle.book.specs.Reading.{fields_at, cut_place, amiss_if, fault_if, placed, past_listed, by_made, codes, rows, policies, entry_at, count_look, entry_look, in_turn, count_at, section_looks, past, form_by, form_of, end_look, first_fault, read_by, read_of, Look, refused}
use Rattle.book.specs.Parts.{row_place, row_from, row_at}
use Rattle.book.specs.OldBooks.{OldRow, OldPolicy, old_rows, old_widths, old_fields, old_policies, old_policy_widths, old_policy_fields, old_bytes, old_starts, read_with, old_read, read_before_editions, old_row_from, old_row_at}
use Rattle.book.specs.Promises.{accounts_for}
use Rattle.book.proofs.Laws.Parts.{each_nth}
use Rattle.book.proofs.Laws.View.{there, account_of}
use Rattle.book.specs.declared.Fault.TheVariants as fault
use Rattle.book.specs.declared.Form.{Form}
use Rattle.book.specs.declared.Form.TheVariants.{Old, Persons, Editions}
use Rattle.book.specs.declared.Row.{Row}
use Rattle.book.specs.declared.Starts.{Starts}
use Rattle.book.specs.declared.Amiss.{Amiss}

-- ---- the reader

-- what is told of a row is the same
row_look_same : (book : List ℕ) (listed : ℕ) (before : Option ℕ) (at : ℕ) → entry_look (rows false) book listed before at ≡ entry_look old_rows book listed before at
unfolding entry_look fields_at
row_look_same book listed None at = refl
row_look_same book listed (Some last) at = refl

rows_in_turn : (book : List ℕ) (listed : ℕ) (before : Option ℕ) (at n : ℕ)
    → in_turn (entry_look (rows false) book listed) 8 before at n ≡ in_turn (entry_look old_rows book listed) 8 before at n
unfolding in_turn
rows_in_turn book listed before at zero = refl
rows_in_turn book listed before at (suc n) = rw (row_look_same book listed before at, rows_in_turn book listed (Some at) (at + 8) n)

rows-looks : (book : List ℕ) (listed at : ℕ) → section_looks (rows false) book listed at ≡ section_looks old_rows book listed at
unfolding section_looks count_look
rows-looks book listed at = ap (λ (l : List Look). count_look old_rows book at ∷ l) (rows_in_turn book listed None (at + 1) (count_at book at))

-- a policy of an older book, which has no edition, is of the first
abbrev pub of_first : OldPolicy → Policy
of_first p = record { task = p.task; away = p.away; crews = p.crews; size = p.size; edition = 1 }

-- what is amiss with it is what was: of the first edition there is nothing to say
policy_amiss : (p : OldPolicy) (a b c d e : Bool)
    → amiss_if a fault.Task 0 (by_made (made_by (refused_if b refusal.Task (refused_if c refusal.Away (refused_if d refusal.Crews (refused_if e refusal.Size (Ok tt))))) (of_first p)))
    ≡ amiss_if a fault.Task 0 (amiss_if b (fault.Policy refusal.Task) 0 (amiss_if c (fault.Policy refusal.Away) 1
    (amiss_if d (fault.Policy refusal.Crews) 2 (amiss_if e (fault.Policy refusal.Size) 3 (Ok tt)))))
policy_amiss p true b c d e = refl
policy_amiss p false true c d e = refl
policy_amiss p false false true d e = refl
policy_amiss p false false false true e = refl
policy_amiss p false false false false true = refl
policy_amiss p false false false false false = refl

policy_faults : (listed : ℕ) (p : OldPolicy)
    → amiss_if (past_listed listed p.task) fault.Task 0 (by_made (made (of_first p))) ≡ old_policies.faults listed None p
unfolding policy_ruling
policy_faults listed p =
    policy_amiss p (past_listed listed p.task) (eqb p.task 0) (ltb away_limit p.away) (outside crew_limit p.crews) (outside size_limit p.size)

-- what is told of a policy is the same
policy_look_same : (book : List ℕ) (listed : ℕ) (before : Option ℕ) (at : ℕ) → entry_look (policies false) book listed before at ≡ entry_look old_policies book listed before at
unfolding entry_look fields_at
policy_look_same book listed before at =
    ap (λ (x : Result Unit Amiss). fault_if (ltb (length book) (at + 7)) fault.Short (cut_place old_policy_widths (length book) at) (placed old_policy_widths at x))
    (policy_faults listed (entry_at old_policies book at))

policies_in_turn : (book : List ℕ) (listed : ℕ) (before : Option ℕ) (at n : ℕ)
    → in_turn (entry_look (policies false) book listed) 7 before at n ≡ in_turn (entry_look old_policies book listed) 7 before at n
unfolding in_turn
policies_in_turn book listed before at zero = refl
policies_in_turn book listed before at (suc n) = rw (policy_look_same book listed before at, policies_in_turn book listed (Some at) (at + 7) n)

policies-looks : (book : List ℕ) (listed at : ℕ) → section_looks (policies false) book listed at ≡ section_looks old_policies book listed at
unfolding section_looks count_look
policies-looks book listed at = ap (λ (l : List Look). count_look old_policies book at ∷ l) (policies_in_turn book listed None (at + 1) (count_at book at))

-- a book that starts with neither byte is old, and one that starts with 200 has persons
pub other_old : (book : List ℕ) → get_or book 0 0 ≢ 200 → get_or book 0 0 ≢ 201 → form_of book ≡ Old
unfolding form_of
other_old book n m = ap₂ form_by (ne_eqb (get_or book 0 0) 200 n) (ne_eqb (get_or book 0 0) 201 m)

pub with-persons : (book : List ℕ) → get_or book 0 0 ≡ 200 → form_of book ≡ Persons
unfolding form_of
with-persons book e = ap (λ (b : Bool). form_by b (eqb (get_or book 0 0) 201)) (eq-eqb (get_or book 0 0) 200 e)

-- "an old one": the reply is that of before, good or refused, to the place
pub old_as_before : (book : List ℕ) → get_or book 0 0 ≢ 200 → get_or book 0 0 ≢ 201 → read_of book ≡ old_read book
unfolding read_of past
old_as_before book n m =
    let s = old_starts old_rows 0 book in
    ap (λ (f : Form). read_by f book) (other_old book n m)
    ∙ ap₂ (λ (l r : List Look). first_fault s (section_looks codes book 0 0 ++ (l ++ (r ++ (end_look book (past old_policies book s.policies) ∷ [])))))
    (rows-looks book (count_at book 0) s.rows) (policies-looks book (count_at book 0) s.policies)

-- and so is that to one with persons
persons_as_before : (book : List ℕ) → get_or book 0 0 ≡ 200 → read_of book ≡ read_with (rows true) 1 book
unfolding read_of past
persons_as_before book e =
    let s = old_starts (rows true) 1 book in
    ap (λ (f : Form). read_by f book) (with-persons book e)
    ∙ ap (λ (l : List Look). first_fault s
    (section_looks codes book 0 1 ++ (section_looks (rows true) book (count_at book 1) s.rows ++ (l ++ (end_look book (past old_policies book s.policies) ∷ [])))))
    (policies-looks book (count_at book 1) s.policies)

-- "hospitals on the first edition stay there": an older book's reply is that of before there were editions, to the place
pub older_as_before : (book : List ℕ) → get_or book 0 0 ≢ 201 → read_of book ≡ read_before_editions book
older_as_before book m = go (eqb (get_or book 0 0) 200) refl
  where
    go : (b : Bool) → eqb (get_or book 0 0) 200 ≡ b → read_of book ≡ elim b [ true ↦ read_with (rows true) 1 book | false ↦ old_read book ]
    go true e = persons_as_before book (eqb-true (get_or book 0 0) 200 e)
    go false e = old_as_before book (eqb-false (get_or book 0 0) 200 e) m

-- "which can't start so": what starts with such a byte was no good book before
many_refused : (book : List ℕ) (first : ℕ) → get_or book 0 0 ≡ first → eqb first 0 ≡ false → ltb permission_limit first ≡ true
    → old_read book ≡ refused fault.Permissions 0
unfolding first_fault section_looks count_look
many_refused [] first e nonzero many = absurd (eqb-false first 0 nonzero (sym e))
many_refused (x ∷ l) first e nonzero many = let whole = le-ltb (length (x ∷ l)) (0 + 1) (omega arith) in rw (whole, e, nonzero, many)

pub new_was_refused : (book : List ℕ) → get_or book 0 0 ≡ 200 → old_read book ≡ refused fault.Permissions 0
new_was_refused book e = many_refused book 200 e refl refl

pub editions_were_refused : (book : List ℕ) → get_or book 0 0 ≡ 201 → read_before_editions book ≡ refused fault.Permissions 0
editions_were_refused book e =
    ap (λ (b : Bool). elim b [ true ↦ read_with (rows true) 1 book | false ↦ old_read book ]) (ne_eqb (get_or book 0 0) 200 (λ h. omega (arith, e, h)))
    ∙ many_refused book 201 e refl refl

-- ---- the layout

-- a row without its person number
abbrev pub bare : Row → OldRow
bare row = record { staff = row.staff; holdings = row.holdings }

joined-bare : (l : List Row)
    → joined (λ row. field_bytes (row_widths false) (row_fields false row)) l ≡ joined (λ row. field_bytes old_widths (old_fields row)) (map bare l)
unfolding joined
joined-bare [] = refl
joined-bare (x ∷ l) = ap (λ (rest : List ℕ). field_bytes old_widths (old_fields (bare x)) ++ rest) (joined-bare l)

length-bare : (l : List Row) → length l ≡ length (map bare l)
length-bare [] = refl
length-bare (x ∷ l) = ap suc (length-bare l)

-- a policy without its edition
abbrev pub unnamed : Policy → OldPolicy
unnamed p = record { task = p.task; away = p.away; crews = p.crews; size = p.size }

joined-unnamed : (l : List Policy)
    → joined (λ p. field_bytes (policy_widths false) (policy_fields false p)) l ≡ joined (λ p. field_bytes old_policy_widths (old_policy_fields p)) (map unnamed l)
unfolding joined
joined-unnamed [] = refl
joined-unnamed (x ∷ l) = ap (λ (rest : List ℕ). field_bytes old_policy_widths (old_policy_fields (unnamed x)) ++ rest) (joined-unnamed l)

length-unnamed : (l : List Policy) → length l ≡ length (map unnamed l)
length-unnamed [] = refl
length-unnamed (x ∷ l) = ap suc (length-unnamed l)

-- the bytes of an old book are those of before, of its rows without their person numbers and its policies without their editions
pub old_layout : (v : Contents) → v.form ≡ Old → bytes_of v ≡ old_bytes v.codes (map bare v.rows) (map unnamed v.policies)
unfolding bytes_of
old_layout v old =
    let first = section code_widths code_fields v.codes in
    let last : section (policy_widths false) (policy_fields false) v.policies ≡ section old_policy_widths old_policy_fields (map unnamed v.policies) =
    ap₂ (λ (n : ℕ) (l : List ℕ). n ∷ l) (length-unnamed v.policies) (joined-unnamed v.policies) in
    let rows : section (row_widths false) (row_fields false) v.rows ≡ section old_widths old_fields (map bare v.rows) =
    ap₂ (λ (n : ℕ) (l : List ℕ). n ∷ l) (length-bare v.rows) (joined-bare v.rows) in
    rw old (ap₂ (λ (l r : List ℕ). first ++ (l ++ r)) rows last)

-- ---- rows

-- a row of before, a person by its staff number
abbrev pub own_person : Option OldRow → Option Row
own_person None = None
own_person (Some row) = Some (record { staff = row.staff; person = row.staff; holdings = row.holdings })

row_from_old : (book : List ℕ) (p : Option ℕ) → form_of book ≡ Old → row_from book p ≡ own_person (old_row_from book p)
unfolding fields_at
row_from_old book (Some at) old = rw old
row_from_old book None old = refl

-- the rows of an old book are those of before, each its own person
pub old-rows : (book : List ℕ) → get_or book 0 0 ≢ 200 → get_or book 0 0 ≢ 201 → (starts : Starts) (row : ℕ) → row_at book starts row ≡ own_person (old_row_at book starts row)
old-rows book n m starts row =
    let old = other_old book n m in
    row_from_old book (row_place book starts row) old ∙ rw old

-- ---- policies

-- a policy of an older book is that of before, of the first edition
pub older_policy : (book : List ℕ) (at : ℕ) → entry_at (policies false) book at ≡ of_first (entry_at old_policies book at)
unfolding fields_at
older_policy book at = refl

-- "older books are edition 1"
pub older_edition : (v : Contents) → Admitted v → v.form ≢ Editions → (i : ℕ) (p : Policy) → get_elem? v.policies i ≡ some p → p.edition ≡ 1
older_edition v a older i p e = go v.form refl older (each_nth (OwnEdition (form_has_editions v.form)) v.policies i p a.editions e)
  where
    go : (f : Form) → v.form ≡ f → f ≢ Editions → OwnEdition (form_has_editions f) p → p.edition ≡ 1
    go Old s n o = o
    go Persons s n o = o
    go Editions s n o = absurd (n refl)

-- ---- persons

-- in an ascending list each comes before all behind it
first-least : {A : Type 0} (key : A → ℕ) (x : A) (l : List A) (j : ℕ) (y : A) → Ascends key (x ∷ l) → get_elem? l j ≡ some y → key x < key y
unfolding Ascends Below
first-least key x [] j y a e = let z : ◌≡◌ {A = ℕ} 0 1 = cc in absurd (omega arith)
first-least key x (z ∷ l) zero y a e = let same : z ≡ y = cc in omega (arith, a.0, ap key same)
first-least key x (z ∷ l) (suc j) y a e = omega (arith, a.0, first-least key z l j y a.1 e)

pub ascending : {A : Type 0} (key : A → ℕ) (l : List A) (i j : ℕ) (x y : A) → Ascends key l → i < j → get_elem? l i ≡ some x → get_elem? l j ≡ some y
    → key x < key y
unfolding Ascends
ascending key [] i j x y a h e f = let z : ◌≡◌ {A = ℕ} 0 1 = cc in absurd (omega arith)
ascending key (z ∷ l) i zero x y a h e f = absurd (omega arith)
ascending key (z ∷ l) zero (suc j) x y a h e f = let same : z ≡ x = cc in omega (arith, first-least key z l j y a f, ap key same)
ascending key (z ∷ l) (suc i) (suc j) x y a h e f = ascending key l i j x y a.1 (omega arith) e f

-- an old row's person number is its staff number
pub old-person : (v : Contents) → Admitted v → v.form ≡ Old → (i : ℕ) (x : Row) → get_elem? v.rows i ≡ some x → x.person ≡ x.staff
old-person v a old i x e = rw old at (each_nth (Own (form_has_persons v.form)) v.rows i x a.own e)

-- "reads as every row its own person": no two rows have one person number
pub old-own : (v : Contents) → Admitted v → v.form ≡ Old → (i j : ℕ) (x y : Row) → get_elem? v.rows i ≡ some x → get_elem? v.rows j ≡ some y
    → x.person ≡ y.person → i ≡ j
old-own v a old i j x y e f same = go (dec_lt i j) (dec_lt j i)
  where
    staff : x.staff ≡ y.staff
    staff = omega (arith, old-person v a old i x e, old-person v a old j y f)

    go : Dec (i < j) → Dec (j < i) → i ≡ j
    go (yes h) d = absurd (omega (arith, staff, ascending (λ row. row.staff) v.rows i j x y a.staff_ascends h e f))
    go (no m) (yes h) = absurd (omega (arith, staff, ascending (λ row. row.staff) v.rows j i y x a.staff_ascends h f e))
    go (no m) (no k) = omega arith

-- and so of its accounts, which the merging then leaves as they are (`own_table` and `own-number` of the crate accounts)
pub old_different : (v : Contents) → Admitted v → v.form ≡ Old → Different (accounts_for v)
old_different v a old u w lu lw e =
    let x = there v.rows u (omega arith) in
    let y = there v.rows w (omega arith) in
    let ux = (account_of v u x.0 (omega arith) x.1).0 in
    let wy = (account_of v w y.0 (omega arith) y.1).0 in
    old-own v a old u w x.0 y.0 x.1 y.1 (sym ux ∙ e ∙ wy)
