-- "reading any good book and writing it gives the same bytes", and what was written gives its values back. Assumes nothing.
use Rattle.std.specs.Prelude.{◌≡◌, refl, List, [], ◌∷◌, ◌++◌, ℕ, zero, suc, ◌≤◌, length, get_or, take, drop, Result, Ok}
use Rattle.std.proofs.Common.{sym, ap, ap₂, ◌∙◌, subst, arith}
use Rattle.sets.specs.Arrays.{tabulate}
use Rattle.roster.specs.Limits.{row_limit}
use Rattle.roster.specs.declared.Policy.{Policy}
use Rattle.book.specs.Layout.{Contents, form_has_persons, form_has_editions, permission_limit, policy_limit, bytes_of, Own, OwnEdition, Each, Admitted}
use Rattle.book.specs.Reading.{form_of, read_of, refused}
use Rattle.book.specs.Parts.{contents_of}
use Rattle.book.specs.Promises.{Bytes}
use Rattle.book.proofs.Laws.Books.{good_layout}
use Rattle.book.specs.declared.Fault.{Fault}
use Rattle.book.specs.declared.Form.{Form}
use Rattle.book.specs.declared.Form.TheVariants.{Old, Persons, Editions}
use Rattle.book.specs.declared.Row.{Row}
use Rattle.book.specs.declared.Starts.{Starts}
use Rattle.values.specs.Values.{nobody, unasked, row_for, policy_for, contents_for, values_for, no_values, contents_by, values_of}
use Rattle.values.specs.Writing.{Writes}
use Rattle.values.specs.Promises.{Typed}
use Rattle.values.specs.Laws.Admitted.{sound_iff_admitted, admitted_none}
use Rattle.values.specs.Laws.Meant.{contents_of_lem}
use Rattle.values.specs.Laws.Outcome.{is_written, reads_back}
use Rattle.values.specs.declared.NotWritten.{NotWritten}
use Rattle.book.specs.declared.FaultAt.{FaultAt}

-- ---- values put into arrays and taken out again

-- as many as a list has, taken out of an array with room for them that it was put into
out_again : {A : Type 0} (none : A) (n : ℕ) (l : List A) → length l ≤ n
    → tabulate (length l) (λ i. get_or (tabulate n (λ j. get_or l j none)) i none) ≡ l
unfolding tabulate
out_again none n [] h = refl
out_again none zero (x ∷ l) h = absurd (omega arith)
out_again {A} none (suc n) (x ∷ l) h = ap (λ (m : List A). x ∷ m) (out_again none n l (omega arith))

-- rows that have the fields of their form and no others are those that these fields say
own-row : (form : Form) (row : Row) → Own (form_has_persons form) row → row_for form row ≡ row
own-row Old row o = rw o
own-row Persons row o = refl
own-row Editions row o = refl

-- and so are such policies
own_policy : (form : Form) (p : Policy) → OwnEdition (form_has_editions form) p → policy_for form p ≡ p
own_policy Old p o = rw o
own_policy Persons p o = rw o
own_policy Editions p o = refl

-- the same of what is meant by each, where that is what was put in
meant_again : {A : Type 0} (none : A) (meant : A → A) (P : A → Type 0) → ((x : A) → P x → meant x ≡ x) → (n : ℕ) (l : List A) → length l ≤ n → Each P l
    → tabulate (length l) (λ i. meant (get_or (tabulate n (λ j. get_or l j none)) i none)) ≡ l
unfolding tabulate Each
meant_again none meant P kept n [] h o = refl
meant_again none meant P kept zero (x ∷ l) h o = absurd (omega arith)
meant_again {A} none meant P kept (suc n) (x ∷ l) h o =
    ap₂ (λ (y : A) (m : List A). y ∷ m) (kept x o.0) (meant_again none meant P kept n l (omega arith) o.1)

-- values that a book may have are all there in their arrays
pub values_for_lem : (v : Contents) → Admitted v → contents_for (values_for v) ≡ v
unfolding contents_for values_for
values_for_lem v a =
    contents_of_lem (out_again 0 permission_limit v.codes a.permissions)
    (meant_again nobody (row_for v.form) (Own (form_has_persons v.form)) (own-row v.form) row_limit v.rows a.rows a.own)
    (meant_again unasked (policy_for v.form) (OwnEdition (form_has_editions v.form)) (own_policy v.form) policy_limit v.policies a.policies a.editions)

-- ---- the values of a book

-- the values that are read from a good book are those that it is the layout of
pub values_of_good : (book : List ℕ) (s : Starts) → Bytes book → read_of book ≡ Ok s → contents_for (values_of book) ≡ contents_of book
unfolding values_of
values_of_good book s bytes e =
    ap (λ (r : Result Starts FaultAt). contents_for (values_for (contents_by book r))) e ∙ values_for_lem (contents_of book) (good_layout book s bytes e).admitted

-- "a refused book has none"
pub values_of_refused : (book : List ℕ) (f : Fault) (at : ℕ) → read_of book ≡ refused f at → values_of book ≡ no_values (form_of book)
unfolding values_of
values_of_refused book f at e = ap (λ (r : Result Starts FaultAt). values_for (contents_by book r)) e

-- written and read again: the same values
pub values_back : (v : Contents) (old new : List ℕ) (n : ℕ) → Typed v → Writes v old new (Ok n) → contents_for (values_of (take n new)) ≡ v
unfolding values_of
values_back v old new n t w =
    let back = reads_back v old new n t w in
    ap (λ (r : Result Starts FaultAt). contents_for (values_for (contents_by (take n new) r))) back.0
    ∙ ap (λ (x : Contents). contents_for (values_for x)) back.1
    ∙ values_for_lem v ((sound_iff_admitted v t).0 (is_written v old new n w).sound)

-- read and written again, with room for it: the same bytes, and nothing else touched
pub same_bytes : (book : List ℕ) (s : Starts) → Bytes book → read_of book ≡ Ok s
    → (old new : List ℕ) (r : Result ℕ NotWritten) → length book ≤ length old → Writes (contents_for (values_of book)) old new r
    → (r ≡ Ok (length book)) × (new ≡ book ++ drop (length book) old)
same_bytes book s bytes e old new r room w =
    let l = good_layout book s bytes e in
    let here : contents_for (values_of book) ≡ contents_of book = values_of_good book s bytes e in
    let is : Writes (contents_of book) old new r = subst (λ (v : Contents). Writes v old new r) here w in
    let same : bytes_of (contents_of book) ≡ book = sym l.bytes in
    let long : length (bytes_of (contents_of book)) ≡ length book = ap length same in
    let out = is.written (admitted_none (contents_of book) l.admitted) (omega arith) in
    (out.0 ∙ ap Ok long, out.1 ∙ ap (λ (b : List ℕ). b ++ drop (length b) old) same)
