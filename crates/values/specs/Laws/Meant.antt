-- Which values are meant: as many as the counts say, whatever the arrays have room for, and each is of its type if all in the arrays are. Assumes
-- nothing.
use Rattle.std.specs.Prelude.{◌≡◌, refl, List, [], ◌∷◌, ℕ, zero, suc, ◌^◌, ◌<◌, length, get_or}
use Rattle.std.proofs.Common.{ap, ◌∙◌, arith}
use Rattle.sets.specs.Arrays.{tabulate}
use Rattle.sets.specs.Laws.Arrays.{length-tabulate, get_d_tabulate, tabulated}
use Rattle.book.specs.Layout.{Contents, OwnEdition, form_has_persons, form_has_editions, row_fields, policy_fields, Each}
use Rattle.book.specs.Reading.{row_with, policy_with}
use Rattle.book.specs.Laws.Values.{RowFits}
use Rattle.book.specs.declared.Form.{Form}
use Rattle.book.specs.declared.Form.TheVariants.{Old, Persons, Editions}
use Rattle.book.specs.declared.Row.{Row}
use Rattle.roster.specs.declared.Policy.{Policy}
use Rattle.book.specs.Promises.{nothing}
use Rattle.values.specs.Values.{nobody, unasked, row_for, policy_for, contents_for, values_for, no_values}
use Rattle.values.specs.Promises.{Typed}
use Rattle.values.specs.declared.Values.{Values}

pub record AsCounted (v : Values) : Type 0 where
  pub codes : length (contents_for v).codes ≡ v.code_count
  pub rows : length (contents_for v).rows ≡ v.row_count
  pub policies : length (contents_for v).policies ≡ v.policy_count

pub counted : (v : Values) → AsCounted v
unfolding contents_for
counted v = record {
  codes = length-tabulate v.code_count (λ i. get_or v.codes i 0);
  rows = length-tabulate v.row_count (λ i. row_for v.form (get_or v.rows i nobody));
  policies = length-tabulate v.policy_count (λ i. policy_for v.form (get_or v.policies i unasked));
}

-- contents of one form are their lists
pub contents_of_lem : {form : Form} {c c' : List ℕ} {r r' : List Row} {p p' : List Policy} → c ≡ c' → r ≡ r' → p ≡ p'
    → ◌≡◌ {A = Contents} (record { form = form; codes = c; rows = r; policies = p }) (record { form = form; codes = c'; rows = r'; policies = p' })
contents_of_lem e h k = rw (e, h, k)

-- nothing is meant where nothing was put in
pub none_meant : (form : Form) → contents_for (no_values form) ≡ nothing form
unfolding contents_for values_for tabulate
none_meant form = refl

-- ---- fields that a form lacks play no part

-- values alike in their form, their counts and, below the counts, in the fields that the form has
pub record SameFields (v w : Values) : Type 0 where
  pub form : v.form ≡ w.form
  pub codes-many : v.code_count ≡ w.code_count
  pub rows-many : v.row_count ≡ w.row_count
  pub policies-many : v.policy_count ≡ w.policy_count
  pub code : (i : ℕ) → i < v.code_count → get_or v.codes i 0 ≡ get_or w.codes i 0
  pub row : (i : ℕ) → i < v.row_count
      → row_fields (form_has_persons v.form) (get_or v.rows i nobody) ≡ row_fields (form_has_persons v.form) (get_or w.rows i nobody)
  pub policy : (i : ℕ) → i < v.policy_count
      → policy_fields (form_has_editions v.form) (get_or v.policies i unasked) ≡ policy_fields (form_has_editions v.form) (get_or w.policies i unasked)

-- tables of functions that are alike below n are equal
table_same : {A : Type 0} (none : A) (n : ℕ) (f g : ℕ → A) → ((i : ℕ) → i < n → f i ≡ g i) → tabulate n f ≡ tabulate n g
table_same none n f g e = tabulated none n g (tabulate n f) (length-tabulate n f) (λ i l. get_d_tabulate none n f i l ∙ e i l)

-- are the same values, so that the same is written and replied
pub bare_same : (v w : Values) → SameFields v w → contents_for v ≡ contents_for w
unfolding contents_for
bare_same v w s =
    rw (← s.form, ← s.codes-many, ← s.rows-many, ← s.policies-many)
    (contents_of_lem
    (table_same 0 v.code_count _ _ s.code)
    (table_same nobody v.row_count _ _ (λ i l. ap (row_with (form_has_persons v.form)) (s.row i l)))
    (table_same unasked v.policy_count _ _ (λ i l. ap (policy_with (form_has_editions v.form)) (s.policy i l))))

-- ---- types

-- what is so of each in a list, and of what stands for one that is not there, is so at every place
at_any : {A : Type 0} (P : A → Type 0) (none : A) (l : List A) → Each P l → P none → (i : ℕ) → P (get_or l i none)
unfolding Each
at_any P none [] h n i = n
at_any P none (x ∷ l) h n zero = h.0
at_any P none (x ∷ l) h n (suc i) = at_any P none l h.1 n i

each_taken : {A : Type 0} (P : A → Type 0) (n : ℕ) (f : ℕ → A) → ((i : ℕ) → P (f i)) → Each P (tabulate n f)
unfolding tabulate Each
each_taken P zero f h = tt
each_taken P (suc n) f h = (h 0, each_taken P n (λ i. f (suc i)) (λ i. h (suc i)))

-- each number of a row is a `u32`
pub record Numbers (row : Row) : Type 0 where
  pub staff : row.staff < 2 ^ 32
  pub person : row.person < 2 ^ 32
  pub holdings : row.holdings < 2 ^ 32

row_typed : (form : Form) (row : Row) → Numbers row → RowFits (form_has_persons form) 32 (row_for form row)
row_typed Old row n = record { staff = n.staff; person = n.staff; own = refl; holdings = n.holdings }
row_typed Persons row n = record { staff = n.staff; person = n.person; own = tt; holdings = n.holdings }
row_typed Editions row n = record { staff = n.staff; person = n.person; own = tt; holdings = n.holdings }

policy_own : (form : Form) (p : Policy) → OwnEdition (form_has_editions form) (policy_for form p)
policy_own Old p = refl
policy_own Persons p = refl
policy_own Editions p = tt

-- what the types say of the arrays holds of the values that are meant
pub typed : (v : Values) → Each (λ code. code < 2 ^ 16) v.codes → Each Numbers v.rows → Each (λ p. p.task < 2 ^ 32) v.policies
    → Typed (contents_for v)
unfolding contents_for
typed v codes rows tasks = record {
  codes = each_taken _ v.code_count _ (at_any _ 0 v.codes codes (omega arith));
  rows = each_taken _ v.row_count _ (λ i.
      row_typed v.form _ (at_any Numbers nobody v.rows rows (record { staff = omega arith; person = omega arith; holdings = omega arith }) i));
  tasks = each_taken (λ p. p.task < 2 ^ 32) v.policy_count (λ i. policy_for v.form (get_or v.policies i unasked))
      (at_any (λ p. p.task < 2 ^ 32) unasked v.policies tasks (omega arith));
  editions = each_taken (OwnEdition (form_has_editions v.form)) v.policy_count (λ i. policy_for v.form (get_or v.policies i unasked))
      (λ i. policy_own v.form (get_or v.policies i unasked));
}
