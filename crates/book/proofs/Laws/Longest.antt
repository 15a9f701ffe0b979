-- "The longest book is 803 bytes", that is the longest old one; with persons it has 1,060 at most, with editions 1,092. No good book is longer, and
-- one of each form is as long. Assumes nothing.
use Rattle.std.specs.Prelude.{◌≡◌, refl, Bool, true, false, List, ◌++◌, ℕ, zero, suc, ◌+◌, ◌*◌, ◌≤◌, ◌<◌, length}
use Rattle.std.proofs.Common.{ap, ◌∙◌, arith, length-append}
use Rattle.sets.specs.Arrays.{tabulate}
use Rattle.sets.specs.Laws.Arrays.{length-tabulate}
use Rattle.roster.specs.Limits.{row_limit}
use Rattle.roster.specs.Refusals.{policy_ruling}
use Rattle.roster.specs.declared.Policy.{Policy}
use Rattle.book.specs.declared.Row.{Row}
use Rattle.book.specs.Layout.{Contents, code_widths, row_widths, policy_widths, code_fields, row_fields, policy_fields, form_has_persons, form_has_editions, lead, permission_limit, policy_limit, section, bytes_of, Own, OwnEdition, Each, Below, Ascends, Admitted, LayoutOf}
use Rattle.book.specs.Reading.{codes, rows_of, policies_of, width}
use Rattle.book.specs.declared.Form.{Form}
use Rattle.book.specs.declared.Form.TheVariants.{Old, Persons, Editions}
use Rattle.book.specs.Laws.Sections.{joined_length}
use Rattle.book.proofs.Laws.Values.{code_codec, row_codec, policy_codec, each, code_fits, each-row-fits, row_fits, each_policy_fits}

-- how long a layout is
pub layout_length : (v : Contents) → Admitted v
    → length (bytes_of v) ≡ length (lead v.form) + 3 + 2 * length v.codes + width (rows_of v.form) * length v.rows + width (policies_of v.form) * length v.policies
unfolding bytes_of
layout_length v a =
    let np = length v.codes in
    let persons = form_has_persons v.form in
    let editions = form_has_editions v.form in
    let sec1 = section code_widths code_fields v.codes in
    let sec2 = section (row_widths persons) (row_fields persons) v.rows in
    let sec3 = section (policy_widths editions) (policy_fields editions) v.policies in
    let one = joined_length codes code_fields code_codec v.codes (each code_fits v.codes a.codes) in
    let two = joined_length (rows_of v.form) (row_fields persons) (row_codec persons) v.rows
    (each (row_fits persons np a.permissions) v.rows (each-row-fits persons np v.rows a.staff a.persons a.own a.holdings)) in
    let three = joined_length (policies_of v.form) (policy_fields editions) (policy_codec editions) v.policies
    (each_policy_fits editions np a.permissions v.policies a.sound a.editions) in
    omega (arith, length-append (lead v.form) (sec1 ++ (sec2 ++ sec3)), length-append sec1 (sec2 ++ sec3), length-append sec2 sec3)

-- how long a book of this form is at most
abbrev pub longest : Form → ℕ
longest Old = 803
longest Persons = 1060
longest Editions = 1092

most : (form : Form) (codes rows policies : ℕ) → codes ≤ permission_limit → rows ≤ row_limit → policies ≤ policy_limit
    → length (lead form) + 3 + 2 * codes + width (rows_of form) * rows + width (policies_of form) * policies ≤ longest form
most Old codes rows policies c r p = omega arith
most Persons codes rows policies c r p = omega arith
most Editions codes rows policies c r p = omega arith

-- no good book is longer
pub form_short : (v : Contents) (book : List ℕ) → LayoutOf v book → length book ≤ longest v.form
form_short v book l =
    let a = l.admitted in
    omega (arith, ap length l.bytes, layout_length v a, most v.form _ _ _ a.permissions a.rows a.policies)

longest_any : (form : Form) → longest form ≤ 1092
longest_any Old = omega arith
longest_any Persons = omega arith
longest_any Editions = omega arith

pub good_short : (v : Contents) (book : List ℕ) → LayoutOf v book → length book ≤ 1092
good_short v book l = omega (arith, form_short v book l, longest_any v.form)

-- ---- one that is as long

each-tabulate : {A : Type 0} (P : A → Type 0) (n : ℕ) (f : ℕ → A) → ((j : ℕ) → j < n → P (f j)) → Each P (tabulate n f)
unfolding tabulate Each
each-tabulate P zero f h = tt
each-tabulate P (suc n) f h = (h 0 (omega arith), each-tabulate P n (λ i. f (suc i)) (λ j l. h (suc j) (omega arith)))

-- each key is one more than the one before
ascends_tabulate : {A : Type 0} (key : A → ℕ) (n : ℕ) (f : ℕ → A) → ((j : ℕ) → key (f (suc j)) ≡ suc (key (f j))) → Ascends key (tabulate n f)
unfolding tabulate Ascends Below
ascends_tabulate key zero f e = tt
ascends_tabulate key (suc zero) f e = (tt, tt)
ascends_tabulate key (suc (suc n)) f e = (omega (arith, e 0), ascends_tabulate key (suc n) (λ i. f (suc i)) (λ j. e (suc j)))

abbrev row_number : ℕ → Row
row_number i = record { staff = i; person = i; holdings = 0 }

own-number : (persons : Bool) (i : ℕ) → Own persons (row_number i)
own-number false i = refl
own-number true i = tt

abbrev least : ℕ → Policy
least i = record { task = 1; away = 0; crews = 1; size = 1; edition = 1 }

first_edition : (editions : Bool) (i : ℕ) → OwnEdition editions (least i)
first_edition false i = refl
first_edition true i = tt

-- as many permissions, rows and policies as may be
abbrev pub fullest : Form → Contents
fullest form = record {
  form = form;
  codes = tabulate permission_limit (λ i. i);
  rows = tabulate row_limit row_number;
  policies = tabulate policy_limit least;
}

pub fullest_admitted : (form : Form) → Admitted (fullest form)
unfolding policy_ruling
fullest_admitted form =
    let np = length-tabulate permission_limit (λ (i : ℕ). i) in
    record {
      some = rw np (omega arith);
      permissions = rw np (omega arith);
      rows = rw (length-tabulate row_limit row_number) (omega arith);
      policies = rw (length-tabulate policy_limit least) (omega arith);
      codes = each-tabulate _ permission_limit (λ i. i) (λ j l. omega arith);
      codes_ascend = ascends_tabulate (λ c. c) permission_limit (λ i. i) (λ j. refl);
      staff = each-tabulate _ row_limit row_number (λ j l. omega arith);
      staff_ascends = ascends_tabulate (λ row. row.staff) row_limit row_number (λ j. refl);
      persons = each-tabulate _ row_limit row_number (λ j l. omega arith);
      own = each-tabulate _ row_limit row_number (λ j l. own-number (form_has_persons form) j);
      holdings = rw np (each-tabulate _ row_limit row_number (λ j l. omega arith));
      sound = rw np (each-tabulate _ policy_limit least (λ j l. record { task = omega arith; sound = refl }));
      editions = each-tabulate _ policy_limit least (λ j l. first_edition (form_has_editions form) j);
    }

full : (form : Form) → length (lead form) + 3 + 2 * permission_limit + width (rows_of form) * row_limit + width (policies_of form) * policy_limit ≡ longest form
full Old = refl
full Persons = refl
full Editions = refl

pub longest_book : (form : Form) → length (bytes_of (fullest form)) ≡ longest form
longest_book form =
    layout_length (fullest form) (fullest_admitted form)
    ∙ rw (length-tabulate permission_limit (λ (i : ℕ). i), length-tabulate row_limit row_number, length-tabulate policy_limit least) (full form)
