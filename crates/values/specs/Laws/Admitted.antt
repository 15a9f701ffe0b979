-- Values have no fault exactly if a book may have them. Assumes nothing.
use Rattle.std.specs.Prelude.{◌≡◌, refl, false, ◌↔◌, List, ◌++◌, ℕ, ◌^◌, ◌≤◌, ◌<◌, length, None}
use Rattle.std.proofs.Common.{sym, ap, ◌∙◌, lt_of_lt_of_le, arith, pow_mono, ltb-false}
use Rattle.roster.proofs.Laws.Rulings.{inside, policy_within}
use Rattle.roster.specs.declared.Policy.{Policy}
use Rattle.book.specs.Layout.{Contents, permission_limit, code_fields, row_fields, policy_fields, form_has_persons, form_has_editions, bytes_of, PolicyFits, Admitted}
use Rattle.book.specs.Reading.{Kind, codes, rows_of, policies_of}
use Rattle.book.specs.Laws.First.{not_amiss}
use Rattle.book.specs.Laws.Sections.{Codec, Faultless}
use Rattle.book.specs.Laws.Values.{RowFits}
use Rattle.book.proofs.Laws.Values.{code_codec, row_codec, policy_codec, each, each-row-fits, codes_sound, rows_sound, policies_sound}
use Rattle.book.proofs.Laws.Books.{layout_good}
use Rattle.book.specs.declared.Row.{Row}
use Rattle.values.specs.Writing.{value_looks, section_in, first_of, fault_in}
use Rattle.book.specs.Faults.{fault_of}
use Rattle.values.specs.Promises.{Typed, Narrow, Laidable}
use Rattle.values.specs.Laws.First.{first-append, neither, none_head, none_faultless}
use Rattle.values.specs.Laws.Reader.{as_in_the_reader}

-- ---- admitted values are of their types, and have a layout

abbrev low : (listed : ℕ) → listed ≤ permission_limit → (x : ℕ) → x < 2 ^ listed → x < 2 ^ 32
low listed few x h = lt_of_lt_of_le h (pow_mono few)

policy_narrow : (listed : ℕ) (p : Policy) → PolicyFits listed p → Narrow p
policy_narrow listed p f =
    let w = policy_within _ _ _ _ _ _ f.sound in
    (omega (arith, w.away), omega (arith, w.few), omega (arith, w.small), omega (arith, w.edition.1))

pub admitted_laidable : (v : Contents) → Admitted v → Laidable v
admitted_laidable v a =
    let listed = length v.codes in
    record {
      typed = record {
        codes = a.codes;
        rows = each-row-fits (form_has_persons v.form) 32 v.rows a.staff a.persons a.own
            (each (λ (row : Row). low listed a.permissions row.holdings) v.rows a.holdings);
        tasks = each (λ (p : Policy) (f : PolicyFits listed p). low listed a.permissions p.task f.task) v.policies a.sound;
        editions = a.editions;
      };
      narrow = each (policy_narrow listed) v.policies a.sound;
    }

-- ---- no fault exactly if admitted

-- what is known of a section without fault
section-none : {A : Type 0} (kind : Kind A) (fields : A → List ℕ) (codec : Codec kind fields) (listed : ℕ) (l : List A)
    → first_of (section_in kind listed l) ≡ None → (kind.out_of_range (length l) ≡ false) × Faultless kind fields codec listed None l
section-none kind fields codec listed l e =
    let h = none_head _ (value_looks kind listed None l) e in
    ((not_amiss _ _ _ _ h.0).0, none_faultless kind fields codec listed None l h.1)

none_admitted : (v : Contents) → Typed v → fault_in v ≡ None → Admitted v
none_admitted v t e =
    let listed = length v.codes in
    let one = section_in codes 0 v.codes in
    let persons = form_has_persons v.form in
    let editions = form_has_editions v.form in
    let two = section_in (rows_of v.form) listed v.rows in
    let three = section_in (policies_of v.form) listed v.policies in
    let first = neither _ _ (sym (first-append one (two ++ three)) ∙ e) in
    let second = neither _ _ (sym (first-append two three) ∙ first.1) in
    let c = section-none codes code_fields code_codec 0 v.codes first.0 in
    let r = section-none (rows_of v.form) (row_fields persons) (row_codec persons) listed v.rows second.0 in
    let p = section-none (policies_of v.form) (policy_fields editions) (policy_codec editions) listed v.policies second.1 in
    let range = inside permission_limit listed c.0 in
    let held = rows_sound persons listed v.rows r.1 in
    record {
      some = range.0;
      permissions = range.1;
      rows = ltb-false _ _ r.0;
      policies = ltb-false _ _ p.0;
      codes = t.codes;
      codes_ascend = codes_sound 0 v.codes c.1;
      staff = each (λ (row : Row) (h : RowFits persons 32 row). h.staff) v.rows t.rows;
      staff_ascends = held.0;
      persons = each (λ (row : Row) (h : RowFits persons 32 row). h.person) v.rows t.rows;
      own = each (λ (row : Row) (h : RowFits persons 32 row). h.own) v.rows t.rows;
      holdings = held.1;
      sound = policies_sound editions listed None v.policies p.1;
      editions = t.editions;
    }

-- by way of the reader, who finds no fault in the layout of admitted values
pub admitted_none : (v : Contents) → Admitted v → fault_in v ≡ None
admitted_none v a =
    sym (as_in_the_reader v (admitted_laidable v a) (λ old. (λ many. omega (arith, a.permissions), λ many. omega (arith, a.permissions)))) ∙ ap fault_of (layout_good v (bytes_of v) (record { admitted = a; bytes = refl }))

pub sound_iff_admitted : (v : Contents) → Typed v → (fault_in v ≡ None) ↔ Admitted v
sound_iff_admitted v t = (none_admitted v t, admitted_none v)
