-- "Refusals: 12 to 18 and 2 to 5 as in the reader, in reading order", and 25: what is looked at of values is what the reader looks at of their layout, so
-- the fault is the same. Assumes nothing.
use Rattle.std.specs.Prelude.{◌≡◌, Bool, true, false, ℕ, ◌+◌, ◌*◌, ◌^◌, ◌≤◌, ◌<◌, eqb, Option, Some, None, Result, Ok, Err}
use Rattle.std.proofs.Math.Path.{refl, ap}
use Rattle.std.proofs.Common.{sym, ◌∙◌, length-append, le-ltb, lt-ltb, ne_eqb}
use mathlib.Core.List.{List, [], ◌∷◌, ◌++◌, map, append_assoc, append-nil}
use Rattle.std.proofs.Math.Nat.{mul-suc}
use native.Mathlib.Omega.{arith}
use Rattle.std.proofs.Math.ListN.{length, drop}
use Rattle.roster.specs.declared.Policy.{Policy}
use Rattle.book.specs.Layout.{Contents, Each, bytes_of, section, joined, code_widths, code_fields, row_widths, row_fields, policy_widths, policy_fields, OwnEdition, form_has_persons, form_has_editions, lead, permission_limit}
use Rattle.book.specs.Reading.{Kind, cut_place, amiss_if, fault_if, placed, width, entry_at, prior, count_look, entry_look, in_turn, section_looks, past, form_of, front, listed_in, end_look, looks, looks_by, looks_from_rows, looks_from_policies, codes, rows_of, policies, policies_of, first_fault, starts_of, read_of, Look}
use Rattle.book.specs.Laws.Codec.{Fit, after, head_at, tail_at, fields_length, fields_read}
use Rattle.book.specs.Laws.Sections.{Codec, bytes_for, Fits, joined_length, section_read}
use Rattle.book.proofs.Laws.Values.{code_codec, row_codec, policy_codec, each, each_both, code_fits, row_fits, edition_fits, own_edition}
use Rattle.book.proofs.Laws.Books.{rows_at, policies_at, by_lead, lead-front}
use Rattle.book.specs.declared.Form.{Form}
use Rattle.book.specs.Faults.{fault_of}
use Rattle.book.specs.declared.Fault.{Fault}
use Rattle.book.specs.declared.Fault.TheVariants as fault
use Rattle.values.specs.Writing.{value_looks, section_in, looks_in, first_of, fault_in}
use Rattle.values.specs.Laws.First.{or_else}
use Rattle.values.specs.Promises.{Narrow, Laidable, TellsForm}
use Rattle.book.specs.declared.Starts.{Starts}
use Rattle.book.specs.declared.Amiss.{Amiss}

-- the fault of a look, without its place, and of what is amiss, without its field
abbrev seen : Look → Option Fault
seen (Ok t) = None
seen (Err e) = Some e.fault

abbrev fault_from : Result Unit Amiss → Option Fault
fault_from (Ok t) = None
fault_from (Err e) = Some e.fault

-- it is the same once it is placed
seen_placed : (ws : List ℕ) (at : ℕ) (x : Result Unit Amiss) → seen (placed ws at x) ≡ fault_from x
seen_placed ws at (Ok t) = refl
seen_placed ws at (Err e) = refl

seen_count : (b : Bool) (f : Fault) (at : ℕ) → seen (fault_if b f at (Ok tt)) ≡ fault_from (amiss_if b f 0 (Ok tt))
seen_count true f at = refl
seen_count false f at = refl

-- ---- values that have a layout fit their fields

policy_goes : (editions : Bool) (p : Policy) → ((p.task < 2 ^ 32) × OwnEdition editions p) × Narrow p
    → Fits (policies editions) (policy_fields editions) (policy_codec editions) p
unfolding Fit
policy_goes editions p ((task, own), (away, crews, size, edition)) =
    ((task, (omega (arith, away), (omega (arith, crews), (omega (arith, size), edition_fits editions p edition)))), own_edition editions p own)

-- ---- what is looked at

module _ {A : Type 0} (kind : Kind A) (fields : A → List ℕ) (codec : Codec kind fields) (listed : ℕ) where
  -- what is told of an entry that is whole
  entry_seen : (book : List ℕ) (before : Option ℕ) (at : ℕ) → at + width kind ≤ length book
      → seen (entry_look kind book listed before at) ≡ fault_from (kind.faults listed (prior (entry_at kind book) before) (entry_at kind book at))
  unfolding entry_look
  entry_seen book before at h =
      let here = kind.faults listed (prior (entry_at kind book) before) (entry_at kind book at) in
      let cut = cut_place kind.widths (length book) at in
      ap (λ (b : Bool). seen (fault_if b fault.Short cut (placed kind.widths at here))) (le-ltb (length book) (at + width kind) h)
      ∙ seen_placed kind.widths at here

  -- what is looked at of entries that stand in a book is what is looked at of their values
  entries_looks : (vs : List A) (book : List ℕ) (before : Option ℕ) (at : ℕ) (rest : List ℕ) → Each (Fits kind fields codec) vs
      → at ≤ length book → drop at book ≡ joined (bytes_for kind fields codec) vs ++ rest → at + width kind * length vs ≤ length book
      → map seen (in_turn (entry_look kind book listed) (width kind) before at (length vs))
      ≡ map fault_from (value_looks kind listed (prior (entry_at kind book) before) vs)
  unfolding joined Each in_turn value_looks
  entries_looks [] book before at rest f l e h = refl
  entries_looks (x ∷ vs) book before at rest f l e h =
      let e' = e ∙ append_assoc (bytes_for kind fields codec x) (joined (bytes_for kind fields codec) vs) rest in
      let here : entry_at kind book at ≡ x =
      ap kind.value (fields_read kind.widths (fields x) book at (joined (bytes_for kind fields codec) vs ++ rest) f.0.0 e') ∙ codec.back x f.0.1 in
      let there = after book at (bytes_for kind fields codec x) (joined (bytes_for kind fields codec) vs ++ rest) e' in
      let next : drop (at + width kind) book ≡ joined (bytes_for kind fields codec) vs ++ rest =
      ap (λ (k : ℕ). drop (at + k) book) (sym (fields_length kind.widths (fields x) f.0.0)) ∙ there in
      let more = mul-suc (width kind) (length vs) in
      let whole : at + width kind ≤ length book = omega arith in
      let ih = entries_looks vs book (Some at) (at + width kind) rest f.1 whole next (omega arith) in
      rw (entry_seen book before at whole, ih, here)

  section-looks : (vs : List A) (book : List ℕ) (at : ℕ) (rest : List ℕ) → Each (Fits kind fields codec) vs
      → drop at book ≡ section kind.widths fields vs ++ rest → at + length (section kind.widths fields vs) ≤ length book
      → map seen (section_looks kind book listed at) ≡ map fault_from (section_in kind listed vs)
  unfolding section_looks count_look
  section-looks vs book at rest f e h =
      let count = head_at book at (length vs) (joined (bytes_for kind fields codec) vs ++ rest) e in
      let next = tail_at book at (length vs) (joined (bytes_for kind fields codec) vs ++ rest) e in
      let long = joined_length kind fields codec vs f in
      let whole : at + 1 ≤ length book = omega arith in
      let ih = entries_looks vs book None (at + 1) rest f whole next (omega arith) in
      rw (le-ltb (length book) (at + 1) whole, count, ih, seen_count (kind.out_of_range (length vs)) kind.count_fault at)

map-append : {A B : Type 0} (f : A → B) (l m : List A) → map f (l ++ m) ≡ map f l ++ map f m
map-append f [] m = refl
map-append f (x ∷ l) m = ap (λ (r : List _). f x ∷ r) (map-append f l m)

joins : {A : Type 0} {a b c d : List A} → a ≡ b → c ≡ d → a ++ c ≡ b ++ d
joins e h = rw (e, h)

-- all that is looked at of a layout, by its own form, is what is looked at of its values, and then its end
by_form_looks : (v : Contents) → Laidable v → map seen (looks_by v.form (bytes_of v)) ≡ map fault_from (looks_in v ++ (Ok tt ∷ []))
unfolding bytes_of
by_form_looks v f =
    let book = bytes_of v in
    let form = v.form in
    let persons = form_has_persons form in
    let editions = form_has_editions form in
    let codesFit = each code_fits v.codes f.typed.codes in
    let rowsFit = each (row_fits persons 32 (omega arith)) v.rows f.typed.rows in
    let policiesFit = each (policy_goes editions) v.policies
    (each_both _ _ v.policies (each_both _ _ v.policies f.typed.tasks f.typed.editions) f.narrow) in
    let sec1 = section code_widths code_fields v.codes in
    let sec2 = section (row_widths persons) (row_fields persons) v.rows in
    let sec3 = section (policy_widths editions) (policy_fields editions) v.policies in
    let begins = lead-front form in
    let first : front form ≡ 0 + length (lead form) = omega arith in
    let after-lead : drop (front form) book ≡ sec1 ++ (sec2 ++ sec3) =
    ap (λ (k : ℕ). drop k book) first ∙ after book 0 (lead form) (sec1 ++ (sec2 ++ sec3)) refl in
    let listed = listed_in form book in
    let one = section_read codes code_fields code_codec v.codes book (front form) (sec2 ++ sec3) codesFit after-lead in
    let two = section_read (rows_of form) (row_fields persons) (row_codec persons) v.rows book (rows_at form book) sec3 rowsFit one.left in
    let three = section_read (policies_of form) (policy_fields editions) (policy_codec editions) v.policies book (policies_at form book) [] policiesFit (two.left ∙ sym (append-nil sec3)) in
    let lead-long = length-append (lead form) (sec1 ++ (sec2 ++ sec3)) in
    let long : length book ≡ length (lead form) + (length sec1 + (length sec2 + length sec3)) =
    omega (arith, lead-long, length-append sec1 (sec2 ++ sec3), length-append sec2 sec3) in
    let end1 = one.ends in
    let end2 = two.ends in
    let end3 = three.ends in
    let look1 = section-looks codes code_fields code_codec 0 v.codes book (front form) (sec2 ++ sec3) codesFit after-lead (omega arith) in
    let look2 = section-looks (rows_of form) (row_fields persons) (row_codec persons) listed v.rows book (rows_at form book) sec3 rowsFit one.left (omega arith) in
    let look3 = section-looks (policies_of form) (policy_fields editions) (policy_codec editions) listed v.policies book (policies_at form book) [] policiesFit (two.left ∙ sym (append-nil sec3)) (omega arith) in
    let end = le-ltb (past (policies_of form) book (policies_at form book)) (length book) (omega arith) in
    let in1 = section_in codes 0 v.codes in
    let in2 = section_in (rows_of form) (length v.codes) v.rows in
    let in3 = section_in (policies_of form) (length v.codes) v.policies in
    let last = Ok tt ∷ [] in
    map-append seen (section_looks codes book 0 (front form)) (looks_from_rows form book (rows_at form book))
    ∙ joins look1 (
    map-append seen (section_looks (rows_of form) book listed (rows_at form book)) (looks_from_policies form book (policies_at form book))
    ∙ joins (look2 ∙ ap (λ (n : ℕ). map fault_from (section_in (rows_of form) n v.rows)) one.count) (
    map-append seen (section_looks (policies_of form) book listed (policies_at form book)) (end_look book (past (policies_of form) book (policies_at form book)) ∷ [])
    ∙ joins (look3 ∙ ap (λ (n : ℕ). map fault_from (section_in (policies_of form) n v.policies)) one.count)
    (ap (λ (b : Bool). seen (fault_if b fault.Excess (past (policies_of form) book (policies_at form book)) (Ok tt)) ∷ []) end)))
    ∙ sym (map-append fault_from in1 (in2 ++ (in3 ++ last))
    ∙ ap (λ (l : List (Option Fault)). map fault_from in1 ++ l) (map-append fault_from in2 (in3 ++ last)
    ∙ ap (λ (l : List (Option Fault)). map fault_from in2 ++ l) (map-append fault_from in3 last)))
    ∙ sym (ap (map fault_from) (append_assoc in1 (in2 ++ in3) last ∙ ap (λ (l : List (Result Unit Amiss)). in1 ++ l) (append_assoc in2 in3 last)))

-- ---- the first fault

-- the first that is there
unfoldable first_some : List (Option Fault) → Option Fault
first_some [] = None
first_some (x ∷ l) = or_else x (first_some l)

first_amiss : (l : List (Result Unit Amiss)) → first_some (map fault_from (l ++ (Ok tt ∷ []))) ≡ first_of l
unfolding first_of first_some
first_amiss [] = refl
first_amiss (Ok t ∷ l) = first_amiss l
first_amiss (Err e ∷ l) = refl

fault_by : (good : Starts) (l : List Look) → fault_of (first_fault good l) ≡ first_some (map seen l)
unfolding first_fault first_some
fault_by good [] = refl
fault_by good (Ok t ∷ l) = fault_by good l
fault_by good (Err e ∷ l) = refl

-- ---- the form

form_told : (v : Contents) → TellsForm v → form_of (bytes_of v) ≡ v.form
unfolding form_of bytes_of
form_told v n = by_lead v.form (length v.codes) _ n

pub many-codes : (v : Contents) → permission_limit < length v.codes → fault_in v ≡ Some fault.Permissions
unfolding first_of
many-codes v many =
    let some-codes : eqb (length v.codes) 0 ≡ false = ne_eqb (length v.codes) 0 (λ e. omega arith) in
    rw (some-codes, lt-ltb permission_limit (length v.codes) many)

-- "12 to 18 and 2 to 5 as in the reader, in reading order", and 25: the first fault of the values is the one that the reader finds in their layout
pub as_in_the_reader : (v : Contents) → Laidable v → TellsForm v → fault_of (read_of (bytes_of v)) ≡ fault_in v
unfolding read_of
as_in_the_reader v f n =
    let book = bytes_of v in
    fault_by (starts_of (form_of book) book) (looks book)
    ∙ ap (λ (form : Form). first_some (map seen (looks_by form book))) (form_told v n)
    ∙ ap first_some (by_form_looks v f)
    ∙ first_amiss (looks_in v)
