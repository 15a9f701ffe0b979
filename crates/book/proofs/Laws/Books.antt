-- The reader and the layout: a book is good exactly if it is the layout of admitted values, which are unique; it is refused exactly with its
-- first fault; and so every byte string has one reply. Assumes nothing.
use Rattle.std.specs.Prelude.{◌≡◌, ◌⊎◌, ◌↔◌, ◌≢◌, Bool, true, false, ℕ, ◌+◌, ◌≤◌, eqb, ltb, get_or, take, None, Result, Ok, Err}
use Rattle.std.proofs.Math.Path.{refl, sym, ap, subst}
use Rattle.std.proofs.Common.{ap₂, ◌∙◌, inl, inr, arith, length-append, take-append-drop}
use mathlib.Core.List.{List, [], ◌∷◌, ◌++◌, append-nil}
use Rattle.std.proofs.Math.ListN.{length, drop, drop_of_length-le}
use borrow.Author.Tests.{ltb-false, le-ltb, ne_eqb, eqb-true}
use Rattle.roster.specs.Limits.{row_limit}
use Rattle.roster.specs.Refusals.{outside}
use Rattle.roster.specs.declared.Policy.{Policy}
use Rattle.roster.proofs.Laws.Rulings.{inside}
use Rattle.book.specs.Layout.{Contents, code_widths, row_widths, policy_widths, code_fields, row_fields, policy_fields, form_has_persons, form_has_editions, lead, permission_limit, policy_limit, section, bytes_of, Each, Admitted, LayoutOf}
use Rattle.book.specs.Reading.{codes, rows_of, policies_of, count_at, section_looks, past, form_by, form_of, front, listed_in, end_look, looks_from_policies, looks_from_rows, looks_by, looks, first_fault, starts_of, read_by, read_of, refused}
use Rattle.book.specs.Parts.{contents_by, contents_of, values_at}
use Rattle.book.specs.Promises.{Bytes, AllSound, FirstFault, starts_for, Allows}
use Rattle.book.specs.Laws.First.{not_faulty, no_fault, sound_append, append_sound, all_sound, first_faulty, Split, split}
use Rattle.book.specs.Laws.Sections.{Codec, entries_length, entries_fit, section_read, section_write, SectionSound, section_sound, sound_section}
use Rattle.book.proofs.Laws.Values.{code_codec, row_codec, policy_codec, each, codes_sound, sound_codes, rows_sound, sound_rows, policies_sound, sound_policies, code_fits, fits_code, each-row-fits, row_fits, fits-row, each_policy_fits, fits_edition}
use Rattle.book.specs.Laws.Codec.{after}
use Rattle.book.specs.declared.Form.{Form}
use Rattle.book.specs.declared.Form.TheVariants.{Old, Persons, Editions}
use Rattle.book.specs.declared.Row.{Row}
use Rattle.book.specs.declared.Fault.{Fault}
use Rattle.book.specs.declared.Fault.TheVariants as fault
use Rattle.book.specs.declared.Starts.{Starts}
use Rattle.book.specs.declared.FaultAt.{FaultAt}

-- ---- a book without fault

-- where the rows start, and the policies
abbrev pub rows_at : Form → List ℕ → ℕ
rows_at form book = past codes book (front form)

abbrev pub policies_at : Form → List ℕ → ℕ
policies_at form book = past (rows_of form) book (rows_at form book)

-- the fields of a row of this form, and how they are read and written
abbrev pub row_fields_of : Form → Row → List ℕ
row_fields_of form = row_fields (form_has_persons form)

abbrev pub row_codec_of : (form : Form) → Codec (rows_of form) (row_fields_of form)
row_codec_of form = row_codec (form_has_persons form)

-- and those of a policy
abbrev pub policy_fields_of : Form → Policy → List ℕ
policy_fields_of form = policy_fields (form_has_editions form)

abbrev pub policy_codec_of : (form : Form) → Codec (policies_of form) (policy_fields_of form)
policy_codec_of form = policy_codec (form_has_editions form)

module _ (form : Form) where
  pub record BookSound (book : List ℕ) : Type 0 where
    pub first : SectionSound codes code_fields code_codec book 0 (front form)
    pub second : SectionSound (rows_of form) (row_fields_of form) (row_codec_of form) book (listed_in form book) (rows_at form book)
    pub third : SectionSound (policies_of form) (policy_fields_of form) (policy_codec_of form) book (listed_in form book) (policies_at form book)
    pub ends : length book ≤ past (policies_of form) book (policies_at form book)

  pub sound_book : (book : List ℕ) → AllSound (looks_by form book) → BookSound book
  unfolding Each
  sound_book book h =
      let n = listed_in form book in
      let one = sound_append (section_looks codes book 0 (front form)) (looks_from_rows form book (rows_at form book)) h in
      let two = sound_append (section_looks (rows_of form) book n (rows_at form book)) (looks_from_policies form book (policies_at form book)) one.1 in
      let three = sound_append (section_looks (policies_of form) book n (policies_at form book)) (end_look book (past (policies_of form) book (policies_at form book)) ∷ []) two.1 in
      record {
        first = section_sound codes code_fields code_codec book 0 (front form) one.0;
        second = section_sound (rows_of form) (row_fields_of form) (row_codec_of form) book n (rows_at form book) two.0;
        third = section_sound (policies_of form) (policy_fields_of form) (policy_codec_of form) book n (policies_at form book) three.0;
        ends = ltb-false (past (policies_of form) book (policies_at form book)) (length book) (not_faulty _ _ _ _ three.1.0).0;
      }

  pub book_sound : (book : List ℕ) → BookSound book → AllSound (looks_by form book)
  unfolding Each
  book_sound book s =
      let n = listed_in form book in
      let end = no_fault (ltb (past (policies_of form) book (policies_at form book)) (length book)) fault.Excess _ (Ok tt) (le-ltb _ _ s.ends) refl in
      append_sound (section_looks codes book 0 (front form)) (looks_from_rows form book (rows_at form book))
      (sound_section codes code_fields code_codec book 0 (front form) s.first)
      (append_sound (section_looks (rows_of form) book n (rows_at form book)) (looks_from_policies form book (policies_at form book))
      (sound_section (rows_of form) (row_fields_of form) (row_codec_of form) book n (rows_at form book) s.second)
      (append_sound (section_looks (policies_of form) book n (policies_at form book)) (end_look book (past (policies_of form) book (policies_at form book)) ∷ [])
      (sound_section (policies_of form) (policy_fields_of form) (policy_codec_of form) book n (policies_at form book) s.third)
      (end, tt)))

  pub front_within : (book : List ℕ) → BookSound book → front form ≤ length book
  unfolding past
  front_within book s = omega (arith, s.first.whole)

  -- ---- a book without fault is a layout

  pub sound_bytes : (book : List ℕ) → Bytes book → take (front form) book ≡ lead form → BookSound book → book ≡ bytes_of (contents_by form book)
  unfolding bytes_of contents_by
  sound_bytes book bytes leads s =
      let one = section_write codes code_fields code_codec book (front form) bytes s.first.whole in
      let two = section_write (rows_of form) (row_fields_of form) (row_codec_of form) book (rows_at form book) bytes s.second.whole in
      let three = section_write (policies_of form) (policy_fields_of form) (policy_codec_of form) book (policies_at form book) bytes s.third.whole in
      let none : drop (past (policies_of form) book (policies_at form book)) book ≡ [] = drop_of_length-le book s.ends in
      sym (take-append-drop (front form) book)
      ∙ ap (λ (l : List ℕ). l ++ drop (front form) book) leads
      ∙ ap (λ (l : List ℕ). lead form ++ l) (one
      ∙ ap (λ (l : List ℕ). section code_widths code_fields (values_at codes book (front form)) ++ l) (two
      ∙ ap (λ (l : List ℕ). section (row_widths (form_has_persons form)) (row_fields_of form) (values_at (rows_of form) book (rows_at form book)) ++ l) (three
      ∙ ap (λ (l : List ℕ). section (policy_widths (form_has_editions form)) (policy_fields_of form) (values_at (policies_of form) book (policies_at form book)) ++ l) none
      ∙ append-nil _)))

  pub sound_admitted : (book : List ℕ) → Bytes book → BookSound book → Admitted (contents_by form book)
  unfolding contents_by
  sound_admitted book bytes s =
      let n = listed_in form book in
      let people = values_at (rows_of form) book (rows_at form book) in
      let listed : length (values_at codes book (front form)) ≡ n = entries_length codes code_fields code_codec book (front form + 1) n in
      let range = inside permission_limit n s.first.in_range in
      let held = rows_sound (form_has_persons form) n people s.second.values in
      let fit = entries_fit (rows_of form) (row_fields_of form) (row_codec_of form) book (rows_at form book + 1) (count_at book (rows_at form book)) bytes in
      record {
        some = rw listed range.0;
        permissions = rw listed range.1;
        rows = rw (entries_length (rows_of form) (row_fields_of form) (row_codec_of form) book (rows_at form book + 1) (count_at book (rows_at form book))) (ltb-false _ _ s.second.in_range);
        policies = rw (entries_length (policies_of form) (policy_fields_of form) (policy_codec_of form) book (policies_at form book + 1) (count_at book (policies_at form book))) (ltb-false _ _ s.third.in_range);
        codes = each fits_code (values_at codes book (front form)) (entries_fit codes code_fields code_codec book (front form + 1) n bytes);
        codes_ascend = codes_sound 0 (values_at codes book (front form)) s.first.values;
        staff = each (λ row h. (fits-row (form_has_persons form) row h).0) people fit;
        staff_ascends = held.0;
        persons = each (λ row h. (fits-row (form_has_persons form) row h).1) people fit;
        own = each (λ row h. (fits-row (form_has_persons form) row h).2) people fit;
        holdings = rw listed held.1;
        sound = rw listed (policies_sound (form_has_editions form) n None (values_at (policies_of form) book (policies_at form book)) s.third.values);
        editions = each (fits_edition (form_has_editions form)) (values_at (policies_of form) book (policies_at form book))
            (entries_fit (policies_of form) (policy_fields_of form) (policy_codec_of form) book (policies_at form book + 1) (count_at book (policies_at form book)) bytes);
      }

-- ---- the form is told by the first byte

first_byte : (lead : ℕ) (book : List ℕ) → get_or book 0 0 ≡ lead → 1 ≤ length book → take 1 book ≡ lead ∷ []
first_byte lead [] e h = absurd (omega arith)
first_byte lead (x ∷ l) e h = ap (λ (y : ℕ). y ∷ []) e

form_lead : (book : List ℕ) → front (form_of book) ≤ length book → take (front (form_of book)) book ≡ lead (form_of book)
unfolding form_of
form_lead book h = go (eqb (get_or book 0 0) 200) (eqb (get_or book 0 0) 201) refl refl h
  where
    go : (b c : Bool) → eqb (get_or book 0 0) 200 ≡ b → eqb (get_or book 0 0) 201 ≡ c → front (form_by b c) ≤ length book
        → take (front (form_by b c)) book ≡ lead (form_by b c)
    go true c e f h = first_byte 200 book (eqb-true (get_or book 0 0) 200 e) h
    go false true e f h = first_byte 201 book (eqb-true (get_or book 0 0) 201 f) h
    go false false e f h = refl

-- the form of a book that starts with this byte
abbrev pub form_from : ℕ → Form
form_from first = form_by (eqb first 200) (eqb first 201)

pub by_lead : (form : Form) (np : ℕ) (rest : List ℕ) → (form ≡ Old → (np ≢ 200) × (np ≢ 201)) → form_from (get_or (lead form ++ (np ∷ rest)) 0 0) ≡ form
by_lead Old np rest n = ap₂ form_by (ne_eqb np 200 (n refl).0) (ne_eqb np 201 (n refl).1)
by_lead Persons np rest n = refl
by_lead Editions np rest n = refl

-- "an old one, which can't start so": the form that was written is read
pub laid_form : (v : Contents) (book : List ℕ) → LayoutOf v book → form_of book ≡ v.form
unfolding form_of bytes_of
laid_form v book l =
    let few = l.admitted.permissions in
    ap (λ (b : List ℕ). form_from (get_or b 0 0)) l.bytes ∙ by_lead v.form (length v.codes) _ (λ old. (λ many. omega (arith, few), λ many. omega (arith, few)))

pub lead-front : (form : Form) → length (lead form) ≡ front form
lead-front Old = refl
lead-front Persons = refl
lead-front Editions = refl

-- ---- a layout is a book without fault, and its values are read back

-- what is known of a book that is the layout of admitted values
pub record Laid (v : Contents) (book : List ℕ) : Type 0 where
  pub form : form_of book ≡ v.form
  pub sound : BookSound v.form book
  pub contents : contents_by v.form book ≡ v
  pub starts : starts_of v.form book ≡ starts_for v

outside_not : (most n : ℕ) → 1 ≤ n → n ≤ most → outside most n ≡ false
outside_not most n some few =
    let n≢0 : n ≡ 0 → ⊥ = λ e. omega arith in
    rw (ne_eqb n 0 n≢0, le-ltb most n few)

starts_at : {f f' r r' p p' : ℕ} → f ≡ f' → r ≡ r' → p ≡ p'
    → ◌≡◌ {A = Starts} (record { permissions = f; rows = r; policies = p }) (record { permissions = f'; rows = r'; policies = p' })
starts_at d e h = rw (d, e, h)

pub laid : (v : Contents) (book : List ℕ) → LayoutOf v book → Laid v book
unfolding bytes_of contents_by
laid v book l =
    let a = l.admitted in
    let form = v.form in
    let np = length v.codes in
    let sec1 = section code_widths code_fields v.codes in
    let sec2 = section (row_widths (form_has_persons form)) (row_fields_of form) v.rows in
    let sec3 = section (policy_widths (form_has_editions form)) (policy_fields_of form) v.policies in
    let begins = lead-front form in
    let first : front form ≡ 0 + length (lead form) = omega arith in
    let after-lead : drop (front form) book ≡ sec1 ++ (sec2 ++ sec3) =
    ap (λ (k : ℕ). drop k book) first ∙ after book 0 (lead form) (sec1 ++ (sec2 ++ sec3)) l.bytes in
    let fit1 = each code_fits v.codes a.codes in
    let fit2 = each (row_fits (form_has_persons form) np a.permissions) v.rows
    (each-row-fits (form_has_persons form) np v.rows a.staff a.persons a.own a.holdings) in
    let fit3 = each_policy_fits (form_has_editions form) np a.permissions v.policies a.sound a.editions in
    let one = section_read codes code_fields code_codec v.codes book (front form) (sec2 ++ sec3) fit1 after-lead in
    let two = section_read (rows_of form) (row_fields_of form) (row_codec_of form) v.rows book (rows_at form book) sec3 fit2 one.left in
    let three = section_read (policies_of form) (policy_fields_of form) (policy_codec_of form) v.policies book (policies_at form book) [] fit3 (two.left ∙ sym (append-nil sec3)) in
    let lead-long = length-append (lead form) (sec1 ++ (sec2 ++ sec3)) in
    let long : length book ≡ length (lead form) + (length sec1 + (length sec2 + length sec3)) =
    ap length l.bytes ∙ omega (arith, lead-long, length-append sec1 (sec2 ++ sec3), length-append sec2 sec3) in
    let end1 = one.ends in
    let end2 = two.ends in
    let end3 = three.ends in
    record {
      form = laid_form v book l;
      sound = record {
        first = record {
          in_range = ap (outside permission_limit) one.count ∙ outside_not permission_limit np a.some a.permissions;
          whole = omega arith;
          values = rw one.values (sound_codes 0 v.codes a.codes_ascend);
        };
        second = record {
          in_range = ap (ltb row_limit) two.count ∙ le-ltb _ _ a.rows;
          whole = omega arith;
          values = rw (one.count, two.values) (sound_rows (form_has_persons form) np v.rows a.staff_ascends a.holdings);
        };
        third = record {
          in_range = ap (ltb policy_limit) three.count ∙ le-ltb _ _ a.policies;
          whole = omega arith;
          values = rw (one.count, three.values) (sound_policies (form_has_editions form) np None v.policies a.sound);
        };
        ends = omega arith;
      };
      contents = rw (one.values, two.values, three.values);
      starts = starts_at (sym begins) (omega (arith, length-append (lead form) sec1))
          (omega (arith, length-append (lead form) (sec1 ++ sec2), length-append sec1 sec2));
    }

-- ---- the reply

-- a book is without fault, and the reply is good, or it has a first fault, and that is the reply
pub record Good (book : List ℕ) : Type 0 where
  pub reply : read_of book ≡ Ok (starts_of (form_of book) book)
  pub sound : BookSound (form_of book) book

pub record Refused (book : List ℕ) : Type 0 where
  pub fault : Fault
  pub place : ℕ
  pub reply : read_of book ≡ refused fault place
  pub first : FirstFault book fault place

pub first_fault_refused : (book : List ℕ) (f : Fault) (at : ℕ) → FirstFault book f at → read_of book ≡ refused f at
unfolding read_of
first_fault_refused book f at h =
    ap (first_fault (starts_of (form_of book) book)) h.order
    ∙ first_faulty (starts_of (form_of book) book) h.before f at h.after h.sound

pub reply : (book : List ℕ) → Good book ⊎ Refused book
unfolding read_of
reply book = go (split (looks book))
  where
    go : AllSound (looks book) ⊎ Split (looks book) → Good book ⊎ Refused book
    go (inl s) = inl record { reply = all_sound (starts_of (form_of book) book) (looks book) s; sound = sound_book (form_of book) book s }
    go (inr s) =
        let h : FirstFault book s.fault s.place =
        record { before = s.before; after = s.after; order = s.order; sound = s.sound } in
        inr record { fault = s.fault; place = s.place; reply = first_fault_refused book s.fault s.place h; first = h }

same_refusal : {e d : FaultAt} → ◌≡◌ {A = Result Starts FaultAt} (Err e) (Err d) → e ≡ d
same_refusal h = cc

-- "refused with its number and the place": exactly the first fault
pub refused_first_fault : (book : List ℕ) (f : Fault) (at : ℕ) → (read_of book ≡ refused f at) ↔ FirstFault book f at
refused_first_fault book f at = (λ e. go e (reply book), first_fault_refused book f at)
  where
    go : read_of book ≡ refused f at → Good book ⊎ Refused book → FirstFault book f at
    go e (inl g) = let h = g.reply in let z : ◌≡◌ {A = ℕ} 0 1 = cc in absurd (omega arith)
    go e (inr r) =
        subst (λ (x : FaultAt). FirstFault book x.fault x.place) (same_refusal (sym r.reply ∙ e)) r.first

-- the layout of admitted values is good, and starts where they say
pub layout_good : (v : Contents) (book : List ℕ) → LayoutOf v book → read_of book ≡ Ok (starts_for v)
unfolding read_of
layout_good v book l =
    let h = laid v book l in
    ap (λ (f : Form). read_by f book) h.form
    ∙ all_sound (starts_of v.form book) (looks_by v.form book) (book_sound v.form book h.sound)
    ∙ ap Ok h.starts

-- a good book is the layout of the values that are read from it
pub good_layout : (book : List ℕ) (s : Starts) → Bytes book → read_of book ≡ Ok s → LayoutOf (contents_of book) book
good_layout book s bytes e = go (reply book)
  where
    go : Good book ⊎ Refused book → LayoutOf (contents_of book) book
    go (inl g) =
        let s = g.sound in
        record { admitted = sound_admitted (form_of book) book bytes s; bytes = sound_bytes (form_of book) book bytes (form_lead book (front_within (form_of book) book s)) s }
    go (inr r) = let h = r.reply in let z : ◌≡◌ {A = ℕ} 0 1 = cc in absurd (omega arith)

-- "A good book is one that is the layout of admitted values"
pub good_iff_layout : (book : List ℕ) → Bytes book → ((s : Starts) × (read_of book ≡ Ok s)) ↔ ((v : Contents) × LayoutOf v book)
good_iff_layout book bytes =
    (λ (s, e). (contents_of book, good_layout book s bytes e), λ (v, l). (starts_for v, layout_good v book l))

-- the values of a book are those that are read from it, so they are unique
pub layout_values : (v : Contents) (book : List ℕ) → LayoutOf v book → contents_of book ≡ v
layout_values v book l = let h = laid v book l in ap (λ (f : Form). contents_by f book) h.form ∙ h.contents

pub layout_unique : (v w : Contents) (book : List ℕ) → LayoutOf v book → LayoutOf w book → v ≡ w
layout_unique v w book l m = sym (layout_values v book l) ∙ layout_values w book m

-- ---- every byte string has exactly one reply

pub allowed : (book : List ℕ) → Allows book (read_of book)
allowed book = record { good = λ v l. layout_good v book l; refused = λ f at h. first_fault_refused book f at h }

pub replies_equal : (book : List ℕ) (r s : Result Starts FaultAt) → Bytes book → Allows book r → Allows book s → r ≡ s
replies_equal book r s bytes a b = go (reply book)
  where
    go : Good book ⊎ Refused book → r ≡ s
    go (inl g) =
        let l = good_layout book (starts_of (form_of book) book) bytes g.reply in
        a.good (contents_of book) l ∙ sym (b.good (contents_of book) l)
    go (inr h) = a.refused h.fault h.place h.first ∙ sym (b.refused h.fault h.place h.first)
