-- The form, the codes, the accounts, the policies and the rows of a book are its values; a refused book has none. Assumes nothing.
use Rattle.std.specs.Prelude.{◌≡◌, refl, List, [], ◌∷◌, length, Option, Some, None, Result}
use Rattle.std.proofs.Common.{sym, ◌∙◌, arith}
use Rattle.std.proofs.Math.Path.{ap, ap₂, fun_ext}
use Rattle.std.proofs.Math.Option.{some}
use Prim.Native.Nat.{ℕ, zero, suc, ◌+◌}
use Rattle.std.proofs.Math.ListN.{get_elem?, get_or-eq_default}
use Rattle.sets.specs.Arrays.{tabulate}
use Rattle.roster.specs.Limits.{row_limit}
use Rattle.roster.specs.Refusals.{made_by}
use Rattle.roster.specs.declared.Policy.{Policy}
use Rattle.accounts.specs.declared.Accounts.{Accounts}
use Rattle.book.specs.Layout.{Contents, Each, PolicyFits, LayoutOf}
use Rattle.book.specs.Reading.{codes, rows_of, policies_of, width, entry_at, count_at, form_of, front, read_of, starts_of, refused}
use Rattle.book.specs.Parts.{values_at, contents_by, starts_in, starts_by, place_of, code_from, code_count_of, row_place, row_from, row_by_number, row_or0, accounts_in, policy_count_of, listed_by, policy_from, policy_place, policy_at}
use Rattle.book.specs.Promises.{answered, accounts_for, PartsOf, nothing}
use Rattle.book.specs.Laws.Sections.{entries_length}
use Rattle.book.proofs.Laws.Values.{code_codec}
use Rattle.book.proofs.Laws.Books.{rows_at, policies_at, row_codec_of, policy_codec_of, laid, layout_good}
use Rattle.book.specs.Laws.Places.{standing, standing_value, standing-none}
use Rattle.book.specs.declared.Fault.{Fault}
use Rattle.book.specs.declared.Row.{Row}
use Rattle.book.specs.declared.Starts.{Starts}
use Rattle.roster.specs.declared.Refusal.{Refusal}

-- ---- what stands at a place decides

code_from_lem : (book : List ℕ) (p : Option ℕ) → code_from book p ≡ answered (standing codes book p)
code_from_lem book (Some at) = refl
code_from_lem book None = refl

row_from_lem : (book : List ℕ) (p : Option ℕ) → row_from book p ≡ answered (standing (rows_of (form_of book)) book p)
row_from_lem book (Some at) = refl
row_from_lem book None = refl

policy_from_lem : (book : List ℕ) (listed : ℕ) (p : Option ℕ) → ((x : Policy) → standing (policies_of (form_of book)) book p ≡ some x → PolicyFits listed x)
    → policy_from book p ≡ answered (standing (policies_of (form_of book)) book p)
policy_from_lem book listed (Some at) fits =
    let p = entry_at (policies_of (form_of book)) book at in
    ap (λ (r : Result Unit Refusal). listed_by (made_by r p)) (fits p refl).sound
policy_from_lem book listed None fits = refl

-- what is so of each is so of the one at a place
pub each_nth : {A : Type 0} (P : A → Type 0) (l : List A) (i : ℕ) (x : A) → Each P l → get_elem? l i ≡ some x → P x
unfolding Each
each_nth P [] i x h e = let z : ◌≡◌ {A = ℕ} 0 1 = cc in absurd (omega arith)
each_nth {A} P (y ∷ l) zero x h e = let same : y ≡ x = cc in rw same at h.0
each_nth P (y ∷ l) (suc i) x h e = each_nth P l i x h.1 e

-- the parts, once the codes, the rows and the policies are known by their places
module _ (v : Contents) (book : List ℕ) (listed : ℕ)
    (form : form_of book ≡ v.form)
    (codesCounted : count_at book (starts_in book).permissions ≡ length v.codes)
    (rowCount : count_at book (starts_in book).rows ≡ length v.rows)
    (policyCounted : count_at book (starts_in book).policies ≡ length v.policies)
    (code : (i : ℕ) → standing codes book (place_of (width codes) book (starts_in book).permissions i) ≡ get_elem? v.codes i)
    (row : (i : ℕ) → standing (rows_of (form_of book)) book (place_of (width (rows_of (form_of book))) book (starts_in book).rows i) ≡ get_elem? v.rows i)
    (policy : (i : ℕ) → standing (policies_of (form_of book)) book (place_of (width (policies_of (form_of book))) book (starts_in book).policies i) ≡ get_elem? v.policies i)
    (fits : Each (PolicyFits listed) v.policies) where
  seen : (i : ℕ) → row_by_number book i ≡ answered (get_elem? v.rows i)
  seen i = row_from_lem book (row_place book (starts_in book) i) ∙ ap answered (row i)

  -- the accounts are made of the rows
  accounts : accounts_in book ≡ accounts_for v
  unfolding accounts_in
  accounts =
      ap₂ {C = Accounts} (λ (f : ℕ → Row) (n : ℕ).
      record { holdings = tabulate row_limit (λ i. (f i).holdings); persons = tabulate row_limit (λ i. (f i).person); rows = n })
      (fun_ext (λ i. ap row_or0 (seen i))) rowCount

  parts : PartsOf v book
  unfolding code_count_of policy_count_of policy_at
  parts = record {
    form = form;
    codes = codesCounted;
    code = λ i. code_from_lem book (place_of (width codes) book (starts_in book).permissions i) ∙ ap answered (code i);
    accounts = accounts;
    policies = policyCounted;
    policy = λ i.
        policy_from_lem book listed (policy_place book (starts_in book).policies i)
        (λ x e. each_nth (PolicyFits listed) v.policies i x fits (sym (policy i) ∙ e))
        ∙ ap answered (policy i);
    row = seen;
  }

-- ---- a good book has the parts of its values

starts_good : (v : Contents) (book : List ℕ) → LayoutOf v book → starts_in book ≡ starts_of v.form book
unfolding starts_in
starts_good v book l = ap (starts_by book) (layout_good v book l) ∙ sym (laid v book l).starts

pub layout_parts : (v : Contents) (book : List ℕ) → LayoutOf v book → PartsOf v book
unfolding contents_by
layout_parts v book l =
    let form = v.form in
    let h = laid v book l in
    let s = starts_good v book l in
    let codesStart : (starts_in book).permissions ≡ front form = ap (λ (x : Starts). x.permissions) s in
    let rowsStart : (starts_in book).rows ≡ rows_at form book = ap (λ (x : Starts). x.rows) s in
    let policiesStart : (starts_in book).policies ≡ policies_at form book = ap (λ (x : Starts). x.policies) s in
    let codeValues : values_at codes book (front form) ≡ v.codes = ap (λ (x : Contents). x.codes) h.contents in
    let rowValues : values_at (rows_of form) book (rows_at form book) ≡ v.rows = ap (λ (x : Contents). x.rows) h.contents in
    let policyValues : values_at (policies_of form) book (policies_at form book) ≡ v.policies = ap (λ (x : Contents). x.policies) h.contents in
    parts v book (length v.codes) h.form
    (rw codesStart (sym (entries_length codes _ code_codec book (front form + 1) (count_at book (front form))) ∙ ap length codeValues))
    (rw rowsStart (sym (entries_length (rows_of form) _ (row_codec_of form) book (rows_at form book + 1) (count_at book (rows_at form book))) ∙ ap length rowValues))
    (rw policiesStart (sym (entries_length (policies_of form) _ (policy_codec_of form) book (policies_at form book + 1) (count_at book (policies_at form book))) ∙ ap length policyValues))
    (λ i. rw codesStart (standing_value codes book (front form) i h.sound.first.whole ∙ ap (λ (x : List ℕ). get_elem? x i) codeValues))
    (λ i. rw (h.form, rowsStart) (standing_value (rows_of form) book (rows_at form book) i h.sound.second.whole ∙ ap (λ (x : List Row). get_elem? x i) rowValues))
    (λ i. rw (h.form, policiesStart) (standing_value (policies_of form) book (policies_at form book) i h.sound.third.whole ∙ ap (λ (x : List Policy). get_elem? x i) policyValues))
    l.admitted.sound

-- ---- a refused book has none

pub refused_parts : (book : List ℕ) (f : Fault) (at : ℕ) → read_of book ≡ refused f at → PartsOf (nothing (form_of book)) book
unfolding starts_in Each
refused_parts book f at e =
    let s = ap (starts_by book) e in
    let codesStart : (starts_in book).permissions ≡ length book = ap (λ (x : Starts). x.permissions) s in
    let rowsStart : (starts_in book).rows ≡ length book = ap (λ (x : Starts). x.rows) s in
    let policiesStart : (starts_in book).policies ≡ length book = ap (λ (x : Starts). x.policies) s in
    let none-there = get_or-eq_default book 0 {n = length book} (omega arith) in
    parts (nothing (form_of book)) book 0 refl
    (rw codesStart none-there)
    (rw rowsStart none-there)
    (rw policiesStart none-there)
    (λ i. rw codesStart (standing-none codes book (length book) i (omega arith)))
    (λ i. rw rowsStart (standing-none (rows_of (form_of book)) book (length book) i (omega arith)))
    (λ i. rw policiesStart (standing-none (policies_of (form_of book)) book (length book) i (omega arith)))
    tt
