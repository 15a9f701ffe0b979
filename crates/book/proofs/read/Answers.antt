-- A section's fault is the book's; past a section without one the next decides, and in the end whether bytes follow. Assumes nothing.
use mathlib.Core.Path.{◌≡◌, refl, sym, ap, ap₂, ◌∙◌}
use mathlib.Core.List.{List, [], ◌∷◌}
use Prim.Native.Nat.{ℕ, ◌≤◌, ◌<◌}
use native.Mathlib.Omega.{arith}
use lib.ListN.{length}
use Rattle.std.specs.Prelude.{Ok, Err}
use Rattle.book.specs.Reading.{Look, refused, front, count_at, past, policies_of, looks_from_policies, looks_from_rows, end_look, first_fault, starts_of, read_by, read_of}
use Rattle.book.specs.Inner.Steps.{step_in}
use Rattle.book.specs.declared.Fault.TheVariants as fault
use Rattle.book.specs.declared.FaultAt.{FaultAt}
use Rattle.book.specs.declared.Form.{Form}
use Rattle.book.specs.declared.Section.TheVariants.{Permissions, Rows, Policies}
use Rattle.book.specs.declared.Starts.{Starts}
use Rattle.book.proofs.Looks.{passed_up, read_refused, read_on, end_excess, end_good}
use Rattle.book.proofs.read.Goals as goal

module _ (form : Form) (book : List ℕ) {permissions listed : ℕ} (begins : permissions ≡ front form) (lists : listed ≡ count_at book permissions) where
  abbrev good : Starts
  good = starts_of form book

  -- what is looked at after the codes, after the rows and after the policies, which end here
  abbrev from_rows : List Look
  from_rows = looks_from_rows form book good.rows

  abbrev from_policies : List Look
  from_policies = looks_from_policies form book good.policies

  abbrev ends : ℕ
  ends = past (policies_of form) book good.policies

  abbrev last : List Look
  last = end_look book ends ∷ []

  counts : listed ≡ count_at book (front form)
  counts = lists ∙ ap (count_at book) begins

  codes_refused : {e : FaultAt} → step_in form Permissions book 0 permissions ≡ Err e → read_by form book ≡ Err e
  codes_refused h = read_refused form Permissions book 0 (front form) good from_rows (ap (step_in form Permissions book 0) (sym begins) ∙ h)

  codes_passed : {rows : ℕ} → step_in form Permissions book 0 permissions ≡ Ok rows → (read_by form book ≡ first_fault good from_rows) × (rows ≡ good.rows)
  codes_passed h = read_on form Permissions book 0 (front form) good from_rows (ap (step_in form Permissions book 0) (sym begins) ∙ h)

  module _ {rows : ℕ} (codes : step_in form Permissions book 0 permissions ≡ Ok rows) where
    rows_refused : {e : FaultAt} → step_in form Rows book listed rows ≡ Err e → read_by form book ≡ Err e
    rows_refused h =
        (codes_passed codes).0
        ∙ read_refused form Rows book (count_at book (front form)) good.rows good from_policies (ap₂ (step_in form Rows book) (sym counts) (sym (codes_passed codes).1) ∙ h)

    rows_passed : {policies : ℕ} → step_in form Rows book listed rows ≡ Ok policies → (read_by form book ≡ first_fault good from_policies) × (policies ≡ good.policies)
    rows_passed h =
        let e = read_on form Rows book (count_at book (front form)) good.rows good from_policies (ap₂ (step_in form Rows book) (sym counts) (sym (codes_passed codes).1) ∙ h) in
        ((codes_passed codes).0 ∙ e.0, e.1)

    module _ {policies : ℕ} (people : step_in form Rows book listed rows ≡ Ok policies) where
      policies_refused : {e : FaultAt} → step_in form Policies book listed policies ≡ Err e → read_by form book ≡ Err e
      policies_refused h =
          (rows_passed people).0
          ∙ read_refused form Policies book (count_at book (front form)) good.policies good last (ap₂ (step_in form Policies book) (sym counts) (sym (rows_passed people).1) ∙ h)

      module _ {end : ℕ} (asked : step_in form Policies book listed policies ≡ Ok end) where
        policies_passed : (read_by form book ≡ first_fault good last) × (end ≡ ends)
        policies_passed =
            let e = read_on form Policies book (count_at book (front form)) good.policies good last (ap₂ (step_in form Policies book) (sym counts) (sym (rows_passed people).1) ∙ asked) in
            ((rows_passed people).0 ∙ e.0, e.1)

        follows : end < length book → read_by form book ≡ refused fault.Excess end
        follows h =
            policies_passed.0
            ∙ end_excess book ends good (omega (arith, policies_passed.1))
            ∙ ap (refused fault.Excess) (sym policies_passed.1)

        ended : length book ≤ end → read_by form book ≡ Ok (record { permissions = permissions; rows = rows; policies = policies })
        ended h =
            policies_passed.0
            ∙ end_good book ends good (omega (arith, policies_passed.1))
            ∙ sym (rw (begins, (codes_passed codes).1, (rows_passed people).1))

pub returns-in_err-rows-clause-reply : goal.returns-in_err-rows-clause-reply
unfolding read_of
returns-in_err-rows-clause-reply c = let book = c.args.book.now in
    passed_up _ c.from_residual.ensures.1
    ∙ sym (codes_refused c.form_of-form.result book {listed = count_at book c.front-permissions.result} c.front-permissions.ensures refl
    (sym c.section_step.ensures ∙ c.in_err-rows.was))
    ∙ ap (λ (x : Form). read_by x book) c.form_of-form.ensures.reply

pub returns-in_err-policies-clause-reply : goal.returns-in_err-policies-clause-reply
unfolding read_of
returns-in_err-policies-clause-reply c = let book = c.args.book.now in
    passed_up _ c.from_residual-in_err-policies.ensures.1
    ∙ sym (rows_refused c.form_of-form.result book c.front-permissions.ensures c.count_at-listed.ensures.0
    (sym c.section_step.ensures ∙ c.in_ok-rows.was)
    (sym c.section_step-2.ensures ∙ c.in_err-policies.was))
    ∙ ap (λ (x : Form). read_by x book) c.form_of-form.ensures.reply

pub returns-in_err-end-clause-reply : goal.returns-in_err-end-clause-reply
unfolding read_of
returns-in_err-end-clause-reply c = let book = c.args.book.now in
    passed_up _ c.from_residual-in_err-end.ensures.1
    ∙ sym (policies_refused c.form_of-form.result book c.front-permissions.ensures c.count_at-listed.ensures.0
    (sym c.section_step.ensures ∙ c.in_ok-rows.was)
    (sym c.section_step-2.ensures ∙ c.in_ok-policies.was)
    (sym c.section_step-3.ensures ∙ c.in_err-end.was))
    ∙ ap (λ (x : Form). read_by x book) c.form_of-form.ensures.reply

pub returns-then-end-book-clause-reply : goal.returns-then-end-book-clause-reply
unfolding read_of
returns-then-end-book-clause-reply c = let book = c.args.book.now in
    sym (follows c.form_of-form.result book c.front-permissions.ensures c.count_at-listed.ensures.0
    (sym c.section_step.ensures ∙ c.in_ok-rows.was)
    (sym c.section_step-2.ensures ∙ c.in_ok-policies.was)
    (sym c.section_step-3.ensures ∙ c.in_ok-end.was)
    c.if-end-book.true)
    ∙ ap (λ (x : Form). read_by x book) c.form_of-form.ensures.reply

pub returns-clause-reply : goal.returns-clause-reply
unfolding read_of
returns-clause-reply c = let book = c.args.book.now in
    sym (ended c.form_of-form.result book c.front-permissions.ensures c.count_at-listed.ensures.0
    (sym c.section_step.ensures ∙ c.in_ok-rows.was)
    (sym c.section_step-2.ensures ∙ c.in_ok-policies.was)
    (sym c.section_step-3.ensures ∙ c.in_ok-end.was)
    c.if-end-book.false)
    ∙ ap (λ (x : Form). read_by x book) c.form_of-form.ensures.reply
