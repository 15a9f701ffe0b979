-- Laws of the looks and of the first fault. Assumes nothing.
use Rattle.std.specs.Prelude.{Option, Some, None, Result, Ok, Err}
use mathlib.Core.Path.{◌≡◌, refl, sym, ap, ◌∙◌}
use mathlib.Core.Bool.{Bool, false}
use mathlib.Core.List.{List, [], ◌∷◌, ◌++◌}
use Prim.Native.Nat.{ℕ, zero, suc, ◌+◌, ◌-◌, ◌*◌, ◌≤◌, ◌<◌}
use native.Mathlib.Nat.{mul-suc}
use native.Mathlib.Omega.{arith}
use lib.Dec.{leb, ltb}
use lib.ListN.{length}
use borrow.Author.Tests.{ltb-false, lt-ltb, le-ltb}
use Rattle.book.specs.Reading.{number, fields_at, entry_at, prior, not_above, staff_of, fault_if, count_look, entry_look, in_turn, count_at, section_looks, past, end_look, first_fault, rows_of, Look, refused}
use Rattle.book.specs.Laws.First.{not_faulty, first-append}
use Rattle.book.specs.Inner.Steps.{lead_in, stays_in, out_in, count_in, look_in, width_in, step_from, past_entry, start_at, looks_in, past_in, step_in}
use Rattle.book.specs.declared.Form.{Form}
use Rattle.book.specs.declared.Form.TheVariants.{Old, Persons, Editions}
use Rattle.book.specs.declared.Section.{Section}
use Rattle.book.specs.declared.Section.TheVariants.{Permissions, Rows, Policies}
use Rattle.book.specs.declared.Cursor.{Cursor}
use Rattle.book.specs.declared.Fault.TheVariants as fault
use Rattle.std.specs.Result.{result_and}
use Rattle.book.specs.declared.FaultAt.{FaultAt}
use Rattle.std.proofs.lemmas.Result.{err_from_is_err_and}
use Rattle.std.specs.Result.{IsErrAnd}

-- what `?` passes up is the error that it found
pub passed_up : {T E : Type 0} (r : Result T E) {e : E} → IsErrAnd r (λ x. x ≡ e) → r ≡ Err e
passed_up r h = let p = err_from_is_err_and r h in p.1 ∙ ap Err p.2

-- a reply, and that what was lent is as it was
pub both : {A : Type 0} {lent : List ℕ} → A → A × (lent ≡ lent)
both a = (a, refl)

-- the answer that nothing is cut
pub uncut : {b : Bool} (len at wide : ℕ) → b ≡ ltb len (at + wide) → b ≡ false → at + wide ≤ len
uncut len at wide e left = ltb-false _ _ (sym e ∙ left)

-- whether a count is out of range, once the section is known
pub out_by : {b : Bool} {t : Section} (s : Section) (n : ℕ) → s ≡ t → b ≡ out_in t n → b ≡ out_in s n
out_by s n e h = h ∙ sym (ap (λ (x : Section). out_in x n) e)

-- how the number that an entry starts with stands to the one before
pub stays_by : {x y : ℕ} (section : Section) (book : List ℕ) (c : Cursor) (last : ℕ)
    → c.before ≡ Some last → x ≡ lead_in section book c.at → y ≡ lead_in section book last → leb x y ≡ stays_in section book c
stays_by section book c last e hx hy =
    rw (hx, hy) (sym (ap (λ (b : Option ℕ). not_above (prior (lead_in section book) b) (lead_in section book c.at)) e))

-- a row's staff number is the number that it starts with, in every form
staff_here : (form : Form) (book : List ℕ) (at : ℕ) → number 4 book at ≡ (entry_at (rows_of form) book at).staff
unfolding fields_at
staff_here Old book at = refl
staff_here Persons book at = refl
staff_here Editions book at = refl

staff_before : (form : Form) (book : List ℕ) (before : Option ℕ) → prior (number 4 book) before ≡ staff_of (prior (entry_at (rows_of form) book) before)
staff_before form book None = refl
staff_before form book (Some at) = ap Some (staff_here form book at)

pub staff_stays : (form : Form) (book : List ℕ) (c : Cursor)
    → stays_in Rows book c ≡ not_above (staff_of (prior (entry_at (rows_of form) book) c.before)) (entry_at (rows_of form) book c.at).staff
staff_stays form book c =
    ap (λ (o : Option ℕ). not_above o (number 4 book c.at)) (staff_before form book c.before)
    ∙ ap (not_above (staff_of (prior (entry_at (rows_of form) book) c.before))) (staff_here form book c.at)

-- a sound look was at something whole
pub whole : (book : List ℕ) (at wide place : ℕ) (rest : Look) → fault_if (ltb (length book) (at + wide)) fault.Short place rest ≡ Ok tt
    → at + wide ≤ length book
whole book at wide place rest e = ltb-false _ _ (not_faulty _ _ _ _ e).0

pub whole_count : (section : Section) (book : List ℕ) (at : ℕ) → count_in section book at ≡ Ok tt → at + 1 ≤ length book
whole_count section book at e = whole book at 1 _ _ e

pub whole_entry : (form : Form) (section : Section) (book : List ℕ) (listed : ℕ) (before : Option ℕ) (at : ℕ)
    → look_in form section book listed before at ≡ Ok tt → at + width_in form section ≤ length book
unfolding entry_look
whole_entry form Permissions book listed before at e = whole book at _ _ _ e
whole_entry form Rows book listed before at e = whole book at _ _ _ e
whole_entry form Policies book listed before at e = whole book at _ _ _ e

-- ---- one entry more

module _ (look : Option ℕ → ℕ → Look) (wide : ℕ) (c : Cursor) where
  -- none is left
  pub step_none : (n : ℕ) → n ≤ 0 → step_from look wide c n ≡ Ok c.at
  unfolding step_from first_fault in_turn
  step_none zero h = ap Ok (omega arith)
  step_none (suc n) h = absurd (omega arith)

  -- a faulty entry ends it
  pub step_faulty : (n : ℕ) (e : FaultAt) → 0 < n → look c.before c.at ≡ Err e → step_from look wide c n ≡ Err e
  unfolding step_from first_fault in_turn
  step_faulty zero e h l = absurd (omega arith)
  step_faulty (suc n) e h l = rw l

  -- a sound one is passed
  pub step_sound : (n : ℕ) → 0 < n → look c.before c.at ≡ Ok tt → step_from look wide c n ≡ step_from look wide (past_entry c wide) (n - 1)
  unfolding step_from first_fault in_turn
  step_sound zero h e = absurd (omega arith)
  step_sound (suc n) h e =
      let less : suc n - 1 ≡ n = omega arith in
      let far : c.at + wide * suc n ≡ c.at + wide + wide * n = omega (arith, mul-suc wide n) in
      rw (e, less) (ap (λ (x : ℕ). first_fault x (in_turn look wide (Some c.at) (c.at + wide) n)) far)

-- ---- one section after the other

-- a section: its count, then its entries
pub section_faulty : (form : Form) (section : Section) (book : List ℕ) (listed at : ℕ) (e : FaultAt)
    → count_in section book at ≡ Err e → step_in form section book listed at ≡ Err e
unfolding step_in section_looks count_look first_fault
section_faulty form Permissions book listed at e h = rw h
section_faulty form Rows book listed at e h = rw h
section_faulty form Policies book listed at e h = rw h

pub section_sound : (form : Form) (section : Section) (book : List ℕ) (listed at : ℕ) → count_in section book at ≡ Ok tt
    → step_in form section book listed at
    ≡ step_from (look_in form section book listed) (width_in form section) (start_at (at + 1)) (count_at book at)
unfolding step_in section_looks count_look first_fault step_from past
section_sound form Permissions book listed at e = rw e
section_sound form Rows book listed at e = rw e
section_sound form Policies book listed at e = rw e

-- ---- from a section on

-- where a step goes on, it passes on what it has
passed_on : {Q : Type 0} {n m : Q} (l : List Look) → first_fault n l ≡ Ok m → m ≡ n
unfolding first_fault
passed_on [] e = cc
passed_on (Ok t ∷ l) e = passed_on l e
passed_on (Err x ∷ l) e = cc

module _ {R : Type 0} (form : Form) (section : Section) (book : List ℕ) (listed at : ℕ) (good : R) (rest : List Look) where
  -- a section's fault is the book's
  pub read_refused : {e : FaultAt} → step_in form section book listed at ≡ Err e
      → first_fault good (looks_in form section book listed at ++ rest) ≡ Err e
  unfolding step_in
  read_refused h =
      first-append (past_in form section book at) good (looks_in form section book listed at) rest
      ∙ ap (λ (x : Result ℕ FaultAt). result_and x (first_fault good rest)) h

  -- past a section without fault the rest decides
  pub read_on : {m : ℕ} → step_in form section book listed at ≡ Ok m
      → (first_fault good (looks_in form section book listed at ++ rest) ≡ first_fault good rest) × (m ≡ past_in form section book at)
  unfolding step_in
  read_on h = (
    first-append (past_in form section book at) good (looks_in form section book listed at) rest
        ∙ ap (λ (x : Result ℕ FaultAt). result_and x (first_fault good rest)) h,
    passed_on (looks_in form section book listed at) h,
  )

-- "bytes follow the policies", or none does
pub end_excess : {R : Type 0} (book : List ℕ) (at : ℕ) (good : R) → at < length book
    → first_fault good (end_look book at ∷ []) ≡ refused fault.Excess at
unfolding first_fault
end_excess book at good h = rw (lt-ltb at (length book) h)

pub end_good : {R : Type 0} (book : List ℕ) (at : ℕ) (good : R) → length book ≤ at → first_fault good (end_look book at ∷ []) ≡ Ok good
unfolding first_fault
end_good book at good h = rw (le-ltb at (length book) h)
