-- Laws of the looks at values: entry by entry they are the looks at the lists that are meant, and the first fault of a section ends it.
-- Assumes nothing.
use Rattle.std.specs.Prelude.{Option, Some, None, Result, Ok, Err}
use mathlib.Core.Path.{◌≡◌, refl, sym, ap, ap₂, ◌∙◌, fun_ext, subst}
use mathlib.Core.Bool.{false}
use mathlib.Core.Logic.{◌≢◌}
use mathlib.Core.List.{List, ◌∷◌, ◌++◌}
use Prim.Native.Nat.{ℕ, zero, suc, ◌+◌, ◌-◌, ◌≤◌, ◌<◌}
use native.Mathlib.Decide.{ℕ_discrete}
use native.Mathlib.Omega.{arith}
use lib.Dec.{leb}
use borrow.Author.Tests.{ltb-false}
use Rattle.sets.specs.Arrays.{tabulate}
use Rattle.sets.specs.Laws.Arrays.{length-tabulate}
use Rattle.roster.proofs.Laws.Rulings.{inside}
use Rattle.book.specs.Reading.{Kind, codes, rows_of, policies_of, amiss_if, not_above, staff_of}
use Rattle.book.specs.Inner.Steps.{count_amiss_in}
use Rattle.book.specs.Laws.First.{not_amiss}
use Rattle.book.specs.declared.Form.{Form}
use Rattle.book.specs.declared.Form.TheVariants.{Old, Persons, Editions}
use Rattle.book.specs.declared.Row.{Row}
use Rattle.book.specs.declared.Fault.{Fault}
use Rattle.book.specs.declared.Section.{Section}
use Rattle.book.specs.declared.Section.TheVariants.{Permissions, Rows, Policies}
use Rattle.values.specs.Values.{row_for, contents_for}
use Rattle.values.specs.Writing.{value_looks, section_in, first_of, fault_in}
use Rattle.values.specs.Laws.First.{or_else, first-append, neither, none_head}
use Rattle.values.specs.Inner.Looks.{limit_in, count_of, Counted, code_in, row_in, policy_in, prior_to, lead_of, stays_at, look_with, section_looks, told}
use Rattle.values.specs.declared.Values.{Values}
use Rattle.book.specs.declared.Amiss.{Amiss}

-- ---- one entry

-- an index is within the section that it is known to be of
pub within : {s t : Section} {i : ℕ} → s ≡ t → i < limit_in s → i < limit_in t
within {i = i} e l = subst (λ (x : Section). i < limit_in x) e l

-- how the number that an entry starts with stands to the one before
pub first-stays : (v : Values) (section : Section) (i : ℕ) → i ≡ 0 → false ≡ stays_at v section i
first-stays v section i e = sym (ap (stays_at v section) e)

pub stays_by : {x y : ℕ} (v : Values) (section : Section) (i : ℕ) → i ≢ 0 → x ≡ lead_of v section i → y ≡ lead_of v section (i - 1)
    → leb x y ≡ stays_at v section i
stays_by v section zero n hx hy = absurd (n refl)
stays_by v section (suc i) n hx hy =
    let here : suc i - 1 ≡ i = omega arith in
    ap₂ leb hx (hy ∙ ap (lead_of v section) here)

-- the staff number of the row before is the number that it starts with
pub staff_before : (v : Values) (i : ℕ) → stays_at v Rows i ≡ not_above (staff_of (prior_to (row_in v) i)) (row_in v i).staff
staff_before v zero = refl
staff_before v (suc i) = refl

-- ---- by index

-- the one before, where another comes before the first
abbrev after : {A : Type 0} → Option A → (ℕ → A) → ℕ → Option A
after b f zero = b
after b f (suc i) = Some (f i)

module _ {A : Type 0} (kind : Kind A) (listed : ℕ) where
  looks-after : (b : Option A) (n : ℕ) (f : ℕ → A)
      → value_looks kind listed b (tabulate n f) ≡ tabulate n (λ i. kind.faults listed (after b f i) (f i))
  unfolding value_looks tabulate
  looks-after b zero f = refl
  looks-after b (suc n) f =
      ap (λ (l : List (Result Unit Amiss)). kind.faults listed b (f 0) ∷ l)
      (looks-after (Some (f 0)) n (λ i. f (suc i))
      ∙ ap (tabulate n) (fun_ext (λ i. ap (λ (o : Option A). kind.faults listed o (f (suc i))) (shift i))))
    where
      shift : (i : ℕ) → after (Some (f 0)) (λ i. f (suc i)) i ≡ Some (f i)
      shift zero = refl
      shift (suc i) = refl

  first_has_none : (f : ℕ → A) (i : ℕ) → after None f i ≡ prior_to f i
  first_has_none f zero = refl
  first_has_none f (suc i) = refl

  pub looks_by_index : (n : ℕ) (f : ℕ → A) → value_looks kind listed None (tabulate n f) ≡ tabulate n (look_with kind listed f)
  looks_by_index n f =
      looks-after None n f ∙ ap (tabulate n) (fun_ext (λ i. ap (λ (o : Option A). kind.faults listed o (f i)) (first_has_none f i)))

-- ---- the first fault

-- of the looks at entries in their order
pub first-at : (n : ℕ) (look : ℕ → Result Unit Amiss) (i : ℕ) (e : Amiss) → i < n → ((j : ℕ) → j < i → look j ≡ Ok tt) → look i ≡ Err e
    → first_of (tabulate n look) ≡ Some e.fault
unfolding first_of tabulate
first-at zero look i x l h e = absurd (omega arith)
first-at (suc n) look zero x l h e = rw e
first-at (suc n) look (suc i) x l h e =
    rw (h 0 (omega arith)) (first-at n (λ j. look (suc j)) i x (omega arith) (λ j m. h (suc j) (omega arith)) e)

pub first-none : (n : ℕ) (look : ℕ → Result Unit Amiss) → ((j : ℕ) → j < n → look j ≡ Ok tt) → first_of (tabulate n look) ≡ None
unfolding first_of tabulate
first-none zero look h = refl
first-none (suc n) look h = rw (h 0 (omega arith)) (first-none n (λ j. look (suc j)) (λ j k. h (suc j) (omega arith)))

-- one more without a fault
pub one_more : (look : ℕ → Result Unit Amiss) (i : ℕ) → ((j : ℕ) → j < i → look j ≡ Ok tt) → look i ≡ Ok tt → (j : ℕ) → j < i + 1 → look j ≡ Ok tt
one_more look i h e j l = go (ℕ_discrete j i)
  where
    go : Dec (j ≡ i) → look j ≡ Ok tt
    go (yes q) = ap look q ∙ e
    go (no n) = h j (omega arith)

-- of a look and those after it
pub first_faulty : {x : Result Unit Amiss} {y : Amiss} (l : List (Result Unit Amiss)) → x ≡ Err y → first_of (x ∷ l) ≡ Some y.fault
unfolding first_of
first_faulty l e = rw e

pub first_sound : {x : Result Unit Amiss} (l : List (Result Unit Amiss)) → x ≡ Ok tt → first_of (x ∷ l) ≡ first_of l
unfolding first_of
first_sound l e = rw e

-- of looks and those after them
pub append_by : {o : Option Fault} (l m : List (Result Unit Amiss)) → first_of l ≡ o → first_of (l ++ m) ≡ or_else o (first_of m)
append_by l m e = first-append l m ∙ ap (λ (x : Option Fault). or_else x (first_of m)) e

-- what is told says which it is
pub told_faulty : {f : Fault} (o : Option Fault) → told o ≡ Err f → o ≡ Some f
told_faulty None e = let z : ◌≡◌ {A = ℕ} 0 1 = cc in cc
told_faulty (Some g) e = cc

pub told_sound : (o : Option Fault) → told o ≡ Ok tt → o ≡ None
told_sound None e = refl
told_sound (Some g) e = let z : ◌≡◌ {A = ℕ} 0 1 = cc in cc

-- ---- all sections

-- the looks at a section are those at the list that is meant
section-looks : {A : Type 0} (kind : Kind A) (listed listed' n : ℕ) (f : ℕ → A) → listed ≡ listed'
    → section_in kind listed (tabulate n f) ≡ amiss_if (kind.out_of_range n) kind.count_fault 0 (Ok tt) ∷ tabulate n (look_with kind listed' f)
section-looks kind listed listed' n f e =
    ap₂ (λ (k : ℕ) (l : List (Result Unit Amiss)). amiss_if (kind.out_of_range k) kind.count_fault 0 (Ok tt) ∷ l)
    (length-tabulate n f)
    (looks_by_index kind listed n f ∙ ap (λ (k : ℕ). tabulate n (look_with kind k f)) e)

abbrev pub all_looks : Values → List (Result Unit Amiss)
all_looks v = section_looks v Permissions ++ (section_looks v Rows ++ section_looks v Policies)

-- what is looked at in a row is in the fields of every form
row_look : (form : Form) (listed : ℕ) (f : ℕ → Row) (i : ℕ) → look_with (rows_of form) listed (λ j. row_for form (f j)) i ≡ look_with (rows_of form) listed f i
row_look Old listed f zero = refl
row_look Old listed f (suc i) = refl
row_look Persons listed f zero = refl
row_look Persons listed f (suc i) = refl
row_look Editions listed f zero = refl
row_look Editions listed f (suc i) = refl

pub fault_by_sections : (v : Values) → fault_in (contents_for v) ≡ first_of (all_looks v)
unfolding contents_for
fault_by_sections v =
    let listed = length-tabulate (count_of v Permissions) (code_in v) in
    let n = v.code_count in
    let bare = ap (tabulate (count_of v Rows)) (fun_ext (row_look v.form n (row_in v))) in
    ap first_of
    (ap₂ (λ (l m : List (Result Unit Amiss)). l ++ m) (section-looks codes 0 0 (count_of v Permissions) (code_in v) refl)
    (ap₂ (λ (l m : List (Result Unit Amiss)). l ++ m) (section-looks (rows_of v.form) _ n (count_of v Rows) (λ i. row_for v.form (row_in v i)) listed ∙ ap (λ (l : List (Result Unit Amiss)). count_amiss_in Rows (count_of v Rows) ∷ l) bare)
    (section-looks (policies_of v.form) _ v.code_count (count_of v Policies) (policy_in v) listed)))

-- a count that nothing is amiss with is within its limit
pub count_within : (section : Section) (n : ℕ) → count_amiss_in section n ≡ Ok tt → n ≤ limit_in section
count_within Permissions n e = (inside _ n (not_amiss _ _ _ _ e).0).1
count_within Rows n e = ltb-false _ _ (not_amiss _ _ _ _ e).0
count_within Policies n e = ltb-false _ _ (not_amiss _ _ _ _ e).0

-- what is told of a section's count, by what it is known to be
pub count_told : {r t : Result Unit Amiss} {n : ℕ} (section : Section) (m : ℕ) → r ≡ count_amiss_in section n → n ≡ m → r ≡ t → count_amiss_in section m ≡ t
count_told section m e h w = ap (count_amiss_in section) (sym h) ∙ sym e ∙ w

-- values without a fault have no more entries than there is room for
pub sound_counted : (v : Values) → fault_in (contents_for v) ≡ None → Counted v
sound_counted v e = go
  where
    parts : (first_of (section_looks v Permissions) ≡ None) × (first_of (section_looks v Rows ++ section_looks v Policies) ≡ None)
    parts = neither _ _ (sym (first-append (section_looks v Permissions) _) ∙ sym (fault_by_sections v) ∙ e)

    others : (first_of (section_looks v Rows) ≡ None) × (first_of (section_looks v Policies) ≡ None)
    others = neither _ _ (sym (first-append (section_looks v Rows) _) ∙ parts.1)

    go : Counted v
    go Permissions = count_within Permissions _ (none_head _ _ parts.0).0
    go Rows = count_within Rows _ (none_head _ _ others.0).0
    go Policies = count_within Policies _ (none_head _ _ others.1).0
