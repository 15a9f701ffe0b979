-- s, d, t or an edition that does not go into its byte: the layout could not say it, and the fault is 3, 4, 5 or 25 of that policy or an earlier one.
-- Assumes nothing.
use Rattle.std.specs.Prelude.{◌≡◌, refl, ◌⊎◌, Bool, true, false, List, [], ◌∷◌, ◌++◌, ℕ, eqb, length, Err, Ok, Result, Option, Some, None}
use Rattle.std.proofs.Common.{ap, ◌∙◌, inl, inr, arith}
use Rattle.roster.specs.Refusals.{own_ruling, made_by}
use Rattle.roster.specs.declared.Policy.{Policy}
use Rattle.roster.specs.declared.Refusal.{Refusal}
use Rattle.roster.specs.declared.Refusal.TheVariants as refusal
use Rattle.book.specs.Layout.{Contents}
use Rattle.book.specs.Faults.{fault_number}
use Rattle.book.specs.Reading.{amiss_if, past_listed, by_made, codes, rows_of, policies_of}
use Rattle.book.specs.declared.Form.{Form}
use Rattle.book.specs.declared.Fault.{Fault}
use Rattle.book.specs.declared.Fault.TheVariants as fault
use Rattle.values.specs.Writing.{value_looks, section_in, first_of, fault_in}
use Rattle.values.specs.Promises.{Wide, ByteNumber, looks_to}
use Rattle.values.specs.Laws.First.{or_else}
use Rattle.values.specs.Laws.Policies.{MayRule, own_ruling_lem, wide_not_admitted}
use Rattle.book.specs.declared.Amiss.{Amiss}

-- ---- the look at such a policy

-- what is looked at of P, before s, d, t and the edition
abbrev task_look : Bool → Bool → Result Unit Amiss
task_look past zeroTask = amiss_if past fault.Task 0 (amiss_if zeroTask (fault.Policy refusal.Task) 0 (Ok tt))

-- a fault of s, d, t or the edition
record Narrowed (l m : List (Result Unit Amiss)) : Type 0 where
  fault : Fault
  number : ByteNumber (fault_number fault)
  told : first_of l ≡ or_else (first_of m) (Some fault)

-- P tells its fault, and else s, d, t or the edition does
told_of_lem : (past zeroTask : Bool) (r : Result Unit Refusal) (p : Policy) (more : List (Result Unit Amiss)) → MayRule zeroTask r → (r ≡ Ok tt → ⊥)
    → Narrowed (amiss_if past fault.Task 0 (by_made (made_by r p)) ∷ more) (task_look past zeroTask ∷ [])
unfolding first_of
told_of_lem past zeroTask (Ok tt) p more m n = absurd (n refl)
told_of_lem true zeroTask (Err x) p more m n = record { fault = fault.Policy refusal.Away; number = inl (omega arith, omega arith); told = refl }
told_of_lem false true (Err x) p more m n =
    record { fault = fault.Policy refusal.Away; number = inl (omega arith, omega arith); told = ap (λ (y : Refusal). Some (fault.Policy y)) m }
told_of_lem false false (Err x) p more m n = record { fault = fault.Policy x; number = m; told = refl }

-- ---- behind all that comes before it

-- the same behind the same
behind : (l m : List (Result Unit Amiss)) (o : Option Fault) (k : List (Result Unit Amiss)) → first_of l ≡ or_else (first_of m) o → first_of (k ++ l) ≡ or_else (first_of (k ++ m)) o
unfolding first_of
behind l m o [] e = e
behind l m o (Ok t ∷ k) e = behind l m o k e
behind l m o (Err y ∷ k) e = refl

-- the looks at policies, parted before one of them: none looks at the one before
parted : (form : Form) (listed : ℕ) (prior : Option Policy) (before after : List Policy) (p : Policy)
    → value_looks (policies_of form) listed prior (before ++ (p ∷ after))
    ≡ value_looks (policies_of form) listed prior before ++ ((policies_of form).faults listed None p ∷ value_looks (policies_of form) listed (Some p) after)
unfolding value_looks
parted form listed prior [] after p = refl
parted form listed prior (q ∷ before) after p =
    ap (λ (l : List (Result Unit Amiss)). (policies_of form).faults listed prior q ∷ l) (parted form listed (Some q) before after p)

-- the fault that is told, and which it is
pub record WideRefused (v : Contents) (before : List Policy) (p : Policy) : Type 0 where
  pub fault : Fault
  pub told : fault_in v ≡ Some fault
  pub which : (first_of (looks_to v before p) ≡ Some fault) ⊎ ByteNumber (fault_number fault)

pub wide_refused : (v : Contents) (before after : List Policy) (p : Policy) → v.policies ≡ before ++ (p ∷ after) → Wide p → WideRefused v before p
wide_refused v before after p e wide =
    let listed = length v.codes in
    let kind = policies_of v.form in
    let more = value_looks kind listed (Some p) after in
    let own = told_of_lem (past_listed listed p.task) (eqb p.task 0) (own_ruling p) p more (own_ruling_lem p) (wide_not_admitted p wide) in
    let count = amiss_if (kind.out_of_range (length v.policies)) kind.count_fault 0 (Ok tt) in
    let one = section_in codes 0 v.codes in
    let two = section_in (rows_of v.form) listed v.rows in
    let last = Some own.fault in
    let mine = kind.faults listed None p ∷ more in
    let task = task_look (past_listed listed p.task) (eqb p.task 0) ∷ [] in
    let earlier = value_looks kind listed None before in
    let there =
    behind _ _ last one (behind _ _ last two (behind _ _ last (count ∷ []) (behind mine task last earlier own.told))) in
    let same : value_looks kind listed None v.policies ≡ earlier ++ mine =
    ap (value_looks kind listed None) e ∙ parted v.form listed None before after p in
    go own.fault own.number (first_of (looks_to v before p)) refl (ap (λ (l : List (Result Unit Amiss)). first_of (one ++ (two ++ (count ∷ l)))) same ∙ there)
  where
    go : (f : Fault) → ByteNumber (fault_number f) → (o : Option Fault) → first_of (looks_to v before p) ≡ o
        → fault_in v ≡ or_else (first_of (looks_to v before p)) (Some f) → WideRefused v before p
    go f n None o h = record { fault = f; told = h ∙ ap (λ (x : Option Fault). or_else x (Some f)) o; which = inr n }
    go f n (Some g) o h = record { fault = g; told = h ∙ ap (λ (x : Option Fault). or_else x (Some f)) o; which = inl o }
