-- Request 05. A refused book's place is the first byte of the field that its fault speaks of, for 11 of the first field that is not whole; no number
-- moved, and of the places only those of 3, 4, 5, 11, 16 and 25. Assumes nothing.
use Rattle.std.specs.Prelude.{◌≡◌, ◌⊎◌, Bool, true, false, ltb, Option, Some, None, Result, Ok, Err}
use Rattle.std.proofs.Math.Path.{refl, subst}
use Rattle.std.proofs.Common.{sym, ap, ◌∙◌, ltb-true, ltb-false}
use Rattle.std.proofs.Math.Logic.{inl, inr}
use mathlib.Core.List.{List, [], ◌∷◌, ◌++◌}
use Prim.Native.Nat.{ℕ, zero, suc, ◌+◌, ◌≤◌, ◌<◌}
use Rattle.std.proofs.Math.Nat.{mul-suc}
use native.Mathlib.Omega.{arith}
use Rattle.std.proofs.Math.ListN.{length}
use Rattle.roster.specs.Refusals.{made}
use Rattle.roster.specs.declared.Policy.{Policy}
use Rattle.roster.specs.declared.Refusal.{Refusal}
use Rattle.roster.specs.declared.Refusal.TheVariants as refusal
use Rattle.book.specs.Layout.{Each}
use Rattle.book.specs.Faults.{fault_number, fault_of}
use Rattle.book.specs.Reading.{Kind, total, field_place, cut_place, amiss_if, fault_if, placed, not_above, past_listed, staff_of, field_of, by_made, codes, rows_of, policies_of, width, entry_at, prior, count_look, entry_look, in_turn, count_at, section_looks, past, form_of, listed_in, end_look, looks_from_policies, looks_from_rows, looks_by, first_fault, starts_of, read_of, Look, refused}
use Rattle.book.specs.FieldPlaces.{entry_place, FieldIn, CutIn, CutSection, Points}
use Rattle.book.specs.EntryPlaces.{at_entry, entry_was, section_was, read_was, PlaceStays, Beside}
use Rattle.book.proofs.Laws.Books.{refused_first_fault}
use Rattle.book.specs.declared.Form.{Form}
use Rattle.book.specs.declared.Form.TheVariants.{Old, Persons, Editions}
use Rattle.book.specs.declared.Row.{Row}
use Rattle.book.specs.declared.Fault.{Fault}
use Rattle.book.specs.declared.Fault.TheVariants as fault
use Rattle.book.specs.declared.Starts.{Starts}
use Rattle.book.specs.declared.FaultAt.{FaultAt}
use Rattle.book.specs.declared.Amiss.{Amiss}

-- ---- fields

-- the first field starts where its entry does
field_first : (ws : List ℕ) (at : ℕ) → field_place ws at 0 ≡ at
field_first [] at = refl
field_first (w ∷ ws) at = refl

-- an entry that is cut has a first field that is
cut_in : (book ws : List ℕ) (at : ℕ) → 0 < length ws → length book < at + total ws → CutIn ws book at (cut_place ws (length book) at)
unfolding cut_place
cut_in book [] at few h = absurd (omega arith)
cut_in book (w ∷ ws) at few h = go (ltb (length book) (at + w)) refl (later ws refl (λ m n. cut_in book ws (at + w) m n))
  where
    -- the field itself is cut, or one of those after it
    later : (l : List ℕ) → ws ≡ l → (0 < length ws → length book < at + w + total ws → CutIn ws book (at + w) (cut_place ws (length book) (at + w)))
        → at + w ≤ length book → CutIn ws book (at + w) (cut_place ws (length book) (at + w))
    later [] e ih l = absurd (omega (arith, ap total e))
    later (x ∷ r) e ih l = ih (omega (arith, ap length e)) (omega arith)

    go : (b : Bool) → ltb (length book) (at + w) ≡ b → (at + w ≤ length book → CutIn ws book (at + w) (cut_place ws (length book) (at + w)))
        → CutIn (w ∷ ws) book at (elim b [ true ↦ at | false ↦ cut_place ws (length book) (at + w) ])
    go true e next = record {
      field = 0;
      known = omega arith;
      place = refl;
      missing = omega (arith, ltb-true (length book) (at + w) e, field_first ws (at + w));
      whole = λ k l. absurd (omega arith);
    }
    go false e next =
        let first = ltb-false (length book) (at + w) e in
        let rest = next first in
        record {
          field = suc rest.field;
          known = omega (arith, rest.known);
          place = rest.place;
          missing = rest.missing;
          whole = λ k l. before first rest k l;
        }
      where
        before : at + w ≤ length book → (rest : CutIn ws book (at + w) (cut_place ws (length book) (at + w))) (k : ℕ) → k < suc rest.field
            → field_place ws (at + w) k ≤ length book
        before first rest zero l = omega (arith, field_first ws (at + w))
        before first rest (suc k) l = rest.whole k (omega arith)

-- ---- where a refused book's fault is told

module _ (form : Form) (book : List ℕ) where
  -- a look points at what its fault speaks of
  abbrev Pointed : Look → Type 0
  Pointed (Ok t) = Unit
  Pointed (Err e) = Points form book e.fault e.place

  pointed_if : (b : Bool) (f : Fault) (at : ℕ) (rest : Look) → (b ≡ true → Points form book f at) → Pointed rest → Pointed (fault_if b f at rest)
  pointed_if true f at rest p q = p refl
  pointed_if false f at rest p q = q

  all_pointed : (l m : List Look) → Each Pointed l → Each Pointed m → Each Pointed (l ++ m)
  unfolding Each
  all_pointed [] m a b = b
  all_pointed (x ∷ l) m a b = (a.0, all_pointed l m a.1 b)

  pointed_in : (l m : List Look) (x : Look) → Each Pointed (l ++ (x ∷ m)) → Pointed x
  unfolding Each
  pointed_in [] m x t = t.0
  pointed_in (y ∷ l) m x t = pointed_in l m x t.1

  module _ {A : Type 0} (kind : Kind A) (start : ℕ) (fields : 0 < length kind.widths)
      (cut : (at : ℕ) → CutSection kind book start at → Points form book fault.Short at) where
    -- what is amiss with an entry of this section names the field that its fault speaks of
    abbrev Speaks : Result Unit Amiss → Type 0
    Speaks (Ok t) = Unit
    Speaks (Err e) = (at : ℕ) → FieldIn kind book start e.field at → Points form book e.fault at

    speaks_if : (b : Bool) (f : Fault) (k : ℕ) (rest : Result Unit Amiss) → ((at : ℕ) → FieldIn kind book start k at → Points form book f at) → Speaks rest
        → Speaks (amiss_if b f k rest)
    speaks_if true f k rest p q = p
    speaks_if false f k rest p q = q

    placed_pointed : (i : ℕ) (x : Result Unit Amiss) → i < count_at book start → Speaks x → Pointed (placed kind.widths (entry_place kind start i) x)
    placed_pointed i (Ok t) l s = tt
    placed_pointed i (Err e) l s = s _ (record { index = i; counted = l; place = refl })

    module _ (count : Points form book kind.count_fault start) (listed : ℕ)
        (speaks : (before : Option A) (x : A) → Speaks (kind.faults listed before x)) where
      entry_pointed : (before : Option ℕ) (i : ℕ) → i < count_at book start → Pointed (entry_look kind book listed before (entry_place kind start i))
      unfolding entry_look
      entry_pointed before i l =
          let at = entry_place kind start i in
          let last = prior (entry_at kind book) before in
          let here = kind.faults listed last (entry_at kind book at) in
          pointed_if (ltb (length book) (at + width kind)) fault.Short (cut_place kind.widths (length book) at) (placed kind.widths at here)
          (λ e. cut _ (inr (i, l, cut_in book kind.widths at fields (ltb-true _ _ e))))
          (placed_pointed i here l (speaks last (entry_at kind book at)))

      entries_pointed : (before : Option ℕ) (at n i : ℕ) → at ≡ entry_place kind start i → i + n ≡ count_at book start
          → Each Pointed (in_turn (entry_look kind book listed) (width kind) before at n)
      unfolding Each in_turn
      entries_pointed before at zero i e h = tt
      entries_pointed before at (suc n) i e h =
          let next : at + width kind ≡ entry_place kind start (suc i) = omega (arith, e, mul-suc (width kind) i) in (
            subst (λ (p : ℕ). Pointed (entry_look kind book listed before p)) (sym e) (entry_pointed before i (omega arith)),
            entries_pointed (Some at) (at + width kind) n (suc i) next (omega arith),
          )

      section_pointed : Each Pointed (section_looks kind book listed start)
      unfolding Each section_looks count_look
      section_pointed = (
        pointed_if (ltb (length book) (start + 1)) fault.Short start _ (λ e. cut start (inl (count_cut (ltb-true _ _ e))))
            (pointed_if (kind.out_of_range (count_at book start)) kind.count_fault start (Ok tt) (λ e. count) tt),
        entries_pointed None (start + 1) (count_at book start) 0 (omega arith) (omega arith),
      )
        where
          count_cut : length book < start + 1 → CutIn (1 ∷ []) book start start
          count_cut h = record { field = 0; known = omega arith; place = refl; missing = h; whole = λ k l. absurd (omega arith) }

  row_fields_lem : 0 < length (rows_of form).widths
  row_fields_lem = go form
    where
      go : (f : Form) → 0 < length (rows_of f).widths
      go Old = omega arith
      go Persons = omega arith
      go Editions = omega arith

  made_speaks : (m : Result Policy Refusal) → Speaks (policies_of form) (starts_of form book).policies (omega arith) (λ at c. inr (inr c)) (by_made m)
  made_speaks (Ok p) = tt
  made_speaks (Err r) = λ at f. f

  looks_pointed : Each Pointed (looks_by form book)
  unfolding Each
  looks_pointed =
      let n = listed_in form book in
      let s = starts_of form book in
      let end = past (policies_of form) book s.policies in
      let one = section_pointed codes s.permissions (omega arith) (λ at c. inl c) refl 0 (λ before x.
      speaks_if codes s.permissions (omega arith) (λ at c. inl c) (not_above before x) fault.Code 0 (Ok tt) (λ at f. f) tt) in
      let two = section_pointed (rows_of form) s.rows row_fields_lem (λ at c. inr (inl c)) refl n (λ before x.
      speaks_if (rows_of form) s.rows row_fields_lem (λ at c. inr (inl c)) (not_above (staff_of before) x.staff) fault.Staff 0 _ (λ at f. f)
      (speaks_if (rows_of form) s.rows row_fields_lem (λ at c. inr (inl c)) (past_listed n x.holdings) fault.Holdings _ (Ok tt) (λ at f. f) tt)) in
      let three = section_pointed (policies_of form) s.policies (omega arith) (λ at c. inr (inr c)) refl n (λ before x.
      speaks_if (policies_of form) s.policies (omega arith) (λ at c. inr (inr c)) (past_listed n x.task) fault.Task 0 (by_made (made x)) (λ at f. f) (made_speaks (made x))) in
      all_pointed (section_looks codes book 0 s.permissions) (looks_from_rows form book s.rows) one
      (all_pointed (section_looks (rows_of form) book n s.rows) (looks_from_policies form book s.policies) two
      (all_pointed (section_looks (policies_of form) book n s.policies) (end_look book end ∷ []) three
      (pointed_if (ltb end (length book)) fault.Excess end (Ok tt) (λ e. refl) tt, tt)))

-- "The place should be the first byte of the field at fault": of every refused book
pub field_place_lem : (book : List ℕ) (f : Fault) (at : ℕ) → read_of book ≡ refused f at → Points (form_of book) book f at
field_place_lem book f at e =
    let h = (refused_first_fault book f at).0 e in
    pointed_in (form_of book) book h.before h.after (refused f at) (subst (Each (Pointed (form_of book) book)) h.order (looks_pointed (form_of book) book))

-- "for 11, the first byte of the field that isn't whole": it is not, and every field of its entry before it is
pub cut_place_lem : (book : List ℕ) (at : ℕ) → read_of book ≡ refused fault.Short at
    → let s = starts_of (form_of book) book in
    CutSection codes book s.permissions at ⊎ (CutSection (rows_of (form_of book)) book s.rows at ⊎ CutSection (policies_of (form_of book)) book s.policies at)
cut_place_lem book at e = field_place_lem book fault.Short at e

-- ---- beside the rule before

-- a look beside that of the rule before
abbrev LookBeside : Look → Look → Type 0
LookBeside (Ok t) (Ok u) = Unit
LookBeside (Ok t) (Err was) = ⊥
LookBeside (Err e) (Ok u) = ⊥
LookBeside (Err e) (Err was) = (e.fault ≡ was.fault) × (PlaceStays (fault_number e.fault) → e.place ≡ was.place)

look_same : (x : Look) → LookBeside x x
look_same (Ok t) = tt
look_same (Err e) = (refl, λ s. refl)

-- one by one
unfoldable AllBeside : List Look → List Look → Type 0
AllBeside [] [] = Unit
AllBeside [] (y ∷ m) = ⊥
AllBeside (x ∷ l) [] = ⊥
AllBeside (x ∷ l) (y ∷ m) = LookBeside x y × AllBeside l m

beside_append : (l m l' m' : List Look) → AllBeside l m → AllBeside l' m' → AllBeside (l ++ l') (m ++ m')
unfolding AllBeside
beside_append [] [] l' m' a b = b
beside_append [] (y ∷ m) l' m' a b = absurd a
beside_append (x ∷ l) [] l' m' a b = absurd a
beside_append (x ∷ l) (y ∷ m) l' m' a b = (a.0, beside_append l m l' m' a.1 b)

-- the first faults are so, too
first_beside : (s : Starts) (l m : List Look) → AllBeside l m → Beside (first_fault s l) (first_fault s m)
unfolding AllBeside first_fault
first_beside s [] [] a = refl
first_beside s [] (y ∷ m) a = absurd a
first_beside s (x ∷ l) [] a = absurd a
first_beside s (Ok t ∷ l) (Ok u ∷ m) a = first_beside s l m a.1
first_beside s (Ok t ∷ l) (Err was ∷ m) a = absurd a.0
first_beside s (Err e ∷ l) (Ok u ∷ m) a = absurd a.0
first_beside s (Err e ∷ l) (Err was ∷ m) a = a.0

-- what is amiss under one of the numbers that stay is amiss with the first field
abbrev Leads : Result Unit Amiss → Type 0
Leads (Ok t) = Unit
Leads (Err e) = PlaceStays (fault_number e.fault) → e.field ≡ 0

leads_if : (b : Bool) (f : Fault) (k : ℕ) (rest : Result Unit Amiss) → (PlaceStays (fault_number f) → k ≡ 0) → Leads rest → Leads (amiss_if b f k rest)
leads_if true f k rest p q = p
leads_if false f k rest p q = q

-- the numbers whose places move
moves : (n : ℕ) {k : ℕ} → ((3 ≤ n) × (n ≤ 5)) ⊎ ((n ≡ 11) ⊎ ((n ≡ 16) ⊎ (n ≡ 25))) → PlaceStays n → k ≡ 0
moves n (inl h) (inl e) = absurd (omega (arith, h.0))
moves n (inl h) (inr (inl s)) = absurd (omega (arith, h.1, s.0))
moves n (inl h) (inr (inr s)) = absurd (omega (arith, h.1, s.0))
moves n (inr (inl h)) (inl e) = absurd (omega arith)
moves n (inr (inl h)) (inr (inl s)) = absurd (omega (arith, s.0))
moves n (inr (inl h)) (inr (inr s)) = absurd (omega (arith, s.0))
moves n (inr (inr (inl h))) (inl e) = absurd (omega arith)
moves n (inr (inr (inl h))) (inr (inl s)) = absurd (omega (arith, s.1))
moves n (inr (inr (inl h))) (inr (inr s)) = absurd (omega (arith, s.0))
moves n (inr (inr (inr h))) (inl e) = absurd (omega arith)
moves n (inr (inr (inr h))) (inr (inl s)) = absurd (omega (arith, s.1))
moves n (inr (inr (inr h))) (inr (inr s)) = absurd (omega (arith, s.1))

refusal_leads : (r : Refusal) → PlaceStays (fault_number (fault.Policy r)) → field_of r ≡ 0
refusal_leads refusal.Rows s = refl
refusal_leads refusal.Task s = refl
refusal_leads refusal.Away s = moves 3 (inl (omega arith, omega arith)) s
refusal_leads refusal.Crews s = moves 4 (inl (omega arith, omega arith)) s
refusal_leads refusal.Size s = moves 5 (inl (omega arith, omega arith)) s
refusal_leads refusal.Absence s = refl
refusal_leads refusal.Edition s = moves 25 (inr (inr (inr refl))) s

made-leads : (m : Result Policy Refusal) → Leads (by_made m)
made-leads (Ok p) = tt
made-leads (Err r) = refusal_leads r

code_leads : (listed : ℕ) (before : Option ℕ) (x : ℕ) → Leads (codes.faults listed before x)
code_leads listed before x = leads_if (not_above before x) fault.Code 0 (Ok tt) (λ s. refl) tt

row-leads : (form : Form) (listed : ℕ) (before : Option Row) (x : Row) → Leads ((rows_of form).faults listed before x)
row-leads form listed before x =
    leads_if (not_above (staff_of before) x.staff) fault.Staff 0 _ (λ s. refl)
    (leads_if (past_listed listed x.holdings) fault.Holdings _ (Ok tt) (λ s. moves 16 (inr (inr (inl refl))) s) tt)

policy_leads : (form : Form) (listed : ℕ) (before : Option Policy) (x : Policy) → Leads ((policies_of form).faults listed before x)
policy_leads form listed before x = leads_if (past_listed listed x.task) fault.Task 0 (by_made (made x)) (λ s. refl) (made-leads (made x))

placed_beside : (ws : List ℕ) (at : ℕ) (x : Result Unit Amiss) → Leads x → LookBeside (placed ws at x) (at_entry at x)
placed_beside ws at (Ok t) l = tt
placed_beside ws at (Err e) l = (refl, λ s. ap (field_place ws at) (l s) ∙ field_first ws at)

-- the same test, and what comes after it
beside_if : (b : Bool) (f : Fault) (at was : ℕ) (x y : Look) → (PlaceStays (fault_number f) → at ≡ was) → LookBeside x y → LookBeside (fault_if b f at x) (fault_if b f was y)
beside_if true f at was x y p q = (refl, p)
beside_if false f at was x y p q = q

module _ {A : Type 0} (kind : Kind A) (leads : (listed : ℕ) (before : Option A) (x : A) → Leads (kind.faults listed before x)) (book : List ℕ) (listed : ℕ) where
  entry_beside : (before : Option ℕ) (at : ℕ) → LookBeside (entry_look kind book listed before at) (entry_was kind book listed before at)
  unfolding entry_look
  entry_beside before at =
      let last = prior (entry_at kind book) before in
      let here = kind.faults listed last (entry_at kind book at) in
      beside_if (ltb (length book) (at + width kind)) fault.Short (cut_place kind.widths (length book) at) at (placed kind.widths at here) (at_entry at here)
      (λ s. absurd (never s)) (placed_beside kind.widths at here (leads listed last (entry_at kind book at)))
    where
      never : PlaceStays 11 → ⊥
      never s = let z = moves 11 {k = 1} (inr (inl refl)) s in omega arith

  entries_beside : (before : Option ℕ) (at n : ℕ)
      → AllBeside (in_turn (entry_look kind book listed) (width kind) before at n) (in_turn (entry_was kind book listed) (width kind) before at n)
  unfolding AllBeside in_turn
  entries_beside before at zero = tt
  entries_beside before at (suc n) = (entry_beside before at, entries_beside (Some at) (at + width kind) n)

  section_beside : (at : ℕ) → AllBeside (section_looks kind book listed at) (section_was kind book listed at)
  unfolding AllBeside section_looks
  section_beside at = (look_same (count_look kind book at), entries_beside None (at + 1) (count_at book at))

-- every reply beside that of the rule before
pub as_before : (book : List ℕ) → Beside (read_of book) (read_was book)
unfolding read_of read_was AllBeside
as_before book =
    let form = form_of book in
    let n = listed_in form book in
    let s = starts_of form book in
    let end = end_look book (past (policies_of form) book s.policies) in
    first_beside s _ _
    (beside_append (section_looks codes book 0 s.permissions) (section_was codes book 0 s.permissions) _ _ (section_beside codes code_leads book 0 s.permissions)
    (beside_append (section_looks (rows_of form) book n s.rows) (section_was (rows_of form) book n s.rows) _ _ (section_beside (rows_of form) (row-leads form) book n s.rows)
    (beside_append (section_looks (policies_of form) book n s.policies) (section_was (policies_of form) book n s.policies) (end ∷ []) (end ∷ [])
    (section_beside (policies_of form) (policy_leads form) book n s.policies) (look_same end, tt))))

-- "The order of checks stays": the fault, and so the number, is that of the rule before, for every byte string
pub number-stays : (book : List ℕ) → fault_of (read_of book) ≡ fault_of (read_was book)
number-stays book = go (read_of book) (read_was book) (as_before book)
  where
    go : (r w : Result Starts FaultAt) → Beside r w → fault_of r ≡ fault_of w
    go (Ok s) (Ok t) b = refl
    go (Ok s) (Err was) b = absurd b
    go (Err e) (Ok t) b = absurd b
    go (Err e) (Err was) b = ap Some b.0

-- the places of 2, 12 to 15 and 17 to 19 are those of the rule before
pub place_stays : (book : List ℕ) (f : Fault) (at : ℕ) → PlaceStays (fault_number f) → read_of book ≡ refused f at → read_was book ≡ refused f at
place_stays book f at stays e = go (read_was book) (subst (λ (r : Result Starts FaultAt). Beside r (read_was book)) e (as_before book))
  where
    go : (w : Result Starts FaultAt) → Beside (refused f at) w → w ≡ refused f at
    go (Ok t) b = absurd b
    go (Err was) b = sym (rw (b.0, b.1 stays))

-- and a good book's reply is
pub good_stays : (book : List ℕ) (s : Starts) → read_of book ≡ Ok s → read_was book ≡ Ok s
good_stays book s e = go (read_was book) (subst (λ (r : Result Starts FaultAt). Beside r (read_was book)) e (as_before book))
  where
    go : (w : Result Starts FaultAt) → Beside (Ok s) w → w ≡ Ok s
    go (Ok t) b = ap Ok (sym b)
    go (Err was) b = absurd b
