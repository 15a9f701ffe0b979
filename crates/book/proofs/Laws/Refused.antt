-- A refused book: its number is one of 2 to 5 or of 11 to 19, or 25, and its place is at most the book's length. Assumes nothing.
use Rattle.std.specs.Prelude.{◌≡◌, Bool, eqb, get_or, Option, Some, None, Result, Ok, Err}
use Rattle.std.proofs.Math.Path.{refl}
use Rattle.std.proofs.Common.{subst, inl, inr, ltb-false, eqb-true}
use Rattle.std.proofs.Math.Bool.{true, false}
use mathlib.Core.List.{List, [], ◌∷◌, ◌++◌}
use Prim.Native.Nat.{ℕ, zero, suc, ◌+◌, ◌≤◌}
use native.Mathlib.Omega.{arith}
use Rattle.std.proofs.Math.Dec.{ltb}
use Rattle.std.proofs.Math.ListN.{length}
use Rattle.roster.specs.Limits.{away_limit, crew_limit, size_limit, edition_limit}
use Rattle.roster.specs.Refusals.{refused_if, outside, policy_ruling, own_ruling, made_by, made}
use Rattle.roster.specs.declared.Policy.{Policy}
use Rattle.roster.specs.declared.Refusal.TheVariants.{Task, Away, Crews, Size, Edition}
use Rattle.book.specs.Layout.{Each, form_has_persons}
use Rattle.book.specs.Faults.{fault_number, EntryNumber, BookNumber}
use Rattle.book.specs.Reading.{Kind, total, field_place, cut_place, amiss_if, fault_if, placed, not_above, past_listed, staff_of, row_amiss, by_made, codes, rows_of, policies_of, width, entry_at, prior, count_look, entry_look, in_turn, count_at, section_looks, past, form_by, form_of, front, listed_in, end_look, looks_from_policies, looks_from_rows, looks, read_of, Look, refused}
use Rattle.book.specs.Promises.{AllSound}
use Rattle.book.specs.Laws.First.{not_faulty}
use Rattle.book.specs.Laws.Places.{counted}
use Rattle.book.proofs.Laws.Books.{rows_at, policies_at, row_codec_of, policy_codec_of, refused_first_fault}
use Rattle.book.specs.Laws.Sections.{section_sound}
use Rattle.book.proofs.Laws.Values.{code_codec}
use Rattle.book.specs.declared.Fault.{Fault}
use Rattle.book.specs.declared.Fault.TheVariants as fault
use Rattle.book.specs.declared.Form.{Form}
use Rattle.book.specs.declared.Row.{Row}
use Rattle.book.specs.declared.Amiss.{Amiss}
use Rattle.roster.specs.declared.Refusal.{Refusal}

-- ---- the number

-- what is amiss has such a number, and so has what a look tells
abbrev pub Told : (ℕ → Type 0) → Result Unit Amiss → Type 0
Told Is (Ok t) = Unit
Told Is (Err e) = Is (fault_number e.fault)

abbrev Tells : Look → Type 0
Tells (Ok t) = Unit
Tells (Err e) = BookNumber (fault_number e.fault)

pub told_if : (Is : ℕ → Type 0) (b : Bool) (f : Fault) (k : ℕ) (rest : Result Unit Amiss) → Is (fault_number f) → Told Is rest → Told Is (amiss_if b f k rest)
told_if Is true f k rest n t = n
told_if Is false f k rest n t = t

tells_if : (b : Bool) (f : Fault) (at : ℕ) (rest : Look) → BookNumber (fault_number f) → Tells rest → Tells (fault_if b f at rest)
tells_if true f at rest n t = n
tells_if false f at rest n t = t

-- what is told of an entry is told of a book
of_book : (n : ℕ) → EntryNumber n → BookNumber n
of_book n (inl l) = inl l
of_book n (inr (inl l)) = inr (inl (omega (arith, l.0), omega (arith, l.1)))
of_book n (inr (inr e)) = inr (inr e)

told_of_book : (ws : List ℕ) (at : ℕ) (x : Result Unit Amiss) → Told EntryNumber x → Tells (placed ws at x)
told_of_book ws at (Ok x) t = tt
told_of_book ws at (Err e) t = of_book (fault_number e.fault) t

-- of a policy by itself 2, 3, 4, 5 or 25 is told: there are no rows to be too many, and no absence is named
told_ruling : (P s d t ed : ℕ) (r : Result Unit Refusal) (p : Policy) → policy_ruling 0 P s d t ed ≡ r → Told EntryNumber (by_made (made_by r p))
unfolding policy_ruling
told_ruling P s d t ed r p e =
    subst (λ (x : Result Unit Refusal). Told EntryNumber (by_made (made_by x p))) e
    (go (eqb P 0) (ltb away_limit s) (outside crew_limit d) (outside size_limit t) (outside edition_limit ed))
  where
    go : (a b c f g : Bool)
        → Told EntryNumber (by_made (made_by (refused_if a Task (refused_if b Away (refused_if c Crews (refused_if f Size (refused_if g Edition (Ok tt)))))) p))
    go true b c f g = inl (omega arith, omega arith)
    go false true c f g = inl (omega arith, omega arith)
    go false false true f g = inl (omega arith, omega arith)
    go false false false true g = inl (omega arith, omega arith)
    go false false false false true = inr (inr refl)
    go false false false false false = tt

pub told_code : (listed : ℕ) (before : Option ℕ) (code : ℕ) → Told EntryNumber (codes.faults listed before code)
told_code listed before code = told_if EntryNumber (not_above before code) fault.Code 0 (Ok tt) (inr (inl (omega arith, omega arith))) tt

told_look : (persons low beyond : Bool) → Told EntryNumber (row_amiss persons low beyond)
told_look persons low beyond =
    told_if EntryNumber low fault.Staff 0 _ (inr (inl (omega arith, omega arith)))
    (told_if EntryNumber beyond fault.Holdings _ (Ok tt) (inr (inl (omega arith, omega arith))) tt)

pub told-row : (form : Form) (listed : ℕ) (before : Option Row) (row : Row) → Told EntryNumber ((rows_of form).faults listed before row)
told-row form listed before row = told_look (form_has_persons form) (not_above (staff_of before) row.staff) (past_listed listed row.holdings)

pub told_policy : (form : Form) (listed : ℕ) (before : Option Policy) (p : Policy) → Told EntryNumber ((policies_of form).faults listed before p)
told_policy form listed before p =
    told_if EntryNumber (past_listed listed p.task) fault.Task 0 (by_made (made p)) (inr (inl (omega arith, omega arith))) (told_ruling _ _ _ _ _ (own_ruling p) p refl)

abbrev AllTold : List Look → Type 0
AllTold = Each Tells

all_append : (l m : List Look) → AllTold l → AllTold m → AllTold (l ++ m)
unfolding Each
all_append [] m a b = b
all_append (x ∷ l) m a b = (a.0, all_append l m a.1 b)

told_in : (l m : List Look) (x : Look) → AllTold (l ++ (x ∷ m)) → Tells x
unfolding Each
told_in [] m x t = t.0
told_in (y ∷ l) m x t = told_in l m x t.1

module _ {A : Type 0} (kind : Kind A) (count : EntryNumber (fault_number kind.count_fault))
    (entry : (listed : ℕ) (before : Option A) (x : A) → Told EntryNumber (kind.faults listed before x)) (book : List ℕ) (listed : ℕ) where
  entry_told : (before : Option ℕ) (at : ℕ) → Tells (entry_look kind book listed before at)
  unfolding entry_look
  entry_told before at =
      let last = prior (entry_at kind book) before in
      let here = kind.faults listed last (entry_at kind book at) in
      tells_if (ltb (length book) (at + width kind)) fault.Short (cut_place kind.widths (length book) at) (placed kind.widths at here)
      (inr (inl (omega arith, omega arith))) (told_of_book kind.widths at here (entry listed last (entry_at kind book at)))

  in_turn-told : (before : Option ℕ) (at n : ℕ) → AllTold (in_turn (entry_look kind book listed) (width kind) before at n)
  unfolding Each in_turn
  in_turn-told before at zero = tt
  in_turn-told before at (suc n) = (entry_told before at, in_turn-told (Some at) (at + width kind) n)

  section-told : (at : ℕ) → AllTold (section_looks kind book listed at)
  unfolding Each section_looks count_look
  section-told at =
      let range = tells_if (kind.out_of_range (count_at book at)) kind.count_fault at (Ok tt) (of_book (fault_number kind.count_fault) count) tt in
      (tells_if (ltb (length book) (at + 1)) fault.Short at _ (inr (inl (omega arith, omega arith))) range, in_turn-told None (at + 1) (count_at book at))

looks-told : (book : List ℕ) → AllTold (looks book)
unfolding Each
looks-told book =
    let form = form_of book in
    let n = listed_in form book in
    let second = rows_at form book in
    let third = policies_at form book in
    let end = past (policies_of form) book third in
    all_append (section_looks codes book 0 (front form)) (looks_from_rows form book second) (section-told codes (inr (inl (omega arith, omega arith))) told_code book 0 (front form))
    (all_append (section_looks (rows_of form) book n second) (looks_from_policies form book third)
    (section-told (rows_of form) (inr (inl (omega arith, omega arith))) (told-row form) book n second)
    (all_append (section_looks (policies_of form) book n third) (end_look book end ∷ [])
    (section-told (policies_of form) (inr (inl (omega arith, omega arith))) (told_policy form) book n third)
    (tells_if (ltb end (length book)) fault.Excess end (Ok tt) (inr (inl (omega arith, omega arith))) tt, tt)))

-- a refused book's number is one of 2 to 5 or of 11 to 19, or 25
pub refused_number : (book : List ℕ) (f : Fault) (at : ℕ) → read_of book ≡ refused f at → BookNumber (fault_number f)
refused_number book f at e =
    let h = (refused_first_fault book f at).0 e in
    told_in h.before h.after (refused f at) (subst AllTold h.order (looks-told book))

-- ---- the place

module _ (book : List ℕ) where
  -- whatever is reached, with all before it sound, is told within the book or at its end
  abbrev Near : Look → Type 0
  Near (Ok t) = Unit
  Near (Err e) = e.place ≤ length book

  unfoldable Reached : List Look → Type 0
  Reached [] = Unit
  Reached (x ∷ l) = Near x × (x ≡ Ok tt → Reached l)

  reached_append : (l m : List Look) → Reached l → (AllSound l → Reached m) → Reached (l ++ m)
  unfolding Reached Each
  reached_append [] m a b = b tt
  reached_append (x ∷ l) m a b = (a.0, λ e. reached_append l m (a.1 e) (λ s. b (e, s)))

  reached_in : (l m : List Look) (x : Look) → AllSound l → Reached (l ++ (x ∷ m)) → Near x
  unfolding Reached Each
  reached_in [] m x s r = r.0
  reached_in (y ∷ l) m x s r = reached_in l m x s.1 (r.1 s.0)

  near_if : (b : Bool) (f : Fault) (at : ℕ) (rest : Look) → at ≤ length book → (b ≡ false → Near rest) → Near (fault_if b f at rest)
  near_if true f at rest h n = h
  near_if false f at rest h n = n refl

  -- a field of an entry that is whole starts within it, and so does the first that is not whole
  field_near : (ws : List ℕ) (at k : ℕ) → at + total ws ≤ length book → field_place ws at k ≤ length book
  field_near [] at zero h = omega arith
  field_near [] at (suc k) h = omega arith
  field_near (w ∷ ws) at zero h = omega arith
  field_near (w ∷ ws) at (suc k) h = field_near ws (at + w) k (omega arith)

  cut_near : (ws : List ℕ) (at : ℕ) → at ≤ length book → cut_place ws (length book) at ≤ length book
  unfolding cut_place
  cut_near [] at h = h
  cut_near (w ∷ ws) at h = go (ltb (length book) (at + w)) refl (cut_near ws (at + w))
    where
      go : (b : Bool) → ltb (length book) (at + w) ≡ b → (at + w ≤ length book → cut_place ws (length book) (at + w) ≤ length book)
          → elim b [ true ↦ at | false ↦ cut_place ws (length book) (at + w) ] ≤ length book
      go true e ih = h
      go false e ih = ih (ltb-false _ _ e)

  placed_near : (ws : List ℕ) (at : ℕ) (x : Result Unit Amiss) → at + total ws ≤ length book → Near (placed ws at x)
  placed_near ws at (Ok t) h = tt
  placed_near ws at (Err e) h = field_near ws at e.field h

  module _ {A : Type 0} (kind : Kind A) (listed : ℕ) where
    -- past a sound entry the book has it whole
    in_turn_reached : (before : Option ℕ) (at n : ℕ) → at ≤ length book → Reached (in_turn (entry_look kind book listed) (width kind) before at n)
    unfolding Reached in_turn entry_look
    in_turn_reached before at zero h = tt
    in_turn_reached before at (suc n) h =
        let here = kind.faults listed (prior (entry_at kind book) before) (entry_at kind book at) in
        let near = near_if (ltb (length book) (at + width kind)) fault.Short (cut_place kind.widths (length book) at) (placed kind.widths at here)
        (cut_near kind.widths at h) (λ e. placed_near kind.widths at here (ltb-false _ _ e)) in
        (near, λ e. in_turn_reached (Some at) (at + width kind) n (ltb-false _ _ (not_faulty _ _ _ _ e).0))

    section_reached : (at : ℕ) → at ≤ length book → Reached (section_looks kind book listed at)
    unfolding Reached section_looks count_look
    section_reached at h =
        let near = near_if (ltb (length book) (at + 1)) fault.Short at _ h (λ e. near_if (kind.out_of_range (count_at book at)) kind.count_fault at (Ok tt) h (λ o. tt)) in
        (near, λ e. in_turn_reached None (at + 1) (count_at book at) (ltb-false _ _ (not_faulty _ _ _ _ e).0))

  -- a book that starts with 200 or 201 is not empty
  front_reached : (b c : Bool) → eqb (get_or book 0 0) 200 ≡ b → eqb (get_or book 0 0) 201 ≡ c → front (form_by b c) ≤ length book
  front_reached true c e f = counted book 0 199 (omega (arith, eqb-true (get_or book 0 0) 200 e))
  front_reached false true e f = counted book 0 200 (omega (arith, eqb-true (get_or book 0 0) 201 f))
  front_reached false false e f = omega arith

  looks_reached : Reached (looks book)
  unfolding Reached form_of
  looks_reached =
      let form = form_of book in
      let n = listed_in form book in
      let second = rows_at form book in
      let third = policies_at form book in
      let end = past (policies_of form) book third in
      reached_append (section_looks codes book 0 (front form)) (looks_from_rows form book second) (section_reached codes 0 (front form) (front_reached (eqb (get_or book 0 0) 200) (eqb (get_or book 0 0) 201) refl refl)) (λ a.
      reached_append (section_looks (rows_of form) book n second) (looks_from_policies form book third) (section_reached (rows_of form) n second (section_sound codes _ code_codec book 0 (front form) a).whole) (λ b.
      reached_append (section_looks (policies_of form) book n third) (end_look book end ∷ []) (section_reached (policies_of form) n third (section_sound (rows_of form) _ (row_codec_of form) book n second b).whole) (λ c.
      (near_if (ltb end (length book)) fault.Excess end (Ok tt) (section_sound (policies_of form) _ (policy_codec_of form) book n third c).whole (λ o. tt), λ e. tt))))

-- a refused book's place is at most the book's length
pub refused_place : (book : List ℕ) (f : Fault) (at : ℕ) → read_of book ≡ refused f at → at ≤ length book
refused_place book f at e =
    let h = (refused_first_fault book f at).0 e in
    reached_in book h.before h.after (refused f at) h.sound (subst (Reached book) h.order (looks_reached book))
