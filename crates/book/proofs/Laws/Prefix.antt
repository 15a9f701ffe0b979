-- The reply to any byte string is the reply to its first 1,093 bytes: of a longer one nothing matters but those and that it is longer. Assumes
-- nothing.
use Rattle.std.specs.Prelude.{◌≡◌, Bool, ltb, length, get_or, take, Option, Some, None, Result, Ok, Err}
use Rattle.std.proofs.Math.Path.{refl, sym, ap, ap₂}
use Rattle.std.proofs.Common.{◌∙◌, lt_of_not-le, length-take, get_or-take, lt-ltb, le-ltb, ltb-false}
use Rattle.std.proofs.Math.Bool.{true, false}
use mathlib.Core.List.{List, [], ◌∷◌, ◌++◌}
use Prim.Native.Nat.{ℕ, zero, suc, ◌+◌, ◌*◌, min, ◌≤◌, ◌<◌}
use Rattle.std.proofs.Math.Nat.{mul-suc}
use Rattle.std.proofs.Math.Decide.{dec_le}
use native.Mathlib.Omega.{arith}
use Rattle.roster.specs.Limits.{row_limit}
use Rattle.book.specs.Layout.{permission_limit, policy_limit}
use Rattle.book.specs.Reading.{Kind, number, fields_at, total, cut_place, codes, rows_of, policies_of, fault_if, width, entry_at, prior, count_look, entry_look, in_turn, count_at, section_looks, past, form_of, front, listed_in, end_look, first_fault, read_by, read_of, Look}
use Rattle.book.specs.declared.Form.{Form}
use Rattle.book.specs.declared.Form.TheVariants.{Old, Persons, Editions}
use Rattle.book.specs.Laws.First.{not_faulty, first-append}
use Rattle.roster.proofs.Laws.Rulings.{inside}
use Rattle.book.specs.declared.Fault.TheVariants as fault
use Rattle.book.specs.declared.Starts.{Starts}
use Rattle.std.specs.Result.{result_and}
use Rattle.book.specs.declared.FaultAt.{FaultAt}

-- no difference is seen below n
pub record Agree (n : ℕ) (a b : List ℕ) : Type 0 where
  pub bytes : (i : ℕ) → i < n → get_or a i 0 ≡ get_or b i 0
  pub cut : (m : ℕ) → m ≤ n → ltb (length a) m ≡ ltb (length b) m
  pub beyond : (m : ℕ) → m < n → ltb m (length a) ≡ ltb m (length b)

pub agree_take : (n : ℕ) (a : List ℕ) → Agree n a (take n a)
agree_take n a = record { bytes = λ i l. sym (get_or-take n a i 0 l); cut = λ m l. cut m l (dec_le m (length a)); beyond = λ m l. beyond m l (dec_le (length a) m) }
  where
    long : length (take n a) ≡ min n (length a)
    long = length-take n a

    cut : (m : ℕ) → m ≤ n → Dec (m ≤ length a) → ltb (length a) m ≡ ltb (length (take n a)) m
    cut m l (yes h) = let k : m ≤ length (take n a) = omega (arith, long) in le-ltb _ _ h ∙ sym (le-ltb _ _ k)
    cut m l (no h) =
        let h' : length a < m = lt_of_not-le h in
        let k : length (take n a) < m = omega (arith, long) in
        lt-ltb _ _ h' ∙ sym (lt-ltb _ _ k)

    beyond : (m : ℕ) → m < n → Dec (length a ≤ m) → ltb m (length a) ≡ ltb m (length (take n a))
    beyond m l (yes h) = let k : length (take n a) ≤ m = omega (arith, long) in le-ltb _ _ h ∙ sym (le-ltb _ _ k)
    beyond m l (no h) =
        let h' : m < length a = lt_of_not-le h in
        let k : m < length (take n a) = omega (arith, long) in
        lt-ltb _ _ h' ∙ sym (lt-ltb _ _ k)

-- two ways that part only where a look is sound
by_look : {R : Type 0} (k : Look) (x y : Result R FaultAt) → (k ≡ Ok tt → x ≡ y)
    → ◌≡◌ {A = Result R FaultAt} (elim k [ Ok t ↦ x | Err e ↦ Err e ]) (elim k [ Ok t ↦ y | Err e ↦ Err e ])
by_look (Ok t) x y h = h refl
by_look (Err e) x y h = refl

-- whether nothing is at fault, or what is
abbrev passes : List Look → Look
passes = first_fault tt

module _ (n : ℕ) (a b : List ℕ) (same : Agree n a b) where
  number_agree : (w at : ℕ) → at + w ≤ n → number w a at ≡ number w b at
  unfolding number
  number_agree zero at h = refl
  number_agree (suc w) at h = rw (same.bytes at (omega arith), number_agree w (at + 1) (omega arith))

  fields_agree : (ws : List ℕ) (at : ℕ) → at + total ws ≤ n → fields_at ws a at ≡ fields_at ws b at
  unfolding fields_at
  fields_agree [] at h = refl
  fields_agree (w ∷ ws) at h = rw (number_agree w at (omega arith), fields_agree ws (at + w) (omega arith))

  cut_agree : (ws : List ℕ) (at : ℕ) → at + total ws ≤ n → cut_place ws (length a) at ≡ cut_place ws (length b) at
  unfolding cut_place
  cut_agree [] at h = refl
  cut_agree (w ∷ ws) at h =
      ap₂ (λ (b : Bool) (p : ℕ). elim b [ true ↦ at | false ↦ p ]) (same.cut (at + w) (omega arith)) (cut_agree ws (at + w) (omega arith))

  module _ {A : Type 0} (kind : Kind A) where
    entry_agree : (at : ℕ) → at + width kind ≤ n → entry_at kind a at ≡ entry_at kind b at
    entry_agree at h = ap kind.value (fields_agree kind.widths at h)

    -- the entry before ends below n, if there is one
    abbrev Ends : Option ℕ → Type 0
    Ends None = Unit
    Ends (Some at) = at + width kind ≤ n

    prior_agree : (before : Option ℕ) → Ends before → prior (entry_at kind a) before ≡ prior (entry_at kind b) before
    prior_agree None h = refl
    prior_agree (Some at) h = ap Some (entry_agree at h)

    entry_look_agree : (listed : ℕ) (before : Option ℕ) (at : ℕ) → Ends before → at + width kind ≤ n
        → entry_look kind a listed before at ≡ entry_look kind b listed before at
    unfolding entry_look
    entry_look_agree listed before at e h = rw (same.cut (at + width kind) h, cut_agree kind.widths at h, prior_agree before e, entry_agree at h)

    in_turn_agree : (listed : ℕ) (before : Option ℕ) (at m : ℕ) → Ends before → at + width kind * m ≤ n
        → in_turn (entry_look kind a listed) (width kind) before at m ≡ in_turn (entry_look kind b listed) (width kind) before at m
    unfolding in_turn
    in_turn_agree listed before at zero e h = refl
    in_turn_agree listed before at (suc m) e h =
        let more = mul-suc (width kind) m in
        let here : at + width kind ≤ n = omega arith in
        rw (entry_look_agree listed before at e here, in_turn_agree listed (Some at) (at + width kind) m here (omega arith))

    count_agree : (at : ℕ) → at < n → count_at a at ≡ count_at b at
    count_agree at h = same.bytes at h

    count_look_agree : (at : ℕ) → at < n → count_look kind a at ≡ count_look kind b at
    unfolding count_look
    count_look_agree at h = rw (same.cut (at + 1) (omega arith), same.bytes at h)

    -- a section whose counts in range keep it below n: its first fault is the same, and past it what follows decides
    in_range : (at : ℕ) → count_look kind b at ≡ Ok tt → kind.out_of_range (count_at b at) ≡ false
    unfolding count_look
    in_range at e =
        let range = fault_if (kind.out_of_range (count_at b at)) kind.count_fault at (Ok tt) in
        (not_faulty (kind.out_of_range (count_at b at)) kind.count_fault at (Ok tt) (not_faulty (ltb (length b) (at + 1)) fault.Short at range e).1).0

    section_agree : {R : Type 0} (g g' : R) (rest rest' : List Look) (listed at limit : ℕ)
        → ((c : ℕ) → kind.out_of_range c ≡ false → c ≤ limit) → ((c : ℕ) → c ≤ limit → at + 1 + width kind * c ≤ n)
        → (count_at b at ≤ limit → first_fault g rest ≡ first_fault g' rest')
        → first_fault g (section_looks kind a listed at ++ rest) ≡ first_fault g' (section_looks kind b listed at ++ rest')
    unfolding section_looks first_fault
    section_agree {R} g g' rest rest' listed at limit range room next =
        let zero_room = room 0 (omega arith) in
        let here : at < n = omega arith in
        let la = in_turn (entry_look kind a listed) (width kind) None (at + 1) (count_at b at) in
        let lb = in_turn (entry_look kind b listed) (width kind) None (at + 1) (count_at b at) in
        rw (count_look_agree at here, count_agree at here)
        (by_look (count_look kind b at) (first_fault g (la ++ rest)) (first_fault g' (lb ++ rest')) λ e.
        let few = range (count_at b at) (in_range at e) in
        first-append tt g la rest
        ∙ ap (λ (l : List Look). result_and (passes l) (first_fault g rest)) (in_turn_agree listed None (at + 1) (count_at b at) tt (room (count_at b at) few))
        ∙ ap (λ (x : Result R FaultAt). result_and (passes lb) x) (next few)
        ∙ sym (first-append tt g' lb rest'))

-- ---- the book

few_codes : (c : ℕ) → codes.out_of_range c ≡ false → c ≤ permission_limit
few_codes c e = (inside permission_limit c e).1

module _ (form : Form) where
  few_rows : (c : ℕ) → (rows_of form).out_of_range c ≡ false → c ≤ row_limit
  few_rows c e = ltb-false row_limit c e

  few_policies : (c : ℕ) → (policies_of form).out_of_range c ≡ false → c ≤ policy_limit
  few_policies c e = ltb-false policy_limit c e

  pub near_front : front form ≤ 1
  near_front = go form
    where
      go : (f : Form) → front f ≤ 1
      go Old = omega arith
      go Persons = omega arith
      go Editions = omega arith

  -- 64 rows of either width
  pub near_row : (c : ℕ) → c ≤ row_limit → width (rows_of form) * c ≤ 768
  near_row c h = go form
    where
      go : (f : Form) → width (rows_of f) * c ≤ 768
      go Old = omega arith
      go Persons = omega arith
      go Editions = omega arith

  -- and 32 policies
  pub near_policy : (c : ℕ) → c ≤ policy_limit → width (policies_of form) * c ≤ 256
  near_policy c h = go form
    where
      go : (f : Form) → width (policies_of f) * c ≤ 256
      go Old = omega arith
      go Persons = omega arith
      go Editions = omega arith

module _ (a b : List ℕ) (same : Agree 1093 a b) (form : Form) where
  past-codes_agree : past codes a (front form) ≡ past codes b (front form)
  unfolding past
  past-codes_agree = rw (same.bytes (front form) (omega (arith, near_front form)))

  past-rows_agree : (at : ℕ) → at ≤ 66 → past (rows_of form) a at ≡ past (rows_of form) b at
  unfolding past
  past-rows_agree at h = rw (same.bytes at (omega arith))

  near_rows : count_at b (front form) ≤ permission_limit → past codes b (front form) ≤ 66
  unfolding past
  near_rows h = omega (arith, near_front form)

  near_policies : (at : ℕ) → at ≤ 66 → count_at b at ≤ row_limit → past (rows_of form) b at ≤ 835
  unfolding past
  near_policies at h few = omega (arith, near_row form (count_at b at) few)

  -- from the policies on
  policies_agree : (s : Starts) (listed at : ℕ) → at ≤ 835
      → first_fault s (section_looks (policies_of form) a listed at ++ (end_look a (past (policies_of form) a at) ∷ []))
      ≡ first_fault s (section_looks (policies_of form) b listed at ++ (end_look b (past (policies_of form) b at) ∷ []))
  unfolding past first_fault
  policies_agree s listed at h =
      section_agree 1093 a b same (policies_of form) s s _ _ listed at policy_limit (few_policies form)
      (λ c l. omega (arith, near_policy form c l)) λ few.
      rw (same.bytes at (omega arith), same.beyond (at + 1 + width (policies_of form) * count_at b at) (omega (arith, near_policy form (count_at b at) few)))

  -- from the rows on
  rows_agree : (listed at : ℕ) → at ≤ 66
      → first_fault {R = Starts} (record { permissions = front form; rows = at; policies = past (rows_of form) a at })
      (section_looks (rows_of form) a listed at ++ (section_looks (policies_of form) a listed (past (rows_of form) a at) ++ (end_look a (past (policies_of form) a (past (rows_of form) a at)) ∷ [])))
      ≡ first_fault {R = Starts} (record { permissions = front form; rows = at; policies = past (rows_of form) b at })
      (section_looks (rows_of form) b listed at ++ (section_looks (policies_of form) b listed (past (rows_of form) b at) ++ (end_look b (past (policies_of form) b (past (rows_of form) b at)) ∷ [])))
  rows_agree listed at h =
      section_agree 1093 a b same (rows_of form) _ _ _ _ listed at row_limit (few_rows form) (λ c l. omega (arith, near_row form c l)) λ few.
      rw (past-rows_agree at h) (policies_agree _ listed (past (rows_of form) b at) (near_policies at h few))

  by_form_agree : read_by form a ≡ read_by form b
  by_form_agree =
      section_agree 1093 a b same codes _ _ _ _ 0 (front form) permission_limit few_codes (λ c l. omega (arith, near_front form)) λ few.
      rw (past-codes_agree, same.bytes (front form) (omega (arith, near_front form))) (rows_agree (listed_in form b) (past codes b (front form)) (near_rows few))

-- the first byte tells the form
form_agree : (a b : List ℕ) → Agree 1093 a b → form_of a ≡ form_of b
unfolding form_of
form_agree a b same = rw (same.bytes 0 (omega arith))

-- what is the same below 1093 has the same reply
pub book_agree : (a b : List ℕ) → Agree 1093 a b → read_of a ≡ read_of b
unfolding read_of
book_agree a b same = ap (λ (f : Form). read_by f a) (form_agree a b same) ∙ by_form_agree a b same (form_of b)

-- the reply to a byte string is that to its first 1093 bytes
pub prefix_reply : (book : List ℕ) → read_of book ≡ read_of (take 1093 book)
prefix_reply book = book_agree book (take 1093 book) (agree_take 1093 book)
