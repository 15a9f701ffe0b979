-- A section, for any kind of entry: what was written is read back, what was read is written again, and nothing of it is at fault exactly if
-- it is whole, its count in range, and its values have none of their faults. Assumes nothing.
use Rattle.std.specs.Prelude.{◌≡◌, false, take, Option, Some, None, Ok}
use Rattle.std.proofs.Math.Path.{refl, sym, ap}
use Rattle.std.proofs.Common.{◌∙◌, add-one, take-append-drop}
use mathlib.Core.List.{List, [], ◌∷◌, ◌++◌, append_assoc}
use Prim.Native.Nat.{ℕ, zero, suc, ◌+◌, ◌*◌, ◌≤◌, ◌<◌}
use Rattle.std.proofs.Math.Nat.{mul-suc}
use native.Mathlib.Omega.{arith}
use Rattle.std.proofs.Math.ListN.{length, drop, length-append}
use Rattle.std.proofs.Math.Seq.{drop-drop, drop-cons, take-add}
use borrow.Author.Tests.{ltb-false, le-ltb}
use Rattle.book.specs.Layout.{field_bytes, joined, section, Each}
use Rattle.book.specs.Reading.{Kind, placed, fields_at, width, entry_at, prior, count_look, entry_look, in_turn, count_at, section_looks, past}
use Rattle.book.specs.Parts.{entries_at, values_at}
use Rattle.book.specs.Promises.{Bytes, AllSound}
use Rattle.book.specs.Laws.First.{not_faulty, no_fault, placed_sound}
use Rattle.book.specs.Laws.Codec.{after, head_at, tail_at, Fit, fields_length, fields_read, fields_write, fields_fit}
use Rattle.book.specs.declared.Fault.TheVariants as fault

-- a value and its fields; `own` says that it has these fields and no others
pub record Codec {A : Type 0} (kind : Kind A) (fields : A → List ℕ) : Type 1 where
  pub own : A → Type 0
  pub back : (x : A) → own x → kind.value (fields x) ≡ x
  pub read : (book : List ℕ) (at : ℕ) → own (entry_at kind book at)
  pub forth : (book : List ℕ) (at : ℕ) → fields (entry_at kind book at) ≡ fields_at kind.widths book at

module _ {A : Type 0} (kind : Kind A) (fields : A → List ℕ) (codec : Codec kind fields) where
  abbrev pub bytes_for : A → List ℕ
  bytes_for x = field_bytes kind.widths (fields x)

  abbrev pub Fits : A → Type 0
  Fits x = Fit kind.widths (fields x) × codec.own x

  -- ---- writing and reading

  pub joined_length : (vs : List A) → Each Fits vs → length (joined bytes_for vs) ≡ width kind * length vs
  unfolding joined Each
  joined_length [] f = omega arith
  joined_length (x ∷ vs) f =
      length-append (bytes_for x) (joined bytes_for vs)
      ∙ omega (arith, fields_length kind.widths (fields x) f.0.0, joined_length vs f.1, mul-suc (width kind) (length vs))

  pub entries_read : (vs : List A) (book : List ℕ) (at : ℕ) (rest : List ℕ)
      → Each Fits vs → drop at book ≡ joined bytes_for vs ++ rest → entries_at kind book at (length vs) ≡ vs
  unfolding joined Each entries_at
  entries_read [] book at rest f e = refl
  entries_read (x ∷ vs) book at rest f e =
      let e' = e ∙ append_assoc (bytes_for x) (joined bytes_for vs) rest in
      let here = ap kind.value (fields_read kind.widths (fields x) book at (joined bytes_for vs ++ rest) f.0.0 e') ∙ codec.back x f.0.1 in
      let there = after book at (bytes_for x) (joined bytes_for vs ++ rest) e' in
      let next : drop (at + width kind) book ≡ joined bytes_for vs ++ rest =
      ap (λ (k : ℕ). drop (at + k) book) (sym (fields_length kind.widths (fields x) f.0.0)) ∙ there in
      rw (here, entries_read vs book (at + width kind) rest f.1 next)

  pub entries_write : (book : List ℕ) (at n : ℕ) → Bytes book → at + width kind * n ≤ length book
      → joined bytes_for (entries_at kind book at n) ≡ take (width kind * n) (drop at book)
  unfolding joined entries_at
  entries_write book at zero bytes h = let None : width kind * 0 ≡ 0 = omega arith in rw None
  entries_write book at (suc n) bytes h =
      let more = mul-suc (width kind) n in
      let far : width kind * suc n ≡ width kind + width kind * n = omega arith in
      let here = ap (field_bytes kind.widths) (codec.forth book at) ∙ fields_write kind.widths book at bytes (omega arith) in
      let next = entries_write book (at + width kind) n bytes (omega arith) in
      rw (here, next, far, ← drop-drop (width kind) at book, take-add (width kind) (width kind * n) (drop at book))

  pub entries_length : (book : List ℕ) (at n : ℕ) → length (entries_at kind book at n) ≡ n
  unfolding entries_at
  entries_length book at zero = refl
  entries_length book at (suc n) = ap suc (entries_length book (at + width kind) n)

  pub entries_fit : (book : List ℕ) (at n : ℕ) → Bytes book → Each Fits (entries_at kind book at n)
  unfolding Each entries_at
  entries_fit book at zero bytes = tt
  entries_fit book at (suc n) bytes =
      ((rw (codec.forth book at) (fields_fit kind.widths book at bytes), codec.read book at), entries_fit book (at + width kind) n bytes)

  -- what is known of a section where its layout stands
  pub record Stands (vs : List A) (book : List ℕ) (at : ℕ) (rest : List ℕ) : Type 0 where
    pub count : count_at book at ≡ length vs
    pub values : values_at kind book at ≡ vs
    pub ends : past kind book at ≡ at + length (section kind.widths fields vs)
    pub left : drop (past kind book at) book ≡ rest

  pub section_read : (vs : List A) (book : List ℕ) (at : ℕ) (rest : List ℕ)
      → Each Fits vs → drop at book ≡ section kind.widths fields vs ++ rest → Stands vs book at rest
  unfolding past
  section_read vs book at rest f e =
      let count = head_at book at (length vs) (joined bytes_for vs ++ rest) e in
      let next = tail_at book at (length vs) (joined bytes_for vs ++ rest) e in
      let far : at + 1 + width kind * count_at book at ≡ at + suc (length (joined bytes_for vs)) =
      rw count (omega (arith, joined_length vs f)) in
      record {
        count = count;
        values = ap (entries_at kind book (at + 1)) count ∙ entries_read vs book (at + 1) rest f next;
        ends = far;
        left =
            ap (λ (k : ℕ). drop k book) far ∙ after book at (length vs ∷ joined bytes_for vs) rest e;
      }

  pub section_write : (book : List ℕ) (at : ℕ) → Bytes book → past kind book at ≤ length book
      → drop at book ≡ section kind.widths fields (values_at kind book at) ++ drop (past kind book at) book
  unfolding past
  section_write book at bytes h =
      let room : at < length book = omega arith in
      let n = count_at book at in
      let body = entries_write book (at + 1) n bytes h in
      drop-cons book at 0 room
      ∙ ap (λ (l : List ℕ). n ∷ l) (
      ap (λ (k : ℕ). drop k book) (sym (add-one at))
      ∙ sym (take-append-drop (width kind * n) (drop (at + 1) book))
      ∙ rw (body, drop-drop (width kind * n) (at + 1) book))
      ∙ ap (λ (k : ℕ). (k ∷ joined bytes_for (entries_at kind book (at + 1) n)) ++ drop (at + 1 + width kind * n) book) (sym (entries_length book (at + 1) n))

  -- ---- faults

  -- each value has none of its faults, beside the one before it
  unfoldable pub Faultless : ℕ → Option A → List A → Type 0
  Faultless listed before [] = Unit
  Faultless listed before (x ∷ vs) = (kind.faults listed before x ≡ Ok tt) × Faultless listed (Some x) vs

  pub entries_sound : (book : List ℕ) (listed : ℕ) (before : Option ℕ) (at n : ℕ) → at ≤ length book
      → AllSound (in_turn (entry_look kind book listed) (width kind) before at n)
      → (at + width kind * n ≤ length book) × Faultless listed (prior (entry_at kind book) before) (entries_at kind book at n)
  unfolding Each in_turn entries_at entry_look Faultless
  entries_sound book listed before at zero h s = (omega arith, tt)
  entries_sound book listed before at (suc n) h s =
      let here = not_faulty _ _ _ _ s.0 in
      let whole = ltb-false (length book) (at + width kind) here.0 in
      let next = entries_sound book listed (Some at) (at + width kind) n whole s.1 in
      (omega (arith, next.0, mul-suc (width kind) n), (placed_sound _ _ _ here.1, next.1))

  pub sound_entries : (book : List ℕ) (listed : ℕ) (before : Option ℕ) (at n : ℕ) → at + width kind * n ≤ length book
      → Faultless listed (prior (entry_at kind book) before) (entries_at kind book at n)
      → AllSound (in_turn (entry_look kind book listed) (width kind) before at n)
  unfolding Each in_turn entries_at entry_look Faultless
  sound_entries book listed before at zero h s = tt
  sound_entries book listed before at (suc n) h s =
      let more = mul-suc (width kind) n in
      let whole : at + width kind ≤ length book = omega arith in (
        no_fault _ fault.Short _ _ (le-ltb (length book) (at + width kind) whole) (ap (placed kind.widths at) s.0),
        sound_entries book listed (Some at) (at + width kind) n (omega arith) s.1,
      )

  -- a section without fault
  pub record SectionSound (book : List ℕ) (listed at : ℕ) : Type 0 where
    pub in_range : kind.out_of_range (count_at book at) ≡ false
    pub whole : past kind book at ≤ length book
    pub values : Faultless listed None (values_at kind book at)

  pub section_sound : (book : List ℕ) (listed at : ℕ) → AllSound (section_looks kind book listed at) → SectionSound book listed at
  unfolding Each section_looks count_look past
  section_sound book listed at s =
      let count = not_faulty _ _ _ _ s.0 in
      let rest = entries_sound book listed None (at + 1) (count_at book at) (ltb-false (length book) (at + 1) count.0) s.1 in
      record { in_range = (not_faulty _ _ _ _ count.1).0; whole = rest.0; values = rest.1 }

  pub sound_section : (book : List ℕ) (listed at : ℕ) → SectionSound book listed at → AllSound (section_looks kind book listed at)
  unfolding Each section_looks count_look past
  sound_section book listed at s =
      let whole : at + 1 ≤ length book = omega (arith, s.whole) in (
        no_fault _ fault.Short at _ (le-ltb (length book) (at + 1) whole) (no_fault _ kind.count_fault at (Ok tt) s.in_range refl),
        sound_entries book listed None (at + 1) (count_at book at) s.whole s.values,
      )
