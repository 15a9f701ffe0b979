-- Where an entry stands: it is whole there, it is the value of that index, and past the last there is none. Assumes nothing.
use Rattle.std.specs.Prelude.{◌≡◌, Bool, true, false, List, leb, ltb, length, get_or, Option, Some, None}
use Rattle.std.proofs.Math.Path.{refl, sym, ap}
use Rattle.std.proofs.Common.{◌∙◌}
use Rattle.std.proofs.Math.Option.{Option as Maybe, some, none}
use Prim.Native.Nat.{ℕ, zero, suc, ◌+◌, ◌*◌, ◌≤◌, ◌<◌}
use Rattle.std.proofs.Math.Nat.{lt_of_not-le, mul-suc, mul-le-mul_left}
use Rattle.std.proofs.Math.Decide.{dec_le}
use native.Mathlib.Omega.{arith}
use Rattle.std.proofs.Math.ListN.{get_elem?, get_or-eq_default}
use borrow.Author.Tests.{le-leb, lt-leb, le-ltb, lt-ltb, ltb-false}
use Rattle.book.specs.Reading.{Kind, width, entry_at, count_at, past}
use Rattle.book.specs.Parts.{entries_at, values_at, place_of}

module _ (wide : ℕ) (book : List ℕ) (start i : ℕ) where
  -- past the last entry
  pub place_past : count_at book start ≤ i → place_of wide book start i ≡ None
  unfolding place_of
  place_past h = rw (place_of, le-leb (count_at book start) i h)

  -- one that the book does not have whole
  pub place_cut : i < count_at book start → length book < start + 1 + wide * i + wide → place_of wide book start i ≡ None
  unfolding place_of
  place_cut h l = rw (place_of, lt-leb (count_at book start) i h) (rw (lt-ltb (length book) (start + 1 + wide * i + wide) l))

  pub place_at : i < count_at book start → start + 1 + wide * i + wide ≤ length book → place_of wide book start i ≡ Some (start + 1 + wide * i)
  unfolding place_of
  place_at h l = rw (place_of, lt-leb (count_at book start) i h) (rw (le-ltb (length book) (start + 1 + wide * i + wide) l))

  -- where one stands it is whole
  within_by : (a b : Bool) {at : ℕ} → ltb (length book) (start + 1 + wide * i + wide) ≡ b
      → elim a [ true ↦ None | false ↦ elim b [ true ↦ None | false ↦ Some (start + 1 + wide * i) ] ] ≡ Some at
      → at + wide ≤ length book
  within_by true b s e = let z : ◌≡◌ {A = ℕ} 0 1 = cc in omega arith
  within_by false true s e = let z : ◌≡◌ {A = ℕ} 0 1 = cc in omega arith
  within_by false false {at} s e =
      let h = ltb-false (length book) (start + 1 + wide * i + wide) s in
      let same : start + 1 + wide * i ≡ at = cc in
      omega arith

  pub place_within : {at : ℕ} → place_of wide book start i ≡ Some at → at + wide ≤ length book
  unfolding place_of
  place_within e = within_by (leb (count_at book start) i) (ltb (length book) (start + 1 + wide * i + wide)) refl e

-- a section that has an entry has its count within the book
pub counted : (book : List ℕ) (start i : ℕ) → i < get_or book start 0 → start < length book
counted book start i h = go (dec_le (length book) start)
  where
    go : Dec (length book ≤ start) → start < length book
    go (yes l) = let none : get_or book start 0 ≡ 0 = get_or-eq_default book 0 l in omega arith
    go (no n) = lt_of_not-le n

-- ---- entries by index

module _ {A : Type 0} (kind : Kind A) (book : List ℕ) where
  nth : (at n i : ℕ) → i < n → get_elem? (entries_at kind book at n) i ≡ some (entry_at kind book (at + width kind * i))
  unfolding entries_at
  nth at zero i h = absurd (omega arith)
  nth at (suc n) zero h = let here : at + width kind * 0 ≡ at = omega arith in rw here
  nth at (suc n) (suc i) h =
      let there : at + width kind * suc i ≡ at + width kind + width kind * i = omega (arith, mul-suc (width kind) i) in
      rw there (nth (at + width kind) n i (omega arith))

  nth_none : (at n i : ℕ) → n ≤ i → get_elem? (entries_at kind book at n) i ≡ none
  unfolding entries_at
  nth_none at zero i h = refl
  nth_none at (suc n) zero h = absurd (omega arith)
  nth_none at (suc n) (suc i) h = nth_none (at + width kind) n i (omega arith)

  -- what stands at the place of the i-th entry, if it stands anywhere
  abbrev pub standing : Option ℕ → Maybe A
  standing (Some at) = some (entry_at kind book at)
  standing None = none

  -- the i-th entry of a whole section is the i-th of its values
  pub standing_value : (start i : ℕ) → past kind book start ≤ length book
      → standing (place_of (width kind) book start i) ≡ get_elem? (values_at kind book start) i
  unfolding past
  standing_value start i h = go (dec_le (count_at book start) i)
    where
      go : Dec (count_at book start ≤ i) → standing (place_of (width kind) book start i) ≡ get_elem? (values_at kind book start) i
      go (yes l) =
          ap standing (place_past (width kind) book start i l) ∙ sym (nth_none (start + 1) (count_at book start) i l)
      go (no n) =
          let l : i < count_at book start = lt_of_not-le n in
          let far = mul-le-mul_left (width kind) l in
          let more = mul-suc (width kind) i in
          ap standing (place_at (width kind) book start i l (omega arith)) ∙ sym (nth (start + 1) (count_at book start) i l)

  -- where no count stands, nothing does
  pub standing-none : (start i : ℕ) → length book ≤ start → standing (place_of (width kind) book start i) ≡ none
  standing-none start i h =
      let count : count_at book start ≡ 0 = get_or-eq_default book 0 h in
      ap standing (place_past (width kind) book start i (omega arith))
