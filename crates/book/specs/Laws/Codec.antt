-- Writing and reading undo each other: numbers, and fields one after the other. Assumes nothing.
use Rattle.std.specs.Prelude.{◌≡◌, refl, List, [], ◌∷◌, ◌++◌, ℕ, zero, suc, ◌+◌, ◌*◌, ◌/◌, ◌%◌, ◌^◌, ◌≤◌, ◌<◌, length, get_or, take, drop}
use Rattle.std.proofs.Common.{sym, ap, ◌∙◌, append_assoc, pow-suc, div-lt_iff_lt-mul, add-one, arith, length-append, drop-drop, drop-cons, get_or-drop, take-add}
use Rattle.std.proofs.Math.Seq.{drop-append_seam}
use Rattle.book.specs.Layout.{little_endian, field_bytes}
use Rattle.book.specs.Reading.{number, fields_at, total}
use Rattle.book.specs.Promises.{Bytes}

-- ---- what stands at a place, and what follows

pub after : (book : List ℕ) (at : ℕ) (p q : List ℕ) → drop at book ≡ p ++ q → drop (at + length p) book ≡ q
after book at p q e = sym (drop-drop (length p) at book) ∙ ap (drop (length p)) e ∙ drop-append_seam p q

pub head_at : (book : List ℕ) (at y : ℕ) (q : List ℕ) → drop at book ≡ y ∷ q → get_or book at 0 ≡ y
head_at book at y q e =
    let here : at + 0 ≡ at = omega arith in
    sym (ap (λ (k : ℕ). get_or book k 0) here) ∙ sym (get_or-drop at book 0 0) ∙ ap (λ (l : List ℕ). get_or l 0 0) e

pub tail_at : (book : List ℕ) (at y : ℕ) (q : List ℕ) → drop at book ≡ y ∷ q → drop (at + 1) book ≡ q
tail_at book at y q e = after book at (y ∷ []) q e

-- ---- numbers

pub little-length : (w x : ℕ) → length (little_endian w x) ≡ w
unfolding little_endian
little-length zero x = refl
little-length (suc w) x = ap suc (little-length w (x / 256))

-- a number that was written is read back
pub number_read : (w x : ℕ) (book : List ℕ) (at : ℕ) (rest : List ℕ)
    → x < 256 ^ w → drop at book ≡ little_endian w x ++ rest → number w book at ≡ x
unfolding little_endian number
number_read zero x book at rest h e = omega arith
number_read (suc w) x book at rest h e =
    let small : x / 256 < 256 ^ w = (div-lt_iff_lt-mul {k = 256} (omega arith)).1 (rw pow-suc at h) in
    let low = head_at book at (x % 256) (little_endian w (x / 256) ++ rest) e in
    let high = number_read w (x / 256) book (at + 1) rest small (tail_at book at (x % 256) (little_endian w (x / 256) ++ rest) e) in
    omega arith

-- what was read is written again
pub number_write : (w : ℕ) (book : List ℕ) (at : ℕ) → Bytes book → at + w ≤ length book
    → little_endian w (number w book at) ≡ take w (drop at book)
unfolding little_endian number
number_write zero book at bytes h = refl
number_write (suc w) book at bytes h =
    let byte = bytes at in
    let low : (get_or book at 0 + 256 * number w book (at + 1)) % 256 ≡ get_or book at 0 = omega arith in
    let high : (get_or book at 0 + 256 * number w book (at + 1)) / 256 ≡ number w book (at + 1) = omega arith in
    let room : at < length book = omega arith in
    let next = number_write w book (at + 1) bytes (omega arith) in
    rw (low, high, next, add-one, drop-cons book at 0 room)

pub number_fits : (w : ℕ) (book : List ℕ) (at : ℕ) → Bytes book → number w book at < 256 ^ w
unfolding number
number_fits zero book at bytes = omega arith
number_fits (suc w) book at bytes =
    omega (arith, bytes at, number_fits w book (at + 1) bytes, pow-suc 256 w)

-- ---- fields

-- the fields are as many as the widths, and each fits its own
unfoldable pub Fit : List ℕ → List ℕ → Type 0
Fit [] [] = Unit
Fit [] (x ∷ xs) = ⊥
Fit (w ∷ ws) [] = ⊥
Fit (w ∷ ws) (x ∷ xs) = (x < 256 ^ w) × Fit ws xs

pub fields_length : (ws xs : List ℕ) → Fit ws xs → length (field_bytes ws xs) ≡ total ws
unfolding Fit field_bytes
fields_length [] [] f = refl
fields_length [] (x ∷ xs) f = elim f [ ]
fields_length (w ∷ ws) [] f = elim f [ ]
fields_length (w ∷ ws) (x ∷ xs) f =
    length-append (little_endian w x) (field_bytes ws xs)
    ∙ ap (λ (k : ℕ). k + length (field_bytes ws xs)) (little-length w x)
    ∙ ap (λ (k : ℕ). w + k) (fields_length ws xs f.1)

pub fields_read : (ws xs : List ℕ) (book : List ℕ) (at : ℕ) (rest : List ℕ)
    → Fit ws xs → drop at book ≡ field_bytes ws xs ++ rest → fields_at ws book at ≡ xs
unfolding Fit field_bytes fields_at
fields_read [] [] book at rest f e = refl
fields_read [] (x ∷ xs) book at rest f e = elim f [ ]
fields_read (w ∷ ws) [] book at rest f e = elim f [ ]
fields_read (w ∷ ws) (x ∷ xs) book at rest f e =
    let e' = e ∙ append_assoc (little_endian w x) (field_bytes ws xs) rest in
    let here = number_read w x book at (field_bytes ws xs ++ rest) f.0 e' in
    let there = after book at (little_endian w x) (field_bytes ws xs ++ rest) e' in
    let next : drop (at + w) book ≡ field_bytes ws xs ++ rest = ap (λ (k : ℕ). drop (at + k) book) (sym (little-length w x)) ∙ there in
    rw (here, fields_read ws xs book (at + w) rest f.1 next)

pub fields_write : (ws : List ℕ) (book : List ℕ) (at : ℕ) → Bytes book → at + total ws ≤ length book
    → field_bytes ws (fields_at ws book at) ≡ take (total ws) (drop at book)
unfolding field_bytes fields_at
fields_write [] book at bytes h = refl
fields_write (w ∷ ws) book at bytes h =
    let here = number_write w book at bytes (omega arith) in
    let next = fields_write ws book (at + w) bytes (omega arith) in
    rw (here, next, ← drop-drop w at book, take-add w (total ws) (drop at book))

pub fields_fit : (ws : List ℕ) (book : List ℕ) (at : ℕ) → Bytes book → Fit ws (fields_at ws book at)
unfolding Fit fields_at
fields_fit [] book at bytes = tt
fields_fit (w ∷ ws) book at bytes = (number_fits w book at bytes, fields_fit ws book (at + w) bytes)
