-- Laws of the numbers that stand in a book: past the end they are 0, and a number of four bytes is two of two. Assumes nothing.
use mathlib.Core.Path.{◌≡◌, refl}
use mathlib.Core.List.{List}
use Prim.Native.Nat.{ℕ, zero, suc, ◌+◌, ◌-◌, ◌*◌, ◌≤◌, ◌<◌}
use native.Mathlib.Nat.{add_assoc, lt_of_not-le}
use native.Mathlib.Decide.{dec_le}
use native.Mathlib.Omega.{arith}
use lib.Dec.{ltb}
use lib.ListN.{length, get_or, get_or-eq_default}
use borrow.Author.Tests.{le-ltb, lt-ltb}
use Rattle.book.specs.Reading.{number}

-- past the end there are zeros
pub number_past : (w : ℕ) (book : List ℕ) (at : ℕ) → length book ≤ at → number w book at ≡ 0
unfolding number
number_past zero book at h = refl
number_past (suc w) book at h =
    let here : get_or book at 0 ≡ 0 = get_or-eq_default book 0 h in
    let next = number_past w book (at + 1) (omega arith) in
    omega arith

pub number_1 : (book : List ℕ) (at : ℕ) → number 1 book at ≡ get_or book at 0
unfolding number
number_1 book at = omega arith

pub number_2 : (book : List ℕ) (at : ℕ) → number 2 book at ≡ get_or book at 0 + 256 * get_or book (at + 1) 0
unfolding number
number_2 book at = omega arith

pub number_4 : (book : List ℕ) (at : ℕ) → number 4 book at ≡ number 2 book at + 65536 * number 2 book (at + 2)
unfolding number
number_4 book at = simp add_assoc (omega arith)

-- a part is cut exactly if it ends past the book's end
pub cut_by : (len at wide : ℕ) → at ≤ len → ltb (len - at) wide ≡ ltb len (at + wide)
cut_by len at wide h = go (dec_le wide (len - at))
  where
    go : Dec (wide ≤ len - at) → ltb (len - at) wide ≡ ltb len (at + wide)
    go (yes l) = let m : at + wide ≤ len = omega arith in simp (le-ltb _ _ l, le-ltb _ _ m)
    go (no n) =
        let l : len - at < wide = lt_of_not-le n in
        let m : len < at + wide = omega arith in
        simp (lt-ltb _ _ l, lt-ltb _ _ m)
