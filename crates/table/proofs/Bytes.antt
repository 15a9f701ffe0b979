-- The definitions of a byte's reading, by the tests that the code makes. Assumes nothing.
use Rattle.std.proofs.Common.{◌≡◌, ℕ, ◌+◌, ◌<◌, ◌≤◌, Bool, true, false, List, [], ◌++◌, length, get_or, drop, ap, add-one, drop_of_length-le, drop-cons}
use Rattle.text.specs.Text.{comma}
use Rattle.table.specs.Understood.{turned, parting, separator_from, plain_byte, plain_from}

-- ---- what parts cells

-- the first byte that parts is the separator; any other is passed over
module _ (text : List ℕ) (quoted : Bool) (i : ℕ) (h : i < length text) where
  pub separator_here : {p : Bool} → p ≡ parting quoted (get_or text i 0) → p ≡ true → separator_from quoted (drop i text) ≡ get_or text i 0
  unfolding separator_from
  separator_here e t = rw (drop-cons text i 0 h, separator_from, ← e, t)

  pub separator_on : {p t : Bool} → p ≡ parting quoted (get_or text i 0) → p ≡ false → t ≡ turned quoted (get_or text i 0)
      → separator_from quoted (drop i text) ≡ separator_from t (drop (i + 1) text)
  unfolding separator_from
  separator_on e f g = rw (drop-cons text i 0 h, separator_from, ← e, f, g, add-one i)

pub separator_none : (text : List ℕ) (quoted : Bool) (i : ℕ) → length text ≤ i → separator_from quoted (drop i text) ≡ comma
unfolding separator_from
separator_none text quoted i h = ap (separator_from quoted) (drop_of_length-le text h)

-- ---- byte by byte

pub plain_next : (separator : ℕ) (quoted : Bool) (text : List ℕ) (i : ℕ) {t : Bool} → i < length text → t ≡ turned quoted (get_or text i 0)
    → plain_from separator quoted (drop i text) ≡ plain_byte separator quoted (get_or text i 0) ++ plain_from separator t (drop (i + 1) text)
unfolding plain_from
plain_next separator quoted text i h e = rw (drop-cons text i 0 h, e, add-one i)

pub plain_end : (separator : ℕ) (quoted : Bool) (text : List ℕ) (i : ℕ) → length text ≤ i → plain_from separator quoted (drop i text) ≡ []
unfolding plain_from
plain_end separator quoted text i h = ap (plain_from separator quoted) (drop_of_length-le text h)
