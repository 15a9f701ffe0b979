-- The first fault of what is looked at in values: there is none exactly if nothing is amiss, and of two lists one after the other the first decides.
-- Assumes nothing.
use Rattle.std.specs.Prelude.{◌≡◌, refl, List, [], ◌∷◌, ◌++◌, ℕ, Option, Some, None, Result, Ok, Err}
use Rattle.std.proofs.Common.{arith}
use Rattle.book.specs.Reading.{Kind}
use Rattle.book.specs.Laws.Sections.{Codec, Faultless}
use Rattle.book.specs.declared.Fault.{Fault}
use Rattle.values.specs.Writing.{value_looks, first_of}
use Rattle.book.specs.declared.Amiss.{Amiss}

-- the first of two, if there is one
abbrev pub or_else : Option Fault → Option Fault → Option Fault
or_else None b = b
or_else (Some f) b = Some f

pub first-append : (l m : List (Result Unit Amiss)) → first_of (l ++ m) ≡ or_else (first_of l) (first_of m)
unfolding first_of
first-append [] m = refl
first-append (Ok t ∷ l) m = first-append l m
first-append (Err e ∷ l) m = refl

-- where neither has a fault both are without
pub neither : (a b : Option Fault) → or_else a b ≡ None → (a ≡ None) × (b ≡ None)
neither None b e = (refl, e)
neither (Some f) b e = (e, let z : ◌≡◌ {A = ℕ} 0 1 = cc in absurd (omega arith))

-- without a fault nothing is amiss with the first, and the rest has none
pub none_head : (x : Result Unit Amiss) (l : List (Result Unit Amiss)) → first_of (x ∷ l) ≡ None → (x ≡ Ok tt) × (first_of l ≡ None)
unfolding first_of
none_head (Ok t) l e = (refl, e)
none_head (Err y) l e = let z : ◌≡◌ {A = ℕ} 0 1 = cc in absurd (omega arith)

-- values that have no fault are faultless, as the reader's laws call it
pub none_faultless : {A : Type 0} (kind : Kind A) (fields : A → List ℕ) (codec : Codec kind fields) (listed : ℕ) (before : Option A) (l : List A)
    → first_of (value_looks kind listed before l) ≡ None → Faultless kind fields codec listed before l
unfolding value_looks Faultless
none_faultless kind fields codec listed before [] e = tt
none_faultless kind fields codec listed before (x ∷ l) e =
    let h = none_head (kind.faults listed before x) (value_looks kind listed (Some x) l) e in
    (h.0, none_faultless kind fields codec listed (Some x) l h.1)
