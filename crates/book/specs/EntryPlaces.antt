-- 01's own rule of places, as it stood before request 05: "the place of the count or entry concerned". Kept so that `proofs/Laws/Fields` can say that no
-- number moved, and which places did not. Nothing here is proved: these are definitions, and they run.
use Rattle.std.specs.Prelude.{◌≡◌, ◌⊎◌, List, [], ◌∷◌, ◌++◌, ℕ, ◌+◌, ◌≤◌, ltb, length, Option, None, Result, Ok, Err}
use Rattle.book.specs.Faults.{fault_number}
use Rattle.book.specs.Reading.{Kind, fault_if, codes, rows_of, policies_of, width, entry_at, prior, count_look, in_turn, count_at, past, form_of, listed_in, end_look, first_fault, starts_of, Look, refused}
use Rattle.book.specs.declared.Fault.TheVariants as fault
use Rattle.book.specs.declared.Starts.{Starts}
use Rattle.book.specs.declared.Amiss.{Amiss}
use Rattle.book.specs.declared.FaultAt.{FaultAt}

-- whatever is amiss with an entry is told at the entry's start
abbrev pub at_entry : ℕ → Result Unit Amiss → Look
at_entry at (Ok t) = Ok tt
at_entry at (Err e) = refused e.fault at

abbrev pub entry_was : {A : Type 0} → Kind A → List ℕ → ℕ → Option ℕ → ℕ → Look
entry_was kind book listed last at =
    fault_if (ltb (length book) (at + width kind)) fault.Short at (at_entry at (kind.faults listed (prior (entry_at kind book) last) (entry_at kind book at)))

abbrev pub section_was : {A : Type 0} → Kind A → List ℕ → ℕ → ℕ → List Look
section_was kind book listed at =
    count_look kind book at ∷ in_turn (entry_was kind book listed) (width kind) None (at + 1) (count_at book at)

-- the reply by that rule
unfoldable pub read_was : List ℕ → Result Starts FaultAt
read_was book =
    let form = form_of book in
    let listed = listed_in form book in
    let s = starts_of form book in
    first_fault s
    (section_was codes book 0 s.permissions
    ++ (section_was (rows_of form) book listed s.rows
    ++ (section_was (policies_of form) book listed s.policies
    ++ (end_look book (past (policies_of form) book s.policies) ∷ []))))

-- the numbers whose field starts where its count or entry does: 2, 12 to 15 and 17 to 19
abbrev pub PlaceStays : ℕ → Type 0
PlaceStays n = (n ≡ 2) ⊎ (((12 ≤ n) × (n ≤ 15)) ⊎ ((17 ≤ n) × (n ≤ 19)))

-- what a reply is beside that of the rule before: the same if it is good, refused with the same fault if it is not, and at the same place if the
-- number is one of those
abbrev pub Beside : Result Starts FaultAt → Result Starts FaultAt → Type 0
Beside (Ok s) (Ok t) = s ≡ t
Beside (Ok s) (Err was) = ⊥
Beside (Err e) (Ok t) = ⊥
Beside (Err e) (Err was) = (e.fault ≡ was.fault) × (PlaceStays (fault_number e.fault) → e.place ≡ was.place)
