-- The first fault of a list of looks. Assumes nothing.
use Rattle.std.specs.Prelude.{◌≡◌, refl, ◌⊎◌, Bool, true, false, List, [], ◌∷◌, ◌++◌, ℕ, Result, Ok, Err}
use Rattle.std.proofs.Common.{sym, ap, ◌∙◌, inl, inr}
use Rattle.book.specs.Layout.{Each}
use Rattle.book.specs.Reading.{amiss_if, fault_if, placed, first_fault, Look, refused, amiss}
use Rattle.book.specs.Promises.{AllSound}
use Rattle.book.specs.declared.Fault.{Fault}
use Rattle.std.specs.Result.{result_and}
use Rattle.book.specs.declared.Amiss.{Amiss}

-- ---- what is amiss

-- where nothing is amiss this fault is not there, and nothing after it
pub not_amiss : (b : Bool) (f : Fault) (k : ℕ) (rest : Result Unit Amiss) → amiss_if b f k rest ≡ Ok tt → (b ≡ false) × (rest ≡ Ok tt)
not_amiss true f k rest e = (cc, cc)
not_amiss false f k rest e = (refl, e)

pub none_amiss : (b : Bool) (f : Fault) (k : ℕ) (rest : Result Unit Amiss) → b ≡ false → rest ≡ Ok tt → amiss_if b f k rest ≡ Ok tt
none_amiss b f k rest e h = rw e h

-- a fault that is there, and one that is not: the test's answer and what it means
pub amiss_here : {b t : Bool} (f : Fault) (k : ℕ) (rest : Result Unit Amiss) → b ≡ t → b ≡ true → amiss f k ≡ amiss_if t f k rest
amiss_here f k rest e taken = sym (ap (λ (x : Bool). amiss_if x f k rest) (sym e ∙ taken))

pub amiss_as : {b t : Bool} {f g : Fault} (k : ℕ) (rest : Result Unit Amiss) → b ≡ t → b ≡ true → f ≡ g → amiss f k ≡ amiss_if t g k rest
amiss_as {g = g} k rest e taken h = ap (λ (x : Fault). amiss x k) h ∙ amiss_here g k rest e taken

pub past_amiss : {b t : Bool} (f : Fault) (k : ℕ) {rest x : Result Unit Amiss} → b ≡ t → b ≡ false → x ≡ rest → x ≡ amiss_if t f k rest
past_amiss f k {rest} e left h = h ∙ sym (ap (λ (x : Bool). amiss_if x f k rest) (sym e ∙ left))

-- ---- one look

-- a look that is sound has not this fault, and nothing after it
pub not_faulty : (b : Bool) (f : Fault) (at : ℕ) (rest : Look) → fault_if b f at rest ≡ Ok tt → (b ≡ false) × (rest ≡ Ok tt)
not_faulty true f at rest e = (cc, cc)
not_faulty false f at rest e = (refl, e)

pub no_fault : (b : Bool) (f : Fault) (at : ℕ) (rest : Look) → b ≡ false → rest ≡ Ok tt → fault_if b f at rest ≡ Ok tt
no_fault b f at rest e h = rw e h

pub faulty : {b t : Bool} (f : Fault) (at : ℕ) (rest : Look) → b ≡ t → b ≡ true → refused f at ≡ fault_if t f at rest
faulty f at rest e taken = sym (ap (λ (x : Bool). fault_if x f at rest) (sym e ∙ taken))

-- the same at a place that is told in another way
pub faulty_at : {b t : Bool} (f : Fault) {at to : ℕ} (rest : Look) → b ≡ t → b ≡ true → at ≡ to → refused f at ≡ fault_if t f to rest
faulty_at f {to = to} rest e taken h = ap (refused f) h ∙ faulty f to rest e taken

pub past_fault : {b t : Bool} (f : Fault) (at : ℕ) {rest : Look} {look : Look} → b ≡ t → b ≡ false → look ≡ rest → look ≡ fault_if t f at rest
past_fault f at {rest} e left h = h ∙ sym (ap (λ (x : Bool). fault_if x f at rest) (sym e ∙ left))

-- where a look is sound nothing is amiss
pub placed_sound : (ws : List ℕ) (at : ℕ) (x : Result Unit Amiss) → placed ws at x ≡ Ok tt → x ≡ Ok tt
placed_sound ws at (Ok t) e = refl
placed_sound ws at (Err x) e = cc

-- ---- a list of looks

pub sound_append : (l m : List Look) → AllSound (l ++ m) → AllSound l × AllSound m
unfolding Each
sound_append [] m h = (tt, h)
sound_append (x ∷ l) m h = let next = sound_append l m h.1 in ((h.0, next.0), next.1)

pub append_sound : (l m : List Look) → AllSound l → AllSound m → AllSound (l ++ m)
unfolding Each
append_sound [] m h k = k
append_sound (x ∷ l) m h k = (h.0, append_sound l m h.1 k)

-- without a fault the reply is good
pub all_sound : {R : Type 0} (good : R) (l : List Look) → AllSound l → first_fault good l ≡ Ok good
unfolding Each first_fault
all_sound good [] h = refl
all_sound good (x ∷ l) h = rw h.0 (all_sound good l h.1)

-- with a first fault it is that fault
pub first_faulty : {R : Type 0} (good : R) (l : List Look) (f : Fault) (at : ℕ) (m : List Look) → AllSound l
    → first_fault good (l ++ (refused f at ∷ m)) ≡ refused f at
unfolding Each first_fault
first_faulty good [] f at m h = refl
first_faulty good (x ∷ l) f at m h = rw h.0 (first_faulty good l f at m h.1)

-- a list has no fault or a first one
pub record Split (l : List Look) : Type 0 where
  pub fault : Fault
  pub place : ℕ
  pub before : List Look
  pub after : List Look
  pub order : l ≡ before ++ (refused fault place ∷ after)
  pub sound : AllSound before

pub split : (l : List Look) → AllSound l ⊎ Split l
unfolding Each
split [] = inl tt
split (x ∷ l) = go x refl (split l)
  where
    go : (k : Look) → x ≡ k → AllSound l ⊎ Split l → AllSound (x ∷ l) ⊎ Split (x ∷ l)
    go (Ok t) e (inl s) = inl (e, s)
    go (Ok t) e (inr s) =
        inr record {
          fault = s.fault;
          place = s.place;
          before = x ∷ s.before;
          after = s.after;
          order = ap (λ (m : List Look). x ∷ m) s.order;
          sound = (e, s.sound);
        }
    go (Err x) e s =
        inr record {
          fault = x.fault;
          place = x.place;
          before = [];
          after = l;
          order = ap (λ (k : Look). k ∷ l) e;
          sound = tt;
        }

-- the fault is in the first part, or the rest decides, whatever the first part passes on
pub first-append : {Q R : Type 0} (passed : Q) (good : R) (l m : List Look)
    → first_fault good (l ++ m) ≡ result_and (first_fault passed l) (first_fault good m)
unfolding first_fault
first-append passed good [] m = refl
first-append passed good (Ok t ∷ l) m = first-append passed good l m
first-append passed good (Err e ∷ l) m = refl

-- ---- the same in whichever words a fault is told

-- what is told of a list: `told` of its first fault, or what there is without one
unfoldable pub first_told : {R : Type 0} → (Fault → ℕ → R) → R → List Look → R
first_told told good [] = good
first_told told good (x ∷ l) = elim x [ Ok t ↦ first_told told good l | Err e ↦ told e.fault e.place ]

-- the first fault is what is told where it is told as it is
pub first_fault_told : {R : Type 0} (good : R) (l : List Look) → first_fault good l ≡ first_told refused (Ok good) l
unfolding first_fault first_told
first_fault_told good [] = refl
first_fault_told good (Ok t ∷ l) = first_fault_told good l
first_fault_told good (Err e ∷ l) = refl

-- and any words are had of it by its two cases
pub told_of_first : {R : Type 0} (told : Fault → ℕ → R) (good : R) (l : List Look)
    → first_told told good l ≡ elim (first_fault good l) [ Ok r ↦ r | Err e ↦ told e.fault e.place ]
unfolding first_fault first_told
told_of_first told good [] = refl
told_of_first told good (Ok t ∷ l) = told_of_first told good l
told_of_first told good (Err e ∷ l) = refl

pub all_sound_told : {R : Type 0} (told : Fault → ℕ → R) (good : R) (l : List Look) → AllSound l → first_told told good l ≡ good
unfolding Each first_told
all_sound_told told good [] h = refl
all_sound_told told good (x ∷ l) h = rw h.0 (all_sound_told told good l h.1)

pub first_faulty_told : {R : Type 0} (told : Fault → ℕ → R) (good : R) (l : List Look) (f : Fault) (at : ℕ) (m : List Look) → AllSound l
    → first_told told good (l ++ (refused f at ∷ m)) ≡ told f at
unfolding Each first_told
first_faulty_told told good [] f at m h = refl
first_faulty_told told good (x ∷ l) f at m h = rw h.0 (first_faulty_told told good l f at m h.1)

pub first_append_told : {R : Type 0} (told : Fault → ℕ → R) (good : R) (l m : List Look)
    → first_told told good (l ++ m) ≡ first_told told (first_told told good m) l
unfolding first_told
first_append_told told good [] m = refl
first_append_told told good (Ok t ∷ l) m = first_append_told told good l m
first_append_told told good (Err e ∷ l) m = refl
