-- The three kinds of entry: their values have no fault exactly if they are admitted. Assumes nothing.
use Rattle.std.specs.Prelude.{◌≡◌, refl, Bool, true, false, ℕ, ◌^◌, ◌≤◌, ◌<◌, leb, Option, Some, None, Ok, Err, Result}
use Rattle.std.proofs.Common.{ap, lt_of_lt_of_le, arith, pow_mono, leb-false}
use mathlib.Core.List.{List, [], ◌∷◌}
use Rattle.std.proofs.lemmas.Bool.{lt-leb}
use Rattle.roster.specs.Refusals.{own_ruling, made_by}
use Rattle.roster.proofs.Laws.Rulings.{policy_within}
use Rattle.roster.specs.declared.Policy.{Policy}
use Rattle.book.specs.Layout.{code_fields, row_fields, edition_widths, edition_fields, policy_fields, permission_limit, Own, OwnEdition, Each, Below, Ascends, PolicyFits}
use Rattle.book.specs.Reading.{Kind, fields_at, past_listed, row_amiss, codes, rows, policies, by_made}
use Rattle.book.specs.Laws.Codec.{Fit}
use Rattle.book.specs.Laws.First.{not_amiss, none_amiss}
use Rattle.book.specs.Laws.Sections.{Codec, Fits, Faultless}
use Rattle.book.specs.declared.Row.{Row}
use Rattle.book.specs.declared.Fault.TheVariants as fault
use Rattle.book.specs.Laws.Values.{RowFits}
use Rattle.roster.specs.declared.Refusal.{Refusal}

-- ---- a value and its fields

pub code_codec : Codec codes code_fields
unfolding fields_at
code_codec = record { own = λ x. Unit {0}; back = λ x o. refl; read = λ book at. tt; forth = λ book at. refl }

old_back : (x : Row) → Own false x → (rows false).value (row_fields false x) ≡ x
old_back x o = rw o

pub row_codec : (persons : Bool) → Codec (rows persons) (row_fields persons)
unfolding fields_at
row_codec false = record { own = Own false; back = old_back; read = λ book at. refl; forth = λ book at. refl }
row_codec true = record { own = Own true; back = λ x o. refl; read = λ book at. tt; forth = λ book at. refl }

first_back : (p : Policy) → OwnEdition false p → (policies false).value (policy_fields false p) ≡ p
first_back p o = rw o

pub policy_codec : (editions : Bool) → Codec (policies editions) (policy_fields editions)
unfolding fields_at
policy_codec false = record { own = OwnEdition false; back = first_back; read = λ book at. refl; forth = λ book at. refl }
policy_codec true = record { own = OwnEdition true; back = λ p o. refl; read = λ book at. tt; forth = λ book at. refl }

-- ---- lists

pub each : {A : Type 0} {P Q : A → Type 0} → ((x : A) → P x → Q x) → (l : List A) → Each P l → Each Q l
unfolding Each
each f [] h = tt
each f (x ∷ l) h = (f x h.0, each f l h.1)

pub each_both : {A : Type 0} (P Q : A → Type 0) (l : List A) → Each P l → Each Q l → Each (λ x. P x × Q x) l
unfolding Each
each_both P Q [] p q = tt
each_both P Q (x ∷ l) p q = ((p.0, q.0), each_both P Q l p.1 q.1)

each_free : {A : Type 0} (l : List A) → Each (λ x. Unit {0}) l
unfolding Each
each_free [] = tt
each_free (x ∷ l) = (tt, each_free l)

-- ---- faults: values that ascend by a number and have no further fault

-- the entry before comes before the first
abbrev pub After : {A : Type 0} → (A → ℕ) → Option A → List A → Type 0
After key None l = Unit
After key (Some x) l = Below key x l

module _ {A : Type 0} (kind : Kind A) (fields : A → List ℕ) (codec : Codec kind fields) (listed : ℕ) (key : A → ℕ) (more : A → Type 0)
    (there : (before : Option A) (x : A) (l : List A) → kind.faults listed before x ≡ Ok tt → After key before (x ∷ l) × more x)
    (back : (before : Option A) (x : A) (l : List A) → After key before (x ∷ l) → more x → kind.faults listed before x ≡ Ok tt) where
  pub ascend : (before : Option A) (l : List A) → Faultless kind fields codec listed before l → After key before l × Ascends key l × Each more l
  unfolding Faultless Ascends Each Below
  ascend None [] h = (tt, tt, tt)
  ascend (Some y) [] h = (tt, tt, tt)
  ascend before (x ∷ l) h =
      let here = there before x l h.0 in
      let next = ascend (Some x) l h.1 in
      (here.0, (next.0, next.1), (here.1, next.2))

  pub ascending : (before : Option A) (l : List A) → After key before l → Ascends key l → Each more l → Faultless kind fields codec listed before l
  unfolding Faultless Ascends Each
  ascending before [] a s m = tt
  ascending before (x ∷ l) a s m = (back before x l a m.0, ascending (Some x) l s.0 s.1 m.1)

code_there : (listed : ℕ) (before : Option ℕ) (x : ℕ) (l : List ℕ) → codes.faults listed before x ≡ Ok tt → After (λ c. c) before (x ∷ l) × Unit {0}
unfolding Below
code_there listed None x l e = (tt, tt)
code_there listed (Some y) x l e = (leb-false x y (not_amiss _ _ _ _ e).0, tt)

code_back : (listed : ℕ) (before : Option ℕ) (x : ℕ) (l : List ℕ) → After (λ c. c) before (x ∷ l) → Unit {0} → codes.faults listed before x ≡ Ok tt
unfolding Below
code_back listed None x l a m = refl
code_back listed (Some y) x l a m = none_amiss (leb x y) fault.Code 0 (Ok tt) (lt-leb x y a) refl

-- a row is sound exactly if it has neither fault
row_sound : (persons low beyond : Bool) → row_amiss persons low beyond ≡ Ok tt → (low ≡ false) × (beyond ≡ false)
row_sound persons false false e = (refl, refl)
row_sound persons false true e = (refl, cc)
row_sound persons true false e = (cc, refl)
row_sound persons true true e = (cc, cc)

sound_row : (persons : Bool) {low beyond : Bool} → low ≡ false → beyond ≡ false → row_amiss persons low beyond ≡ Ok tt
sound_row persons l b = rw (l, b)

row_there : (persons : Bool) (listed : ℕ) (before : Option Row) (x : Row) (l : List Row) → (rows persons).faults listed before x ≡ Ok tt
    → After (λ row. row.staff) before (x ∷ l) × (x.holdings < 2 ^ listed)
unfolding Below
row_there persons listed None x l e = (tt, leb-false (2 ^ listed) x.holdings (row_sound persons false (past_listed listed x.holdings) e).1)
row_there persons listed (Some y) x l e =
    let s = row_sound persons (leb x.staff y.staff) (past_listed listed x.holdings) e in
    (leb-false x.staff y.staff s.0, leb-false (2 ^ listed) x.holdings s.1)

row_back : (persons : Bool) (listed : ℕ) (before : Option Row) (x : Row) (l : List Row)
    → After (λ row. row.staff) before (x ∷ l) → x.holdings < 2 ^ listed → (rows persons).faults listed before x ≡ Ok tt
unfolding Below
row_back persons listed None x l a m = sound_row persons refl (lt-leb (2 ^ listed) x.holdings m)
row_back persons listed (Some y) x l a m = sound_row persons (lt-leb x.staff y.staff a) (lt-leb (2 ^ listed) x.holdings m)

-- codes have no fault exactly if they ascend
pub codes_sound : (listed : ℕ) (l : List ℕ) → Faultless codes code_fields code_codec listed None l → Ascends (λ c. c) l
codes_sound listed l h = (ascend codes code_fields code_codec listed (λ c. c) (λ c. Unit {0}) (code_there listed) (code_back listed) None l h).1

pub sound_codes : (listed : ℕ) (l : List ℕ) → Ascends (λ c. c) l → Faultless codes code_fields code_codec listed None l
sound_codes listed l a = ascending codes code_fields code_codec listed (λ c. c) (λ c. Unit {0}) (code_there listed) (code_back listed) None l tt a (each_free l)

-- rows have None exactly if their staff numbers ascend and their holdings are within the listed permissions
pub rows_sound : (persons : Bool) (listed : ℕ) (l : List Row) → Faultless (rows persons) (row_fields persons) (row_codec persons) listed None l
    → Ascends (λ row. row.staff) l × Each (λ row. row.holdings < 2 ^ listed) l
rows_sound persons listed l h =
    let both = ascend (rows persons) (row_fields persons) (row_codec persons) listed (λ row. row.staff) (λ row. row.holdings < 2 ^ listed) (row_there persons listed) (row_back persons listed) None l h in
    (both.1, both.2)

pub sound_rows : (persons : Bool) (listed : ℕ) (l : List Row) → Ascends (λ row. row.staff) l → Each (λ row. row.holdings < 2 ^ listed) l
    → Faultless (rows persons) (row_fields persons) (row_codec persons) listed None l
sound_rows persons listed l a m =
    ascending (rows persons) (row_fields persons) (row_codec persons) listed (λ row. row.staff) (λ row. row.holdings < 2 ^ listed) (row_there persons listed) (row_back persons listed) None l tt a m

-- ---- policies

-- what is made is a policy exactly if nothing is refused
admitted : (r : Result Unit Refusal) (p : Policy) → by_made (made_by r p) ≡ Ok tt → r ≡ Ok tt
admitted (Ok tt) p e = refl
admitted (Err refusal) p e = cc

policy_there : (editions : Bool) (listed : ℕ) (before : Option Policy) (p : Policy) → (policies editions).faults listed before p ≡ Ok tt → PolicyFits listed p
policy_there editions listed before p e =
    let first = not_amiss _ _ _ _ e in
    record { task = leb-false (2 ^ listed) p.task first.0; sound = admitted (own_ruling p) p first.1 }

policy_back : (editions : Bool) (listed : ℕ) (before : Option Policy) (p : Policy) → PolicyFits listed p → (policies editions).faults listed before p ≡ Ok tt
policy_back editions listed before p f =
    none_amiss (past_listed listed p.task) fault.Task 0 _ (lt-leb (2 ^ listed) p.task f.task)
    (ap (λ (r : Result Unit Refusal). by_made (made_by r p)) f.sound)

module _ (editions : Bool) (listed : ℕ) where
  pub policies_sound : (before : Option Policy) (l : List Policy) → Faultless (policies editions) (policy_fields editions) (policy_codec editions) listed before l
      → Each (PolicyFits listed) l
  unfolding Faultless Each
  policies_sound before [] h = tt
  policies_sound before (p ∷ l) h = (policy_there editions listed before p h.0, policies_sound (Some p) l h.1)

  pub sound_policies : (before : Option Policy) (l : List Policy) → Each (PolicyFits listed) l
      → Faultless (policies editions) (policy_fields editions) (policy_codec editions) listed before l
  unfolding Faultless Each
  sound_policies before [] h = tt
  sound_policies before (p ∷ l) h = (policy_back editions listed before p h.0, sound_policies (Some p) l h.1)

-- ---- widths: admitted values fit their fields

pub code_fits : (code : ℕ) → code < 2 ^ 16 → Fits codes code_fields code_codec code
unfolding Fit code_codec
code_fits code h = ((h, tt), tt)

pub fits_code : (code : ℕ) → Fits codes code_fields code_codec code → code < 2 ^ 16
unfolding Fit
fits_code code h = h.0.0

pub each-row-fits : (persons : Bool) (listed : ℕ) (l : List Row) → Each (λ row. row.staff < 2 ^ 32) l → Each (λ row. row.person < 2 ^ 32) l
    → Each (Own persons) l → Each (λ row. row.holdings < 2 ^ listed) l → Each (RowFits persons listed) l
unfolding Each
each-row-fits persons listed [] s p o h = tt
each-row-fits persons listed (x ∷ l) s p o h =
    (record { staff = s.0; person = p.0; own = o.0; holdings = h.0 }, each-row-fits persons listed l s.1 p.1 o.1 h.1)

pub row_fits : (persons : Bool) (listed : ℕ) → listed ≤ permission_limit → (row : Row) → RowFits persons listed row
    → Fits (rows persons) (row_fields persons) (row_codec persons) row
unfolding Fit row_codec
row_fits false listed few row h = ((h.staff, (lt_of_lt_of_le h.holdings (pow_mono few), tt)), h.own)
row_fits true listed few row h = ((h.staff, (h.person, (lt_of_lt_of_le h.holdings (pow_mono few), tt))), tt)

pub fits-row : (persons : Bool) (row : Row) → Fits (rows persons) (row_fields persons) (row_codec persons) row
    → (row.staff < 2 ^ 32) × (row.person < 2 ^ 32) × Own persons row
unfolding Fit row_codec
fits-row false row h = let o : row.person ≡ row.staff = h.1 in (h.0.0, omega (arith, h.0.0), o)
fits-row true row h = (h.0.0, h.0.1.0, tt)

pub edition_fits : (editions : Bool) (p : Policy) → p.edition < 256 → Fit (edition_widths editions) (edition_fields editions p)
unfolding Fit
edition_fits false p h = tt
edition_fits true p h = (h, tt)

pub own_edition : (editions : Bool) (p : Policy) → OwnEdition editions p → (policy_codec editions).own p
unfolding policy_codec
own_edition false p o = o
own_edition true p o = o

pub policy_fits : (editions : Bool) (listed : ℕ) → listed ≤ permission_limit → (p : Policy) → PolicyFits listed p × OwnEdition editions p
    → Fits (policies editions) (policy_fields editions) (policy_codec editions) p
unfolding Fit
policy_fits editions listed few p (f, o) =
    let w = policy_within _ _ _ _ _ _ f.sound in (
      (lt_of_lt_of_le f.task (pow_mono few), (omega (arith, w.away), (omega (arith, w.few), (omega (arith, w.small), edition_fits editions p (omega (arith, w.edition.1)))))),
      own_edition editions p o,
    )

-- the policies of admitted values fit their fields
pub each_policy_fits : (editions : Bool) (listed : ℕ) → listed ≤ permission_limit → (l : List Policy) → Each (PolicyFits listed) l → Each (OwnEdition editions) l
    → Each (Fits (policies editions) (policy_fields editions) (policy_codec editions)) l
each_policy_fits editions listed few l f o = each (policy_fits editions listed few) l (each_both (PolicyFits listed) (OwnEdition editions) l f o)

pub fits_edition : (editions : Bool) (p : Policy) → Fits (policies editions) (policy_fields editions) (policy_codec editions) p → OwnEdition editions p
unfolding policy_codec
fits_edition false p h = h.1
fits_edition true p h = tt
