-- What a ruling says: an admitted question has its numbers within the limits, and the two orders of refusal are one order. Assumes nothing.
use Rattle.std.specs.Prelude.{◌≡◌, refl, ◌↔◌, ◌≢◌, Bool, true, false, ◌||◌, ℕ, ◌+◌, ◌/◌, ◌^◌, ◌≤◌, ◌<◌, eqb, leb, ltb, Err, Ok, Result}
use Rattle.std.proofs.Common.{sym, ap, ap₂, ◌∙◌, lt_of_not-le, lt_of_le_of_lt, div-le_self, arith, ltb-true, ltb-false, lt-ltb, le-ltb, leb-false, ne_eqb}
use Rattle.std.proofs.Math.Decide.{dec_le}
use Rattle.std.specs.Int.Count.{count_trailing_zeros}
use Rattle.std.proofs.lemmas.Bool.{eqb-false}
use Rattle.sets.specs.Sets.{Has, bit_high, bit_shr, shifted_out, trailing_least}
use Rattle.roster.specs.declared.Refusal.{Refusal}
use Rattle.roster.specs.declared.Refusal.TheVariants.{Rows, Task, Away, Crews, Size, Absence, Edition}
use Rattle.roster.specs.Limits.{row_limit, away_limit, crew_limit, size_limit, edition_limit}
use Rattle.roster.specs.Refusals.{refused_if, outside, policy_ruling, named_ruling}

-- the first refusal of the two
abbrev pub or_else : Result Unit Refusal → Result Unit Refusal → Result Unit Refusal
or_else (Ok tt) rest = rest
or_else (Err refusal) rest = Err refusal

in_turn_lem : (a b c e f : Bool) (rest : Result Unit Refusal)
    → refused_if a Rows (refused_if b Task (refused_if c Crews (refused_if e Size (refused_if f Edition rest))))
    ≡ or_else (refused_if a Rows (refused_if b Task (refused_if c Crews (refused_if e Size (refused_if f Edition (Ok tt)))))) rest
in_turn_lem true b c e f rest = refl
in_turn_lem false true c e f rest = refl
in_turn_lem false false true e f rest = refl
in_turn_lem false false false true f rest = refl
in_turn_lem false false false false true rest = refl
in_turn_lem false false false false false rest = refl

-- a named absence is refused as the policy with nobody away is, and then for its own rows
pub named-after_policy : (rows P d t ed A : ℕ)
    → named_ruling rows P d t ed A ≡ or_else (policy_ruling rows P 0 d t ed) (refused_if (leb (2 ^ rows) A) Absence (Ok tt))
unfolding policy_ruling named_ruling
named-after_policy rows P d t ed A =
    in_turn_lem (ltb row_limit rows) (eqb P 0) (outside crew_limit d) (outside size_limit t) (outside edition_limit ed)
    (refused_if (leb (2 ^ rows) A) Absence (Ok tt))

-- ---- an admitted question has its numbers within the limits

pub record Within (n P s d t ed : ℕ) : Type 0 where
  pub rows : n ≤ row_limit
  pub task : P ≡ 0 → ⊥
  pub away : s ≤ away_limit
  pub some : 1 ≤ d
  pub few : d ≤ crew_limit
  pub member : 1 ≤ t
  pub small : t ≤ size_limit
  pub edition : (1 ≤ ed) × (ed ≤ edition_limit)

-- what is admitted has no fault at its head, and none behind it
no_fault : (b : Bool) (refusal : Refusal) (rest : Result Unit Refusal) → refused_if b refusal rest ≡ Ok tt → (b ≡ false) × (rest ≡ Ok tt)
no_fault true refusal rest e = let z : ◌≡◌ {A = ℕ} 0 1 = cc in absurd (omega arith)
no_fault false refusal rest e = (refl, e)

-- a number that is not outside is one of 1 to most
pub inside : (most x : ℕ) → outside most x ≡ false → (1 ≤ x) × (x ≤ most)
inside most x e = go (eqb x 0) (ltb most x) refl refl e
  where
    go : (a b : Bool) → eqb x 0 ≡ a → ltb most x ≡ b → (a || b) ≡ false → (1 ≤ x) × (x ≤ most)
    go true b p q r = let z : ◌≡◌ {A = ℕ} 0 1 = cc in absurd (omega arith)
    go false true p q r = let z : ◌≡◌ {A = ℕ} 0 1 = cc in absurd (omega arith)
    go false false p q r =
        let n = eqb-false x 0 p in
        let l = ltb-false most x q in
        (omega arith, l)

pub policy_within : (rows P s d t ed : ℕ) → policy_ruling rows P s d t ed ≡ Ok tt → Within rows P s d t ed
unfolding policy_ruling
policy_within rows P s d t ed e =
    let one = no_fault _ _ _ e in
    let two = no_fault _ _ _ one.1 in
    let three = no_fault _ _ _ two.1 in
    let four = no_fault _ _ _ three.1 in
    let five = no_fault _ _ _ four.1 in
    let six = no_fault _ _ _ five.1 in
    record {
      rows = ltb-false row_limit rows one.0;
      task = eqb-false P 0 two.0;
      away = ltb-false away_limit s three.0;
      some = (inside crew_limit d four.0).0;
      few = (inside crew_limit d four.0).1;
      member = (inside size_limit t five.0).0;
      small = (inside size_limit t five.0).1;
      edition = inside edition_limit ed six.0;
    }

-- where the first refusal of the two is none, neither refuses
neither : (a b : Result Unit Refusal) → or_else a b ≡ Ok tt → (a ≡ Ok tt) × (b ≡ Ok tt)
neither (Ok tt) b e = (refl, e)
neither (Err refusal) b e = let z : ◌≡◌ {A = ℕ} 0 1 = cc in absurd (omega arith)

pub named_within : (rows P d t ed A : ℕ) → named_ruling rows P d t ed A ≡ Ok tt → Within rows P 0 d t ed × (A < 2 ^ rows)
named_within rows P d t ed A e =
    let x = neither _ _ (sym (named-after_policy rows P d t ed A) ∙ e) in
    (policy_within rows P 0 d t ed x.0, leb-false (2 ^ rows) A (no_fault _ _ _ x.1).0)

-- what is within the limits is not outside
within_inside : (most x : ℕ) → 1 ≤ x → x ≤ most → outside most x ≡ false
within_inside most x some few = ap₂ ◌||◌ (ne_eqb x 0 (λ e. omega arith)) (le-ltb most x few)

-- fewer away are admitted where s are
pub policy_nobody : (rows P s d t ed : ℕ) → policy_ruling rows P s d t ed ≡ Ok tt → policy_ruling rows P 0 d t ed ≡ Ok tt
unfolding policy_ruling
policy_nobody rows P s d t ed e =
    let k = policy_within rows P s d t ed e in
    ap
    (λ (b : Bool). refused_if (ltb row_limit rows) Rows (refused_if (eqb P 0) Task (refused_if b Away (refused_if (outside crew_limit d) Crews (refused_if (outside size_limit t) Size (refused_if (outside edition_limit ed) Edition (Ok tt)))))))
    (sym (le-ltb away_limit s k.away))
    ∙ e

-- one crew is admitted where d are
pub named-one : (rows P d t ed A : ℕ) → named_ruling rows P d t ed A ≡ Ok tt → named_ruling rows P 1 t ed A ≡ Ok tt
unfolding named_ruling
named-one rows P d t ed A e =
    let k = (named_within rows P d t ed A e).0 in
    ap
    (λ (b : Bool). refused_if (ltb row_limit rows) Rows (refused_if (eqb P 0) Task (refused_if b Crews (refused_if (outside size_limit t) Size (refused_if (outside edition_limit ed) Edition (refused_if (leb (2 ^ rows) A) Absence (Ok tt)))))))
    (sym (within_inside crew_limit d k.some k.few))
    ∙ e

-- ---- refusal 1: more rows than the limit, and it is the only one that looks at how many there are

clash : ◌≡◌ {A = ℕ} 0 1 → ⊥
clash e = omega arith

-- no later refusal is this one
not_later : (b : Bool) (other : Refusal) (rest : Result Unit Refusal) → other ≢ Rows → rest ≢ Err Rows → refused_if b other rest ≢ Err Rows
not_later true other rest n m e = n (cc)
not_later false other rest n m e = m e

later : (v w x y z : Bool)
    → refused_if v Task (refused_if w Away (refused_if x Crews (refused_if y Size (refused_if z Edition (Ok tt))))) ≢ Err Rows
later v w x y z =
    not_later v Task _ (λ e. clash (cc))
    (not_later w Away _ (λ e. clash (cc))
    (not_later x Crews _ (λ e. clash (cc))
    (not_later y Size _ (λ e. clash (cc))
    (not_later z Edition (Ok tt) (λ e. clash (cc)) (λ e. clash (cc))))))

pub policy_rows : (rows P s d t ed : ℕ) → (policy_ruling rows P s d t ed ≡ Err Rows) ↔ (row_limit < rows)
unfolding policy_ruling
policy_rows rows P s d t ed = (go (ltb row_limit rows) refl, λ l. rw (lt-ltb row_limit rows l))
  where
    go : (b : Bool) → ltb row_limit rows ≡ b
        → refused_if b Rows (refused_if (eqb P 0) Task (refused_if (ltb away_limit s) Away (refused_if (outside crew_limit d) Crews (refused_if (outside size_limit t) Size (refused_if (outside edition_limit ed) Edition (Ok tt)))))) ≡ Err Rows
        → row_limit < rows
    go true y e = ltb-true row_limit rows y
    go false y e = absurd (later (eqb P 0) (ltb away_limit s) (outside crew_limit d) (outside size_limit t) (outside edition_limit ed) e)

pub named-rows : (rows P d t ed A : ℕ) → (named_ruling rows P d t ed A ≡ Err Rows) ↔ (row_limit < rows)
named-rows rows P d t ed A = (
  λ e. (policy_rows rows P 0 d t ed).0 (go (policy_ruling rows P 0 d t ed) (leb (2 ^ rows) A) (sym (named-after_policy rows P d t ed A) ∙ e)),
  λ l.
      named-after_policy rows P d t ed A
      ∙ ap (λ (x : Result Unit Refusal). or_else x (refused_if (leb (2 ^ rows) A) Absence (Ok tt))) ((policy_rows rows P 0 d t ed).1 l),
)
  where
    go : (x : Result Unit Refusal) (b : Bool) → or_else x (refused_if b Absence (Ok tt)) ≡ Err Rows → x ≡ Err Rows
    go (Ok tt) b e = absurd (not_later b Absence (Ok tt) (λ q. clash (cc)) (λ q. clash (cc)) e)
    go (Err refusal) b e = e

pub policy_few : (rows other P s d t ed : ℕ) → rows ≤ row_limit → other ≤ row_limit → policy_ruling rows P s d t ed ≡ policy_ruling other P s d t ed
unfolding policy_ruling
policy_few rows other P s d t ed l k = rw (le-ltb row_limit rows l, le-ltb row_limit other k)

-- a set is no set of rows exactly if it has a bit at or past the row count
pub past-rows_iff : (rows A : ℕ) → A < 2 ^ 64 → (2 ^ rows ≤ A) ↔ ((i : ℕ) × (rows ≤ i) × Has A i)
past-rows_iff rows A wide = (there, back)
  where
    there : 2 ^ rows ≤ A → (i : ℕ) × (rows ≤ i) × Has A i
    there l =
        let least = trailing_least 64 (A / 2 ^ rows) (lt_of_le_of_lt (div-le_self A (2 ^ rows)) wide) (lt_of_not-le (λ (z : A / 2 ^ rows ≤ 0). omega (arith, shifted_out rows A (omega arith)))) in
        (rows + count_trailing_zeros 64 (A / 2 ^ rows), omega arith, sym (bit_shr A rows _) ∙ least.has)

    back : (i : ℕ) × (rows ≤ i) × Has A i → 2 ^ rows ≤ A
    back (i, l, h) = go (dec_le (2 ^ rows) A)
      where
        go : Dec (2 ^ rows ≤ A) → 2 ^ rows ≤ A
        go (yes k) = k
        go (no n) = absurd (omega (arith, bit_high A rows i (lt_of_not-le n) l))
