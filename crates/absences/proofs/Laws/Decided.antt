-- Each policy question falls under one row of the table "What comes back", by whichever search. The idea: `tried_sound`, `tried-complete` and
-- `tried_ascending` say what the list is, exactness of the filling that its test is `Blocks`, and the swap (`first-tried`, `first_blocker_worth`,
-- `none-worth-none`) that leaving out what is not worth trying loses neither the first blocker nor a "yes". Assumes nothing.
use Rattle.std.specs.Prelude.{◌≡◌, refl, ◌⊎◌, Bool, true, false, ℕ, ◌^◌, ◌≤◌, ◌<◌, Err, Ok, Result}
use Rattle.std.proofs.Common.{ap₂, subst, inl, inr, ⊎_elim, arith, le-leb}
use Rattle.std.proofs.Math.Decide.{dec_le}
use Rattle.std.specs.Int.Count.{ones}
use Rattle.std.proofs.lemmas.Bool.{lt-leb}
use Rattle.sets.specs.Laws.Sums.{either}
use Rattle.roster.specs.declared.Table.{Table}
use Rattle.roster.specs.declared.Refusal.{Refusal}
use Rattle.roster.specs.Meaning.{Blocks, Absence, Holds, Earlier, First, FirstBlocker}
use Rattle.roster.specs.Refusals.{policy_ruling}
use Rattle.roster.proofs.Laws.Order.{earlier_irrefl, earlier_trans}
use Rattle.roster.proofs.Laws.Swap.{first-tried, first_blocker_worth, none-worth-none}
use Rattle.roster.proofs.Laws.Rulings.{policy_within}
use Rattle.crews.specs.Filling.{filling}
use Rattle.crews.proofs.Laws.Exact.{Fair, blocks_none, finds_none}
use Rattle.absences.specs.declared.Way.{Way}
use Rattle.absences.specs.declared.Way.TheVariants.{Full, Skipping}
use Rattle.absences.specs.Tried.{tried, Found}
use Rattle.absences.specs.Asked.{Refuses, Admits, found}
use Rattle.absences.specs.Replied.{judged, verdict_of}
use Rattle.absences.proofs.Laws.Listed.{Picked, tried_sound, tried-complete, tried_ascending}
use Rattle.absences.proofs.Laws.Weighed.{clash, all_fit, Stops, stops}

-- ---- what is not worth trying may be skipped

module _ (table : Table) (P s d t ed : ℕ) where
  -- a first blocker is worth trying, so every search tries it
  pub first_picked : (way : Way) (A : ℕ) → FirstBlocker table P s d t ed A → Picked way table P A
  first_picked Full A f = tt
  first_picked Skipping A f = first_blocker_worth table P s d t ed A f

  -- the first of the blockers that a search tries is the first of all
  picked_first : (way : Way) (A : ℕ)
      → First table P (λ B. (ones B ≤ s) × Blocks table P d t ed B × Picked way table P B) A → FirstBlocker table P s d t ed A
  picked_first Full A f = record { rows = f.rows; is = (f.is.0, f.is.1); first = λ B h q. f.first B h (q.0, q.1, tt) }
  picked_first Skipping A f = (first-tried table P s d t ed A).1 f

  -- where nothing that a search tries blocks, nothing does
  picked_holds : (way : Way) → ((A : ℕ) → Absence table s A → Picked way table P A → Blocks table P d t ed A → ⊥) → Holds table P s d t ed
  picked_holds Full none = λ A a b. none A a tt b
  picked_holds Skipping none = none-worth-none table P s d t ed none

  pub first_not_holds : (A : ℕ) → FirstBlocker table P s d t ed A → Holds table P s d t ed → ⊥
  first_not_holds A f h = h A (record { rows = f.rows; few = f.is.0 }) f.is.1

-- ---- what the list comes to, in words of the meaning

module _ (way : Way) (table : Table) (P s d t ed : ℕ) (fair : Fair table P d) where
  abbrev asked : Found
  asked = found way table P s d t ed

  pub none_blocks : asked.blocked ≡ false → Holds table P s d t ed
  none_blocks e =
      picked_holds table P s d t ed way (λ A a p b.
      clash (all_fit (filling table P d t ed) (tried way table P s) e A (tried-complete way table P s A a p)) (blocks_none fair t ed A b))

  -- where trying stops is the first blocking absence
  pub stops_first : (B : ℕ) → Stops (filling table P d t ed) table P (tried way table P s) B → FirstBlocker table P s d t ed B
  stops_first B st =
      let is = tried_sound way table P s B st.listed in
      picked_first table P s d t ed way B (record {
        rows = is.0.rows;
        is = (omega (arith, is.0.few), finds_none fair t ed B is.0.rows st.stuck, is.1);
        first = λ C h q early.
            before C h is.0.rows early
            (st.first (tried_ascending way table P s) C
            (tried-complete way table P s C (record { rows = h; few = q.0 }) q.2) (blocks_none fair t ed C q.1));
      })
    where
      before : (C : ℕ) → C < 2 ^ table.rows → B < 2 ^ table.rows → Earlier table P C B → (C ≡ B) ⊎ Earlier table P B C → ⊥
      before C h k early (inl q) = earlier_irrefl table P B (subst (λ (x : ℕ). Earlier table P x B) q early)
      before C h k early (inr q) = earlier_irrefl table P C (earlier_trans table P C B C h k early q)

  pub one_blocks : asked.blocked ≡ true → FirstBlocker table P s d t ed asked.blocker
  one_blocks e = stops_first asked.blocker (stops (filling table P d t ed) table P (tried way table P s) e)

-- ---- the verdict of the definition

module _ (w : Found) (allowance : ℕ) where
  -- an allowance that is just the need is enough
  pub verdict_within : (b : Bool) → w.need ≤ allowance → w.blocked ≡ b → verdict_of w allowance ≡ judged true b
  verdict_within b l e = ap₂ judged (le-leb w.need allowance l) e

  pub verdict_late : allowance < w.need → verdict_of w allowance ≡ judged false w.blocked
  verdict_late l = ap₂ judged (lt-leb w.need allowance l) refl

-- ---- which row of the table "What comes back" a question falls under

-- whatever the need is
pub data Case (need : ℕ) (table : Table) (P s d t ed allowance : ℕ) : Type 0 where
  is_refused_lem : (refusal : Refusal) → Refuses table P s d t ed refusal → Case need table P s d t ed allowance
  is_undecided : Admits table P s d t ed → allowance < need → Case need table P s d t ed allowance
  is_yes : Admits table P s d t ed → need ≤ allowance → Holds table P s d t ed → Case need table P s d t ed allowance
  is_no : Admits table P s d t ed → need ≤ allowance → (A : ℕ) → FirstBlocker table P s d t ed A → Case need table P s d t ed allowance

-- an admitted question is one that filling decides exactly
pub admitted_fair : (table : Table) (P s d t ed : ℕ) → P < 2 ^ 32 → Admits table P s d t ed → Fair table P d
admitted_fair table P s d t ed w e =
    let k = policy_within table.rows P s d t ed e in
    record { rows = k.rows; task = k.task; wide = w; some = k.some; few = k.few }

-- an admitted policy holds, or has a first blocker: what the full search comes to tells
holds-or-first : (table : Table) (P s d t ed : ℕ) → Fair table P d → Holds table P s d t ed ⊎ ((A : ℕ) × FirstBlocker table P s d t ed A)
holds-or-first table P s d t ed fair =
    ⊎_elim (λ b. inr ((found Full table P s d t ed).blocker, one_blocks Full table P s d t ed fair b)) (λ b. inl (none_blocks Full table P s d t ed fair b))
    (either (found Full table P s d t ed).blocked)

-- every question falls under one; P has 32 bits
pub policy_case : (need : ℕ) (table : Table) (P s d t ed : ℕ) → P < 2 ^ 32 → (allowance : ℕ) → Case need table P s d t ed allowance
policy_case need table P s d t ed wide allowance = under (policy_ruling table.rows P s d t ed) refl
  where
    under : (r : Result Unit Refusal) → policy_ruling table.rows P s d t ed ≡ r → Case need table P s d t ed allowance
    under (Err refusal) e = is_refused_lem refusal e
    under (Ok tt) e = pick (dec_le need allowance)
      where
        pick : Dec (need ≤ allowance) → Case need table P s d t ed allowance
        pick (yes l) =
            ⊎_elim (λ h. is_yes e l h) (λ f. is_no e l f.0 f.1) (holds-or-first table P s d t ed (admitted_fair table P s d t ed wide e))
        pick (no l) = is_undecided e (omega arith)
