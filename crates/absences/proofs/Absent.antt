-- One absence tried: what it costs, and what filling the crews from the rows that are left comes to. Assumes nothing.
use Rattle.std.specs.Prelude.{Err}
use mathlib.Core.Path.{◌≡◌, sym, ap, ap₂, ◌∙◌}
use mathlib.Core.Logic.{⊎_elim}
use mathlib.Core.List.{List, [], ◌∷◌}
use Prim.Native.Nat.{ℕ, ◌+◌, ◌-◌, ◌^◌, ◌≤◌, ◌<◌}
use native.Mathlib.Nat.{add-zero}
use native.Mathlib.Omega.{arith}
use lib.Bits.{bit_and}
use Rattle.sets.specs.Laws.Sums.{either}
use Rattle.roster.specs.declared.Table.{Table}
use Rattle.roster.specs.Limits.{row_limit}
use Rattle.roster.specs.Meaning.{least_members}
use Rattle.crews.specs.declared.Ending.{Ending}
use Rattle.crews.specs.declared.Ending.TheVariants as ending
use Rattle.crews.specs.declared.Filled.{Filled}
use Rattle.crews.specs.Filling.{Outcome, orderly, holders_of, filling}
use Rattle.sets.specs.Arrays.{tabulate, at}
use Rattle.crews.specs.Filled.{filled_of, found_from, rule_of}
use Rattle.crews.proofs.Laws.Arrays.{lent_filling}
use Rattle.crews.proofs.Laws.Steps as steps
use Rattle.absences.specs.declared.Search.{Search}
use Rattle.absences.specs.declared.Stop.TheVariants.{Undecided}
use Rattle.absences.specs.Tried.{Found, per_absence, units_of, weighed}
use Rattle.absences.specs.Inner.Walk.{Lent, stands, walked_from, walked_of}
use Rattle.absences.proofs.Laws.Weighed.{weighed-fits, weighed_blocks, weighed-none, dearer}
use Rattle.absences.proofs.Spent.{walked_fits, walked_over}

-- filling from what is lent is 01's filling with A absent
pub fills : (table : Table) (ed : ℕ) (s : Search) → Lent table ed s → (free A : ℕ) → free ≡ bit_and s.everyone ((2 ^ row_limit - 1) - A)
    → found_from (rule_of s.wanted) free ≡ filling table s.wanted.task s.wanted.crews s.wanted.size ed A
fills table ed s lent free A e =
    ap (λ (m : ℕ). found_from (orderly (at s.wanted.holds) (at s.wanted.holders) s.wanted.task s.wanted.crews s.wanted.size m) free) lent.least
    ∙ ap₂ (λ (h k : List ℕ). found_from (orderly (at h) (at k) s.wanted.task s.wanted.crews s.wanted.size (least_members ed)) free) lent.held
    (lent.holding ∙ ap (λ (h : List ℕ). tabulate 32 (holders_of (at h))) lent.held)
    ∙ ap (found_from _) (e ∙ ap (λ (all : ℕ). bit_and all ((2 ^ row_limit - 1) - A)) lent.everyone)
    ∙ lent_filling table s.wanted.task s.wanted.crews s.wanted.size ed A lent.small lent.some lent.wide lent.few

-- whether it blocks or not
alone_costs : (table : Table) (P d t ed A : ℕ) → (weighed (filling table P d t ed) (A ∷ [])).need ≡ units_of (filling table P d t ed A)
alone_costs table P d t ed A =
    let n = units_of (filling table P d t ed A) in
    ⊎_elim
    (λ b. ap (λ (w : Found). w.need) (weighed-fits (filling table P d t ed) A [] b ∙ ap (dearer n) (weighed-none (filling table P d t ed))) ∙ add-zero n)
    (λ b. ap (λ (w : Found). w.need) (weighed_blocks (filling table P d t ed) A [] b))
    (either (filling table P d t ed A).found)

module _ (table : Table) (P d t ed most spent A : ℕ) (r : Filled) (e : r ≡ filled_of most (spent + per_absence) (filling table P d t ed A)) where
  abbrev o : Outcome
  o = filling table P d t ed A

  abbrev alone : Found
  alone = weighed (filling table P d t ed) (A ∷ [])

  alone-need : alone.need ≡ units_of o
  alone-need = alone_costs table P d t ed A

  units : (spent + per_absence) + o.need ≤ most → r.units ≡ spent + alone.need
  units h = ap (λ (x : Filled). x.units) (e ∙ steps.filled-fits most (spent + per_absence) o h) ∙ omega (arith, alone-need)

  -- an outcome that the allowance is enough for
  fits : (w : Found) → alone ≡ w → (spent + per_absence) + o.need ≤ most → stands w.blocked w.blocker r.units ≡ walked_of most spent alone
  fits w f h =
      ap₂ (λ (x : Found) (n : ℕ). stands x.blocked x.blocker n) (sym f) (units h)
      ∙ sym (walked_fits most spent alone (omega (arith, alone-need)))

  -- what the filling says of the absence
  pub absent_told : walked_from r.ending A r.units ≡ walked_of most spent alone
  absent_told = go (steps.judge most (spent + per_absence) o r e)
    where
      told : (x : Ending) → r.ending ≡ x → walked_from r.ending A r.units ≡ walked_from x A r.units
      told x q = ap (λ (y : Ending). walked_from y A r.units) q

      go : steps.Judged most (spent + per_absence) o r → walked_from r.ending A r.units ≡ walked_of most spent alone
      go (steps.is_complete b w h) =
          told ending.Complete w
          ∙ fits _ (weighed-fits (filling table P d t ed) A [] b ∙ ap (dearer (units_of o)) (weighed-none (filling table P d t ed))) h
      go (steps.is_exhausted b w u l) = told ending.Exhausted w ∙ fits _ (weighed_blocks (filling table P d t ed) A [] b) (omega arith)
      go (steps.is_over h w) =
          told ending.Undecided w
          ∙ sym (walked_over most spent alone (omega (arith, alone-need)))

-- too few units are left to try it
pub absent_spent : (table : Table) (P d t ed most spent A : ℕ) → most < spent + per_absence
    → Err Undecided ≡ walked_of most spent (weighed (filling table P d t ed) (A ∷ []))
absent_spent table P d t ed most spent A l =
    sym (walked_over most spent (weighed (filling table P d t ed) (A ∷ [])) (omega (arith, alone_costs table P d t ed A)))
