-- The reasons at the merged table are the reasons of persons and their accounts. Assumes nothing.
use Rattle.std.proofs.Common.{sym, subst, arith}
use Rattle.std.specs.Prelude.{◌↔◌, List, ℕ, ◌≤◌, ◌<◌}
use Rattle.std.specs.Int.Count.{ones}
use Rattle.sets.specs.Sets.{Has, ext_all, and_in, in_and}
use Rattle.sets.proofs.Sets.{sub_of_has}
use Rattle.roster.specs.declared.Table.{Table}
use Rattle.roster.specs.Meaning.{CrewList, Blocks}
use Rattle.accounts.specs.declared.Accounts.{Accounts}
use Rattle.accounts.specs.Persons.{persons, merged}
use Rattle.accounts.specs.Meaning.{PersonCrews, PersonsBlock}
use Rattle.accounts.proofs.Laws.Merged.{every_row, holds_all_his, crews_of_persons, blocks_of_persons}
use Rattle.sets.specs.Arrays.{at}
use Rattle.reasons.specs.declared.Explanation.{Explanation}
use Rattle.reasons.specs.declared.Explanation.TheVariants as explanation
use Rattle.reasons.specs.Reasons.{holders_here, Scarce, ReasonBy, Reason, reason_number}
use Rattle.reasons.specs.Told.{HolderHere, PersonsScarce, PersonsReason}
use Rattle.reasons.specs.Laws.Scarce.{holder_here}

-- what is a reason has a reason's number
pub reason_number_lem : (table : Table) (P d t ed A : ℕ) (w : Explanation) → Reason table P d t ed A w → 1 ≤ reason_number w
reason_number_lem table P d t ed A (explanation.Scarce p) x = omega arith
reason_number_lem table P d t ed A explanation.NoCrew x = omega arith
reason_number_lem table P d t ed A explanation.Overlap x = omega arith
reason_number_lem table P d t ed A explanation.Nothing x = absurd x
reason_number_lem table P d t ed A explanation.Undecided x = absurd x
reason_number_lem table P d t ed A (explanation.Refused refusal) x = absurd x

-- in other words that mean the same it is the same reason
module _ (S Z : ℕ → Type 0) (One None Blocked Un Nul Bar : Type 0) (scarce : (p : ℕ) → S p ↔ Z p) (one : One → Un) (none : None → Nul)
    (blocked : Blocked → Bar) where
  reworded : (w : Explanation) → ReasonBy S One None Blocked w → ReasonBy Z Un Nul Bar w
  reworded (explanation.Scarce p) x = ((scarce p).0 x.0, λ q l z. x.1 q l ((scarce q).1 z))
  reworded explanation.NoCrew x = (λ q z. x.0 q ((scarce q).1 z), none x.1)
  reworded explanation.Overlap x = (λ q z. x.0 q ((scarce q).1 z), one x.1, blocked x.2)
  reworded explanation.Nothing x = x
  reworded explanation.Undecided x = x
  reworded (explanation.Refused refusal) x = x

module _ (a : Accounts) (P : ℕ) where
  -- the present holders at the merged table are the persons who have an account that holds it
  holders_are : (A p : ℕ) → Has P p → (i : ℕ) → Has (holders_here (merged a) P A p) i ↔ HolderHere a A p i
  holders_are A p hp i = (there, back)
    where
      there : Has (holders_here (merged a) P A p) i → HolderHere a A p i
      there h =
          let x = (holder_here (merged a) P A p i).0 h in
          (x.1, (holds_all_his a i p).0 (and_in (at (merged a).holdings i) P p x.2).0)

      back : HolderHere a A p i → Has (holders_here (merged a) P A p) i
      back (out, (u, l, e, h)) =
          (holder_here (merged a) P A p i).1 (
            subst (λ (x : ℕ). x < persons a) e (every_row a u l),
            out,
            in_and (at (merged a).holdings i) P p ((holds_all_his a i p).1 (u, l, e, h)) hp,
          )

  pub scarce_persons : (d A p : ℕ) → Scarce (merged a) P d A p ↔ PersonsScarce a P d A p
  scarce_persons d A p = (λ x. (x.0, (holders_here (merged a) P A p, holders_are A p x.0, x.1)), back)
    where
      back : PersonsScarce a P d A p → Scarce (merged a) P d A p
      back (hp, (set, are, few)) =
          let here = holders_are A p hp in
          let e = ext_all (holders_here (merged a) P A p) set (λ i. omega (arith, sub_of_has _ _ (λ j h. (are j).1 ((here j).0 h)) i, sub_of_has _ _ (λ j h. (here j).1 ((are j).0 h)) i)) in
          (hp, subst (λ (m : ℕ). ones m < d) (sym e) few)

  -- there is one crew, in either words
  abbrev Single : ℕ → ℕ → ℕ → Type 0
  Single t ed A = (crew : List ℕ) × CrewList (merged a) P 1 t ed A crew

  abbrev PersonsSingle : ℕ → ℕ → ℕ → Type 0
  PersonsSingle t ed A = (crew : List ℕ) × PersonCrews a P 1 t ed A crew

  pub reason_persons : (d t ed A : ℕ) (w : Explanation) → Reason (merged a) P d t ed A w ↔ PersonsReason a P d t ed A w
  reason_persons d t ed A w =
      let list = crews_of_persons a P 1 t ed A in
      let one = blocks_of_persons a P 1 t ed A in
      let all = blocks_of_persons a P d t ed A in
      let scarce = scarce_persons d A in (
        reworded (Scarce (merged a) P d A) (PersonsScarce a P d A) (Single t ed A) (Blocks (merged a) P 1 t ed A) (Blocks (merged a) P d t ed A) (PersonsSingle t ed A)
            (PersonsBlock a P 1 t ed A) (PersonsBlock a P d t ed A) scarce (λ c. (c.0, (list c.0).0 c.1)) one.0 all.0 w,
        reworded (PersonsScarce a P d A) (Scarce (merged a) P d A) (PersonsSingle t ed A) (PersonsBlock a P 1 t ed A) (PersonsBlock a P d t ed A) (Single t ed A)
            (Blocks (merged a) P 1 t ed A) (Blocks (merged a) P d t ed A) (λ p. ((scarce p).1, (scarce p).0)) (λ c. (c.0, (list c.0).1 c.1)) one.1 all.1 w,
      )
