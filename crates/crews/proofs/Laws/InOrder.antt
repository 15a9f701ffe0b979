-- The crews of the first list ascend by their lowest holders of P's lowest permission, whatever the absence; so do the crews that are replied
-- to a named absence. Assumes nothing.
use Rattle.std.specs.Prelude.{◌≡◌, true, ◌≢◌, List, ℕ, ◌^◌, ◌<◌, get_or, Ok}
use Rattle.std.proofs.Common.{sym, ap, ◌∙◌, subst, arith}
use Rattle.std.specs.Int.Count.{count_trailing_zeros}
use Rattle.sets.specs.Sets.{bit, Has}
use Rattle.roster.specs.declared.Table.{Table}
use Rattle.roster.specs.declared.Verdict.TheVariants.{Crews}
use Rattle.roster.specs.declared.Reply.{Reply}
use Rattle.roster.specs.Meaning.{held}
use Rattle.roster.specs.Refusals.{named_ruling}
use Rattle.crews.specs.Filling.{Work, work_before, begin, present, filling, filling_before}
use Rattle.crews.specs.Order.{Leads, InOrder}
use Rattle.crews.specs.Named.{NamedReply}
use Rattle.crews.proofs.Laws.Sound.{present_in, state_begin}
use Rattle.crews.proofs.Laws.Complete.{Ready, Solves}
use Rattle.crews.proofs.Laws.Barren.{found-list}
use Rattle.crews.proofs.Laws.Led.{Led, led}
use Rattle.crews.proofs.Laws.Fair.{Fair, work_agrees, work_ready}
use Rattle.crews.proofs.Laws.Before.{same_as_before}
use Rattle.crews.proofs.Laws.Exact.{list-found}
use Rattle.crews.proofs.Laws.Named.{admitted_fair, named-crews}

module _ {table : Table} {P d : ℕ} (fair : Fair table P d) (t ed A : ℕ) where
  abbrev work : Work
  work = work_before table P d t ed

  ready : Ready work (present table A)
  ready = work_ready table P d fair t ed A

  -- a present row is a holder of what it holds within P
  holder_holds : (u : ℕ) → Has (present table A) u → (p : ℕ) → bit (work.holders p) u ≡ bit (held table P u) p
  holder_holds u q p =
      let l = (present_in table A u fair.rows q).0 in
      let agrees = work_agrees table P d t ed fair.rows in
      agrees.holders p u l ∙ ap (λ (m : ℕ). bit m p) (agrees.holds u l)

  module _ (e : (filling_before table P d t ed A).found ≡ true) where
    abbrev crews : List ℕ
    crews = (filling_before table P d t ed A).crews

    solves : Solves work (present table A) (λ j. get_or crews j 0)
    solves = (found-list work (present table A) ready _ (begin (present table A)) (state_begin work (present table A)) e).solves

    leader : (j : ℕ) → j < d → Led work (present table A) ready (λ i. get_or crews i 0) j
    leader = led work (present table A) ready e

    -- a crew's member that holds the lowest permission is one of its holders, and the other way round
    lead_of_lem : (j u : ℕ) → j < d → Has (get_or crews j 0) u → bit (work.holders (count_trailing_zeros 32 P)) u ≡ bit (held table P u) (count_trailing_zeros 32 P)
    lead_of_lem j u l q = holder_holds u (solves.free j u l q) (count_trailing_zeros 32 P)

    leads : (j : ℕ) → (l : j < d) → Leads table P (get_or crews j 0) (leader j l).row
    leads j l =
        let x = leader j l in
        record {
          member = x.mine;
          holds = sym (lead_of_lem j x.row l x.mine) ∙ x.holder;
          lowest = λ v q h. x.lowest j v (omega arith) l q (lead_of_lem j v l q ∙ h);
        }

    before_in_order : InOrder table P d crews
    before_in_order =
        record {
          led = λ j l. ((leader j l).row, leads j l);
          ascend = λ i j u v k l a b.
              let m : i < d = omega arith in
              let x = leader i m in
              let other : x.row ≢ v = λ z.
              (let y = solves.apart i j v m l (subst (Has (get_or crews i 0)) z x.mine) b.member in omega arith) in
              omega (
                arith,
                a.lowest x.row x.mine (leads i m).holds,
                x.lowest j v (omega arith) l b.member (lead_of_lem j v l b.member ∙ b.holds),
                other,
              );
        }

  -- the list that filling ends with
  pub filling_in_order : (filling table P d t ed A).found ≡ true → InOrder table P d (filling table P d t ed A).crews
  filling_in_order e =
      let same = same_as_before fair t ed A in
      subst (InOrder table P d) (sym same.crews) (before_in_order (sym same.found ∙ e))

-- the list that is replied to a named absence
pub named_in_order : (table : Table) (P d t ed A allowance : ℕ) → P < 2 ^ 32 → (r : Reply) → NamedReply table P d t ed A allowance r
    → named_ruling table.rows P d t ed A ≡ Ok tt → r.verdict ≡ Crews → InOrder table P d r.crews
named_in_order table P d t ed A allowance wide r a ok v =
    let x = (named-crews table P d t ed A allowance wide r a ok).0 v in
    let f = admitted_fair table P d t ed A wide ok in
    subst (InOrder table P d) (sym (ap (λ (q : Reply). q.crews) (a.crews ok x.0 x.1.0 x.1.1)))
    (filling_in_order f.0 t ed A (list-found f.0 t ed A f.1 x.1.0 x.1.1))
