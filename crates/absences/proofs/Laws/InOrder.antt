-- The crews of a "yes" ascend by their lowest holders of P's lowest permission: they are the first list with nobody absent. Assumes nothing.
use Rattle.std.specs.Prelude.{◌≡◌, ℕ, ◌^◌, ◌<◌, take}
use Rattle.std.proofs.Common.{sym, subst, pow_pos}
use Rattle.roster.specs.declared.Table.{Table}
use Rattle.roster.specs.declared.Verdict.TheVariants.{Yes}
use Rattle.roster.specs.declared.Reply.{Reply}
use Rattle.crews.specs.Order.{InOrder}
use Rattle.crews.proofs.Laws.Exact.{list-found}
use Rattle.crews.proofs.Laws.InOrder.{filling_in_order}
use Rattle.absences.specs.declared.Way.{Way}
use Rattle.absences.specs.Asked.{PolicyReply}
use Rattle.absences.proofs.Laws.Decided.{admitted_fair}
use Rattle.absences.proofs.Laws.Demands.{policy_exactly}

-- P has 32 bits
pub policy_in_order : (way : Way) (table : Table) (P s d t ed : ℕ) → P < 2 ^ 32 → (allowance : ℕ) (r : Reply)
    → PolicyReply way table P s d t ed allowance r → r.verdict ≡ Yes → InOrder table P d r.crews
policy_in_order way table P s d t ed wide allowance r a v =
    let told = policy_exactly way table P s d t ed wide allowance r a in
    let fair = admitted_fair table P s d t ed wide (told.yes.0 v).0 in
    let list = told.crews v in
    subst (InOrder table P d) (sym list.0)
    (filling_in_order fair t ed 0 (list-found fair t ed 0 (pow_pos table.rows) (take d r.crews) list.1))
