-- A refused question is answered by its refusal. For an admitted one the arrays say what the definition's functions say (`lent_filling`), so
-- the reply is that of `filling` under the allowance, and by exactness that is the one allowed (`allowed_by`). Assumes nothing.
use Rattle.std.specs.Prelude.{Err, Ok}
use mathlib.Core.Path.{◌≡◌, sym, ap, ap₂, ◌∙◌}
use mathlib.Core.Bool.{Bool}
use mathlib.Core.Logic.{◌≢◌}
use mathlib.Core.List.{List}
use Prim.Native.Nat.{ℕ, ◌-◌, ◌^◌, ◌≤◌, ◌<◌}
use native.Mathlib.Nat.{zero-add}
use native.Mathlib.Omega.{arith}
use borrow.Author.Rules.{rules}
use Rattle.sets.specs.Sets.{minus, below_within}
use Rattle.roster.specs.declared.Table.{Table}
use Rattle.roster.specs.declared.Refusal.{Refusal}
use Rattle.roster.specs.declared.Verdict.TheVariants.{Refused}
use Rattle.roster.specs.declared.Reply.{Reply}
use Rattle.roster.specs.Meaning.{least_members}
use Rattle.roster.specs.Refusals.{named_ruling, named_ruling_of}
use Rattle.roster.specs.Replies.{no_crews, reply_with}
use Rattle.roster.proofs.Laws.Rulings.{named_within}
use Rattle.crews.specs.Filling.{Outcome, orderly, holds_of, holders_of, present, filling}
use Rattle.sets.specs.Arrays.{tabulate, at}
use Rattle.crews.specs.Filled.{ending_of, filled_of, found_from}
use Rattle.crews.specs.Inner.Replied.{verdict_of, replied_of}
use Rattle.crews.specs.Named.{NamedReply}
use Rattle.crews.proofs.Laws.Named.{allowed_by}
use Rattle.crews.proofs.Laws.Steps.{filled-fits, filled-over}
use Rattle.crews.proofs.Laws.Arrays.{lent_filling}
use Rattle.crews.proofs.ask_named.Goals as goal
use Rattle.crews.proofs.ask_named.Goals.{After-named_ruling, Start}

module _ (table : Table) (P d t ed A allowance : ℕ) (wide : P < 2 ^ 32) (r : Reply) where
  refused : (refusal : Refusal) → named_ruling table.rows P d t ed A ≡ Err refusal
      → r ≡ reply_with no_crews 0 0 allowance (Refused refusal) → NamedReply table P d t ed A allowance r
  refused refusal e h =
      allowed_by table P d t ed A allowance wide r
      (λ other o. let same : refusal ≡ other = cc in h ∙ ap (λ (x : Refusal). reply_with no_crews 0 0 allowance (Refused x)) same)
      (λ o l. let z : ◌≡◌ {A = ℕ} 0 1 = cc in absurd (omega arith))
      (λ o l f. let z : ◌≡◌ {A = ℕ} 0 1 = cc in absurd (omega arith))
      (λ o l f. let z : ◌≡◌ {A = ℕ} 0 1 = cc in absurd (omega arith))

  abbrev outcome : Outcome
  outcome = filling table P d t ed A

  abbrev told : Bool → ℕ → Reply
  told found units = reply_with outcome.crews 0 units units (verdict_of (ending_of found))

  admitted : named_ruling table.rows P d t ed A ≡ Ok tt → r ≡ replied_of (filled_of allowance 0 outcome)
      → NamedReply table P d t ed A allowance r
  admitted e h =
      allowed_by table P d t ed A allowance wide r
      (λ refusal o. let z : ◌≡◌ {A = ℕ} 0 1 = cc in absurd (omega arith))
      (λ o l. h ∙ ap replied_of (filled-over allowance 0 outcome (omega arith)))
      (λ o l f. by_found l f)
      (λ o l f. by_found l f)
    where
      by_found : {found : Bool} → outcome.need ≤ allowance → outcome.found ≡ found → r ≡ told found outcome.need
      by_found l f =
          h ∙ ap replied_of (filled-fits allowance 0 outcome (omega arith)) ∙ ap₂ told f (zero-add outcome.need)

-- the search over what the calls handed back is the filling of the table
same_filling : (table : Table) (P d t ed A : ℕ) → table.rows ≤ 64 → P ≢ 0 → P < 2 ^ 32 → d ≤ 8
    → (holds holders : List ℕ) (all least : ℕ) → holds ≡ tabulate 64 (holds_of table P) → holders ≡ tabulate 32 (holders_of (at holds)) → all ≡ 2 ^ table.rows - 1
    → least ≡ least_members ed
    → found_from (orderly (at holds) (at holders) P d t least) (minus 64 all A) ≡ filling table P d t ed A
same_filling table P d t ed A hr hn hP hd holds holders all least eh ek ea el =
    ap₂ (λ (x m : ℕ). found_from (orderly (at holds) (at holders) P d t m) (minus 64 x A)) ea el
    ∙ ap (λ (k : List ℕ). found_from (orderly (at holds) (at k) P d t (least_members ed)) (present table A)) ek
    ∙ ap (λ (h : List ℕ). found_from (orderly (at h) (at (tabulate 32 (holders_of (at h)))) P d t (least_members ed)) (present table A)) eh
    ∙ lent_filling table P d t ed A hr hn hP hd

-- what was asked is what is ruled on
ruled : (c : After-named_ruling) → named_ruling_of c.args.table.rows c.args.policy c.args.absent ≡ c.named_ruling.result
ruled c = sym c.named_ruling.ensures

-- the task has 32 bits
wide : (c : Start) → c.args.policy.task < 2 ^ 32
wide c = search rules

pub returns : goal.returns
returns c = let s = c.args in
    let fits = wide (goal.at.returns c).Start in
    let ok = ruled (goal.at.returns c).After-named_ruling ∙ c.in_default.is in
    let k = (named_within s.table.rows s.policy.task s.policy.crews s.policy.size s.policy.edition s.absent ok).0 in
    let holds = c.holdings_within-holds in
    let holders = c.holders_of-holders in
    admitted s.table s.policy.task s.policy.crews s.policy.size s.policy.edition s.absent s.allowance fits c.reply_of.result ok
    (c.reply_of.ensures
    ∙ ap replied_of
    (c.fill.ensures.value
    ∙ ap (filled_of s.allowance 0)
    (same_filling s.table s.policy.task s.policy.crews s.policy.size s.policy.edition s.absent k.rows k.task fits k.few holds.result
    holders.result c.below.result c.least_members.result holds.ensures holders.ensures.value
    (c.below.ensures ∙ below_within 64 s.table.rows k.rows) c.least_members.ensures)))
