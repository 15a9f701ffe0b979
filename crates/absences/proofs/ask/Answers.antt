-- A refused question is answered by its refusal. For an admitted one, what is worked out of the table is what the search is to be lent
-- (`lends`, `ranks`), and what it tries is all that 01 lists. Assumes nothing.
use Rattle.std.specs.Prelude.{Ok}
use mathlib.Core.Path.{◌≡◌, sym, ap, ◌∙◌}
use mathlib.Core.List.{List}
use Prim.Native.Nat.{ℕ, ◌-◌, ◌^◌, ◌≤◌, ◌<◌, min}
use native.Mathlib.Omega.{arith}
use borrow.Author.Rules.{rules}
use lib.ListN.{get_or}
use Rattle.sets.specs.Sets.{below_within}
use Rattle.roster.specs.declared.Table.{Table}
use Rattle.roster.specs.Limits.{row_limit}
use Rattle.roster.specs.Meaning.{least_members}
use Rattle.roster.specs.Refusals.{policy_ruling}
use Rattle.roster.proofs.Laws.Rulings as rulings
use Rattle.sets.specs.Arrays.{tabulate, at}
use Rattle.crews.specs.Filling.{holds_of}
use Rattle.absences.specs.declared.Search.{Search}
use Rattle.absences.specs.Tried.{row_at}
use Rattle.absences.proofs.Laws.Rows.{row_at_lt}
use Rattle.absences.specs.Inner.Walk.{rank_by, weight_by, Counted, Lent, Over, Ranked, searched_by}
use Rattle.absences.proofs.Rank.{counted_of, order_at, weight_at}
use Rattle.absences.specs.Asked.{PolicyReplyFor}
use Rattle.absences.specs.Replied.{policy_reply_of}
use Rattle.roster.specs.declared.Reply.{Reply}
use Rattle.absences.proofs.Laws.Demands.{policy_allowed}
use Rattle.absences.proofs.Replied.{ruled}
use Rattle.absences.proofs.ask.Goals as goal
use Rattle.absences.proofs.ask.Goals.{Start, After-counted-counts}

-- ---- an admitted question: what is worked out of the table, where each row's permissions are counted

module _ (k : After-counted-counts) where
  abbrev table : Table
  table = k.args.table

  abbrev task : ℕ
  task = k.args.policy.task

  abbrev holds : List ℕ
  holds = k.holdings_within-holds.result

  admitted : policy_ruling k.args.table.rows k.args.policy.task k.args.policy.away k.args.policy.crews k.args.policy.size k.args.policy.edition ≡ Ok tt
  admitted = sym k.policy_ruling.ensures ∙ k.in_default.is

  -- its numbers are within the limits
  limits : rulings.Within k.args.table.rows k.args.policy.task k.args.policy.away k.args.policy.crews k.args.policy.size k.args.policy.edition
  limits = rulings.policy_within _ _ _ _ _ _ admitted

  small : table.rows ≤ row_limit
  small = limits.rows

  held : holds ≡ tabulate row_limit (holds_of table task)
  held = k.holdings_within-holds.ensures

  counted : Counted table task table.rows k.counted-counts.result
  counted = counted_of table task small holds k.counted-counts.result held k.counted-counts.ensures

  -- ---- what the search is lent is of the table

  abbrev searching : ℕ → ℕ → List ℕ → List ℕ → Search
  searching least everyone order outweighed = record {
    wanted = record {
      holds = holds;
      holders = k.holders_of-holders.result;
      task = task;
      crews = k.args.policy.crews;
      size = k.args.policy.size;
      least = least;
      allowance = k.args.allowance;
    };
    everyone = everyone;
    order = order;
    outweighed = outweighed;
  }

  lends : {least everyone : ℕ} {order outweighed : List ℕ} → least ≡ least_members k.args.policy.edition → everyone ≡ 2 ^ min table.rows 64 - 1
      → Lent table k.args.policy.edition (searching least everyone order outweighed)
  lends two below = record {
    small = small;
    everyone = below ∙ below_within 64 _ small;
    few = limits.few;
    some = limits.task;
    wide = search rules;
    held = held;
    holding = k.holders_of-holders.ensures.value;
    least = two;
  }

  module _ (order : List ℕ) (is : (u : ℕ) → u < table.rows → get_or order (rank_by k.counted-counts.result table.rows u) 0 ≡ u) where
    -- the order has at each rank its row
    ordered : (r : ℕ) → r < table.rows → get_or order r 0 ≡ row_at table task r
    ordered = order_at table task table.rows k.counted-counts.result counted order is

    ranks : {least everyone : ℕ} {outweighed : List ℕ} → ((r : ℕ) → r < table.rows → at outweighed r ≡ weight_by k.args.way holds order table.rows r)
        → Ranked k.args.way table (searching least everyone order outweighed)
    ranks weighed = record {
      row = ordered;
      closes = λ r l. weighed r l ∙ weight_at table task small holds order held ordered k.args.way r l;
    }

  abbrev over : {least everyone : ℕ} → least ≡ least_members k.args.policy.edition → everyone ≡ 2 ^ min table.rows 64 - 1
      → (order : List ℕ) (is : (u : ℕ) → u < table.rows → get_or order (rank_by k.counted-counts.result table.rows u) 0 ≡ u) {outweighed : List ℕ}
      → ((r : ℕ) → r < table.rows → at outweighed r ≡ weight_by k.args.way holds order table.rows r) → Over (searching least everyone order outweighed)
  over two below order is weighed =
      record { way = k.args.way; table = table; edition = k.args.policy.edition; lent = lends two below; ranked = ranks order is weighed }

pub ranked-order-requires : goal.ranked-order-requires
ranked-order-requires c = let k = (goal.at.ranked-order-requires c).After-counted-counts in (small k, (table k, task k, counted k))

pub weights-outweighed-requires : goal.weights-outweighed-requires
weights-outweighed-requires c =
    let k = (goal.at.weights-outweighed-requires c).After-counted-counts in
    (small k, λ i l. omega (arith, ordered k c.ranked-order.result c.ranked-order.ensures i l, row_at_lt (table k) (task k) i l, small k))

pub reply-requires : goal.reply-requires
reply-requires c =
    let k = (goal.at.reply-requires c).After-counted-counts in
    let within = limits k in
    (over k c.least_members.ensures c.below.ensures c.ranked-order.result c.ranked-order.ensures c.weights-outweighed.ensures, omega (arith, within.rows))

-- ---- the two replies

-- the definition's reply is one that is allowed
allowed : (k : Start) (r : Reply) → let a = k.args in let p = a.policy in
    r ≡ policy_reply_of a.way a.table p.task p.away p.crews p.size p.edition a.allowance → PolicyReplyFor a.way a.table p a.allowance r
allowed k r e = let a = k.args in
    let p = a.policy in
    rw e (policy_allowed a.way a.table p.task p.away p.crews p.size p.edition (search rules) a.allowance)

pub returns-in-Err : goal.returns-in-Err
returns-in-Err c =
    let a = c.args in
    allowed (goal.at.returns-in-Err c).Start _
    (c.refused.ensures
    ∙ sym (ruled a.way a.table a.policy.task a.policy.away a.policy.crews a.policy.size a.policy.edition a.allowance _
    (sym c.policy_ruling.ensures ∙ c.in-Err.is)))

pub returns : goal.returns
returns c =
    let k = (goal.at.returns c).After-counted-counts in
    let a = c.args in
    allowed (goal.at.returns c).Start _
    (c.reply.ensures (over k c.least_members.ensures c.below.ensures c.ranked-order.result c.ranked-order.ensures c.weights-outweighed.ensures)
    ∙ ap (λ (n : ℕ). searched_by a.way a.table a.policy.edition (searching k c.least_members.result c.below.result c.ranked-order.result c.weights-outweighed.result) n) c.min.ensures
    ∙ sym (ruled a.way a.table a.policy.task a.policy.away a.policy.crews a.policy.size a.policy.edition a.allowance _ (admitted k)))
