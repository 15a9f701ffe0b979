-- The loop's invariant: the rows passed have what they hold, and their person numbers. Assumes nothing.
use mathlib.Core.Path.{◌≡◌, ap, ◌∙◌}
use mathlib.Core.List.{List}
use Prim.Native.Nat.{ℕ}
use Rattle.std.specs.Prelude.{Option}
use Rattle.sets.specs.Laws.Arrays.{passed_none, passed_stored, passed_all}
use Rattle.accounts.specs.declared.Accounts.{Accounts}
use Rattle.book.specs.Parts.{row_or0}
use Rattle.book.specs.declared.Row.{Row}
use Rattle.book.proofs.accounts_at.Invariants.{held, person}
use Rattle.book.proofs.accounts_at.Goals as goal

-- accounts are their three parts
accounts_of : {h h' p p' : List ℕ} {n n' : ℕ} → h ≡ h' → p ≡ p' → n ≡ n'
    → ◌≡◌ {A = Accounts} (record { holdings = h; persons = p; rows = n }) (record { holdings = h'; persons = p'; rows = n' })
accounts_of e f w = rw (e, f, w)

pub loop-row-init : goal.loop-row-init
loop-row-init c = record {
  holdings = passed_none 0 64 (held c.args.book.now c.args.starts);
  persons = passed_none 0 64 (person c.args.book.now c.args.starts);
}

pub loop-row-preserved : goal.loop-row-preserved
loop-row-preserved c = let a = c.args in let l = c.loop-row in
    let row = c.unwrap_or-seen.ensures ∙ ap (λ (o : Option Row). row_or0 o) c.row_at.ensures.reply in record {
      holdings = passed_stored 0 64 (held a.book.now a.starts) l.row _ _ l.invariant.holdings c.loop-row-test.true (ap (λ (r : Row). r.holdings) row);
      persons = passed_stored 0 64 (person a.book.now a.starts) l.row _ _ l.invariant.persons c.loop-row-test.true (ap (λ (r : Row). r.person) row);
    }

pub returns : goal.returns
returns c = let l = c.loop-row in
    let a = c.args in
    accounts_of
    (passed_all 0 64 (held a.book.now a.starts) l.row l.holdings l.invariant.holdings c.loop-row-test.false)
    (passed_all 0 64 (person a.book.now a.starts) l.row l.persons l.invariant.persons c.loop-row-test.false)
    c.count_at.ensures.0
