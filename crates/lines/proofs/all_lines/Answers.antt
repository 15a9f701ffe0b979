-- The loop writes one policy's line after the other. Assumes nothing.
use mathlib.Core.Path.{◌≡◌, sym, ap, ◌∙◌}
use mathlib.Core.List.{List, [], ◌++◌}
use Prim.Native.Nat.{ℕ, suc, ◌-◌, ◌≤◌, ◌<◌}
use native.Mathlib.Numerals.{add-one}
use native.Mathlib.Omega.{arith}
use Rattle.accounts.specs.declared.Accounts.{Accounts}
use Rattle.accounts.specs.declared.People.{People}
use Rattle.accounts.specs.Persons.{people_of}
use Rattle.book.specs.Parts.{accounts_in, policy_count_of, policy_at}
use Rattle.lines.specs.Sheet.{numbers_in, line_by, lines_from}
use Rattle.text.specs.Laws.Appends.{step, with_rest, finish, read_as}
use Rattle.lines.proofs.all_lines.Goals as goal
use Rattle.lines.proofs.all_lines.Goals.{After-policy_count-count}

-- one line more, and the others
next : (book : List ℕ) (index count : ℕ) → index < count
    → lines_from book index (count - index) ≡ line_by book index (policy_at book index) ++ lines_from book (suc index) (count - suc index)
unfolding lines_from
next book index count h = let e : count - index ≡ suc (count - suc index) = omega arith in ap (lines_from book index) e

last : (book : List ℕ) (index count : ℕ) → count ≤ index → lines_from book index (count - index) ≡ []
unfolding lines_from
last book index count h = let e : count - index ≡ 0 = omega arith in ap (lines_from book index) e

-- the numbers that are printed are those of the merged accounts
named : (book : List ℕ) {a : Accounts} {people : People} → people ≡ people_of a → a ≡ accounts_in book → people.numbers ≡ numbers_in book
unfolding numbers_in
named book e h = ap (λ (x : People). x.numbers) (e ∙ ap people_of h)

-- all the lines, by the count that was read
all : (c : After-policy_count-count) → let book = c.args.book.now in lines_from book 0 c.policy_count-count.result ≡ lines_from book 0 (policy_count_of book)
all c = ap (lines_from c.args.book.now 0) c.policy_count-count.ensures.reply

pub policy_line-at-requires : goal.policy_line-at-requires
policy_line-at-requires c = let accounts = c.accounts_of-accounts.ensures.reply in
    (named c.args.book.now c.merged-people.ensures accounts, accounts)

pub loop-index-preserved : goal.loop-index-preserved
loop-index-preserved c = let l = c.loop-index in
    let book = c.args.book.now in
    let count = c.policy_count-count.result in
    with_rest (ap (λ (k : ℕ). lines_from book k (count - k)) (sym (add-one l.index)))
    (step (line_by book l.index (policy_at book l.index)) (with_rest (next book l.index count c.loop-index-test.true) l.invariant)
    c.policy_line-at.ensures)

pub returns : goal.returns
returns c = let l = c.loop-index in
    let book = c.args.book.now in
    read_as (all (goal.at.returns c).After-policy_count-count) (finish (with_rest (last book l.index c.policy_count-count.result c.loop-index-test.false) l.invariant))
