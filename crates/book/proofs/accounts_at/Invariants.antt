-- The loop's invariant: the rows passed have what they hold, and their person numbers. Assumes nothing.
use mathlib.Core.List.{List}
use Prim.Native.Nat.{ℕ}
use Rattle.sets.specs.Laws.Arrays.{Passed}
use Rattle.book.specs.Parts.{row_at, row_or0}
use Rattle.book.specs.declared.Starts.{Starts}
use Rattle.book.proofs.accounts_at.Given as goal

-- a row's holdings, and its person number
abbrev pub held : List ℕ → Starts → ℕ → ℕ
held book starts row = (row_or0 (row_at book starts row)).holdings

abbrev pub person : List ℕ → Starts → ℕ → ℕ
person book starts row = (row_or0 (row_at book starts row)).person

abbrev pub invariant-loop-row : goal.invariant-loop-row
invariant-loop-row l = record {
  holdings : Passed 0 64 (held l.book l.starts) l.row l.holdings;
  persons : Passed 0 64 (person l.book l.starts) l.row l.persons;
}
