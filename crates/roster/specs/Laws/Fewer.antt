-- Some of the crews of a list are a list: where not even e crews can be had, no more can. Assumes nothing.
use Rattle.std.specs.Prelude.{◌≡◌, ◌≢◌, List, ℕ, ◌≤◌, ◌<◌, get_or}
use Rattle.std.proofs.Common.{arith}
use Rattle.sets.specs.Sets.{Apart}
use Rattle.sets.specs.Arrays.{tabulate}
use Rattle.sets.specs.Laws.Arrays.{length-tabulate, at-tabulate}
use Rattle.roster.specs.declared.Table.{Table}
use Rattle.roster.specs.Meaning.{CrewList, Blocks}

-- e crews of a list at places that differ, none of which meets B, are a list for B
pub chosen : (table : Table) (P d t ed A e B : ℕ) (crews : List ℕ) (f : ℕ → ℕ) → ((j : ℕ) → j < e → f j < d)
    → ((i j : ℕ) → i < e → j < e → i ≢ j → f i ≢ f j) → ((j : ℕ) → j < e → Apart (get_or crews (f j) 0) B)
    → CrewList table P d t ed A crews → CrewList table P e t ed B (tabulate e (λ j. get_or crews (f j) 0))
chosen table P d t ed A e B crews f below differ apart k = record {
  many = length-tabulate e (λ j. get_or crews (f j) 0);
  rows = λ j l. rw (at j l) (k.rows (f j) (below j l));
  disjoint = λ i j li lj n. rw (at i li, at j lj) (k.disjoint (f i) (f j) (below i li) (below j lj) (differ i j li lj n));
  present = λ j l. rw (at j l) (apart j l);
  small = λ j l. rw (at j l) (k.small (f j) (below j l));
  whole = λ j l. rw (at j l) (k.whole (f j) (below j l));
  enough = λ j l. rw (at j l) (k.enough (f j) (below j l));
}
  where
    at : (j : ℕ) → j < e → get_or (tabulate e (λ i. get_or crews (f i) 0)) j 0 ≡ get_or crews (f j) 0
    at j l = at-tabulate e (λ i. get_or crews (f i) 0) j l

-- where not even e crews can be had, no more can
pub blocks_more-crews : (table : Table) (P d e t ed A : ℕ) → e ≤ d → Blocks table P e t ed A → Blocks table P d t ed A
blocks_more-crews table P d e t ed A le b crews k =
    b (tabulate e (λ j. get_or crews j 0))
    (chosen table P d t ed A e A crews (λ j. j) (λ j l. omega arith) (λ i j li lj n. n) (λ j l. k.present j (omega arith)) k)
