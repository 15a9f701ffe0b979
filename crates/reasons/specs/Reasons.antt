-- 06, "Say why": the reasons why an absence blocks, in its words and its order, without any search. Rows are persons. Nothing here is proved: these
-- are definitions.
use Rattle.std.specs.Prelude.{not, ◌&&◌, List, ℕ, ◌<◌}
use Rattle.std.specs.Int.Count.{ones}
use Rattle.sets.specs.Sets.{Has}
use Rattle.sets.specs.Members.{set_of, hasb}
use Rattle.roster.specs.declared.Table.{Table}
use Rattle.roster.specs.Meaning.{held, CrewList, Blocks}
use Rattle.reasons.specs.declared.Explanation.{Explanation}
use Rattle.reasons.specs.declared.Explanation.TheVariants as explanation

-- the present holders of p: the rows below the count that hold it within P and are not absent
abbrev pub holders_here : Table → (P A p : ℕ) → ℕ
holders_here table P A p = set_of table.rows (λ u. hasb (held table P u) p && not (hasb A u))

-- "permission of the task with fewer than d present holders"
abbrev pub Scarce : Table → (P d A p : ℕ) → Type 0
Scarce table P d A p = Has P p × (ones (holders_here table P A p) < d)

-- p is the lowest of those that are scarce; and none is
abbrev pub Lowest : (ℕ → Type 0) → ℕ → Type 0
Lowest IsScarce p = IsScarce p × ((q : ℕ) → q < p → IsScarce q → ⊥)

abbrev pub NoneIs : (ℕ → Type 0) → Type 0
NoneIs IsScarce = (p : ℕ) → IsScarce p → ⊥

-- What is said with each reason: that it is true, and that no earlier one is. It is said in the words that are handed over: which permissions are
-- scarce, that there is one crew, that there is not even one, and that the absence blocks.
abbrev pub ReasonBy : (ℕ → Type 0) → (Single NoSingle Blocked : Type 0) → Explanation → Type 0
-- "(1) the lowest permission of the task with fewer than d present holders"
ReasonBy IsScarce Single NoSingle Blocked (explanation.Scarce p) = Lowest IsScarce p
-- "else (2) not even one crew within the size limit exists"
ReasonBy IsScarce Single NoSingle Blocked explanation.NoCrew = NoneIs IsScarce × NoSingle
-- "else (3) single crews exist but not d disjoint ones"
ReasonBy IsScarce Single NoSingle Blocked explanation.Overlap = NoneIs IsScarce × Single × Blocked
-- the others are no reasons
ReasonBy IsScarce Single NoSingle Blocked explanation.Nothing = ⊥
ReasonBy IsScarce Single NoSingle Blocked explanation.Undecided = ⊥
ReasonBy IsScarce Single NoSingle Blocked (explanation.Refused refusal) = ⊥

-- the reason why A blocks
abbrev pub Reason : Table → (P d t ed A : ℕ) → Explanation → Type 0
Reason table P d t ed A =
    ReasonBy (Scarce table P d A) ((crew : List ℕ) × CrewList table P 1 t ed A crew) (Blocks table P 1 t ed A) (Blocks table P d t ed A)

-- the published numbers; 0 where no reason is given
abbrev pub reason_number : Explanation → ℕ
reason_number (explanation.Scarce p) = 1
reason_number explanation.NoCrew = 2
reason_number explanation.Overlap = 3
reason_number explanation.Nothing = 0
reason_number explanation.Undecided = 0
reason_number (explanation.Refused refusal) = 0
