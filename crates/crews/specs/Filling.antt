-- 01, "Filling crews": the search as it is told there, without an allowance: whether it ends with a crew list, the list, and how many
-- placements it made. Nothing here is proved: these are definitions, and they run.
use Rattle.std.specs.Prelude.{Bool, true, false, ◌&&◌, List, [], ◌∷◌, ℕ, zero, suc, ◌+◌, ◌-◌, ◌^◌, eqb, leb, set}
use Rattle.std.specs.Int.Bits.{bit_and, bit_or, bit_xor}
use Rattle.std.specs.Int.Count.{ones, count_trailing_zeros}
use Rattle.sets.specs.Members.{members, filter, set_of, hasb}
use Rattle.sets.specs.Sets.{minus}
use Rattle.roster.specs.declared.Table.{Table}
use Rattle.roster.specs.Limits.{row_limit}
use Rattle.roster.specs.Meaning.{held, least_members}
use Rattle.roster.specs.Replies.{no_crews}
use Rattle.crews.specs.declared.Filling.{Filling}

-- What the crews are filled from and for: each row's holdings, for each permission the rows that hold it, the task P, d and t; which rows may
-- begin a crew; and how many members a crew has at least, which is what an edition says.
pub record Work : Type 0 where
  pub holds : ℕ → ℕ
  pub holders : ℕ → ℕ
  pub task : ℕ
  pub crews : ℕ
  pub size : ℕ
  pub begins : Filling → ℕ → Bool
  pub least : ℕ

-- What the search comes to.
pub record Outcome : Type 0 where
  pub found : Bool
  pub crews : List ℕ
  pub need : ℕ

abbrev pub nothing : Outcome
nothing = record { found = false; crews = no_crews; need = 0 }

abbrev pub complete : List ℕ → Outcome
complete crews = record { found = true; crews = crews; need = 0 }

-- n placements more
abbrev pub after : ℕ → Outcome → Outcome
after n o = record { found = o.found; crews = o.crews; need = n + o.need }

-- the permissions of P not yet held by the crew that is being filled
abbrev pub missing_of : ℕ → Filling → ℕ
missing_of task f = bit_xor task (bit_and task f.held)

-- "The half-filled crews are one value, and each placement hands a new one back." The first row of a crew says from which row on the next
-- crew may begin.
unfoldable pub place_of : Filling → ℕ → ℕ → Filling
place_of f row h =
    record {
      crews = f.crews;
      closed = f.closed;
      crew = bit_or f.crew (2 ^ row);
      free = bit_xor f.free (2 ^ row);
      held = bit_or f.held h;
      from = elim (eqb f.crew 0) [ true ↦ row + 1 | false ↦ f.from ];
    }

unfoldable pub close_of : Filling → Filling
close_of f =
    record { crews = set f.crews f.closed f.crew; closed = f.closed + 1; crew = 0; free = f.free; held = 0; from = f.from }

-- "A crew that covers P is closed and the next begun"; under edition 2 one "that covers with one member placed takes a companion before it
-- closes"
unfoldable pub closes_of : ℕ → ℕ → Filling → Bool
closes_of task least f = eqb (missing_of task f) 0 && leb least (ones f.crew)

unfoldable pub placed_of : Work → Filling → ℕ → Filling
placed_of w f row =
    let g = place_of f row (w.holds row) in
    elim (closes_of w.task w.least g) [ true ↦ close_of g | false ↦ g ]

-- "take the lowest permission of P not yet held there"
abbrev pub wanted_of : ℕ → Filling → ℕ
wanted_of task f = count_trailing_zeros 32 (missing_of task f)

-- "the rows ... that hold it, are not absent and are in no crew"; where nothing is missing, a companion comes "from the present free persons"
unfoldable pub pool_of : (ℕ → ℕ) → ℕ → ℕ → ℕ
pool_of holders missing free = elim (eqb missing 0) [ true ↦ free | false ↦ bit_and (holders (count_trailing_zeros 32 missing)) free ]

abbrev pub pool : Work → Filling → ℕ
pool w f = pool_of w.holders (missing_of w.task f) f.free

-- "in ascending order"; the rule for the first row of a crew binds no other
unfoldable pub candidates : Work → Filling → List ℕ
candidates w f =
    let all = members 0 row_limit (pool w f) in
    elim (eqb f.crew 0) [ true ↦ filter (w.begins f) all | false ↦ all ]

-- Each candidate in turn, by `deeper`, up to the first that leads to a complete list. "Every placement, also one that fills a crew without
-- covering, is one unit."
unfoldable pub try_each : (Filling → Outcome) → Work → Filling → List ℕ → Outcome
try_each deeper w f [] = nothing
try_each deeper w f (row ∷ rest) =
    let here = deeper (placed_of w f row) in
    elim here.found [
      | true ↦ after 1 here
      | false ↦ after (1 + here.need) (try_each deeper w f rest)
    ]

-- "The search goes one placement deeper at a time and takes it back when nothing further fits." A candidate is tried "only while the crew
-- has fewer than t rows". The first number is how many more placements there can be: as many as there are free rows.
unfoldable pub search : ℕ → Work → Filling → Outcome
search zero w f = elim (eqb f.closed w.crews) [ true ↦ complete f.crews | false ↦ nothing ]
search (suc n) w f =
    elim (eqb f.closed w.crews) [
      | true ↦ complete f.crews
      | false ↦
          elim (leb w.size (ones f.crew)) [
            | true ↦ nothing
            | false ↦ try_each (λ g. search n w g) w f (candidates w f)
          ]
    ]

-- nothing is placed, and these rows are free
abbrev pub begin : ℕ → Filling
begin free = record { crews = no_crews; closed = 0; crew = 0; free = free; held = 0; from = 0 }

-- the whole search from these free rows
abbrev pub search_from : Work → ℕ → Outcome
search_from w free = search (ones free) w (begin free)

-- ---- the rule, over a table

-- a row's holdings within P; a row past the count holds nothing
abbrev pub holds_of : Table → ℕ → ℕ → ℕ
holds_of table P u = elim (leb table.rows u) [ true ↦ 0 | false ↦ held table P u ]

-- the rows that hold permission p
abbrev pub holders_of : (ℕ → ℕ) → ℕ → ℕ
holders_of holds p = set_of row_limit (λ u. hasb (holds u) p)

-- the work where this says which rows may begin a crew
abbrev pub work_by : (Filling → ℕ → Bool) → (ℕ → ℕ) → (ℕ → ℕ) → ℕ → ℕ → ℕ → ℕ → Work
work_by begins holds holders P d t least = record {
  holds = holds;
  holders = holders;
  task = P;
  crews = d;
  size = t;
  begins = begins;
  least = least;
}

-- "The first row placed in a crew must now have a higher row number than the first row of the crew before."
abbrev pub orderly : (ℕ → ℕ) → (ℕ → ℕ) → ℕ → ℕ → ℕ → ℕ → Work
orderly holds holders P d t least = work_by (λ f u. leb f.from u) holds holders P d t least

abbrev pub work_of : Table → ℕ → ℕ → ℕ → ℕ → Work
work_of table P d t ed = orderly (holds_of table P) (holders_of (holds_of table P)) P d t (least_members ed)

-- the rows that are not absent
abbrev pub present : Table → ℕ → ℕ
present table A = minus row_limit (2 ^ table.rows - 1) A

-- what filling the crews comes to with A absent
abbrev pub filling : Table → ℕ → ℕ → ℕ → ℕ → ℕ → Outcome
filling table P d t ed A = search_from (work_of table P d t ed) (present table A)

-- ---- the rule before, kept as the reference

-- any row may begin a crew
abbrev pub plainly : (ℕ → ℕ) → (ℕ → ℕ) → ℕ → ℕ → ℕ → ℕ → Work
plainly holds holders P d t least = work_by (λ f u. true) holds holders P d t least

abbrev pub work_before : Table → ℕ → ℕ → ℕ → ℕ → Work
work_before table P d t ed = plainly (holds_of table P) (holders_of (holds_of table P)) P d t (least_members ed)

abbrev pub filling_before : Table → ℕ → ℕ → ℕ → ℕ → ℕ → Outcome
filling_before table P d t ed A = search_from (work_before table P d t ed) (present table A)
