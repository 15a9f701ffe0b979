-- 01, "What comes back": what is refused, by which number, and in which order. Nothing here is proved: these are definitions.
use Rattle.std.specs.Prelude.{Bool, true, false, ◌||◌, ℕ, ◌^◌, eqb, leb, ltb, Err, Ok, Result}
use Rattle.roster.specs.declared.Refusal.{Refusal}
use Rattle.roster.specs.declared.Refusal.TheVariants.{Rows, Task, Away, Crews, Size, Absence, Edition}
use Rattle.roster.specs.declared.Policy.{Policy}
use Rattle.roster.specs.Limits.{row_limit, away_limit, crew_limit, size_limit, edition_limit}

-- "**1** more than 64 rows; **2** P is zero; **3** s above 64; **4** d outside 1 to 8; **5** t outside 1 to 64; **6** a named absence has a
-- bit at or past the row count"; and "25, edition other than 1 or 2"
abbrev pub number_of : Refusal → ℕ
number_of Rows = 1
number_of Task = 2
number_of Away = 3
number_of Crews = 4
number_of Size = 5
number_of Absence = 6
number_of Edition = 25

-- "Refused, first that applies": this refusal if its fault is there, and else the rest
abbrev pub refused_if : Bool → Refusal → Result Unit Refusal → Result Unit Refusal
refused_if true refusal rest = Err refusal
refused_if false refusal rest = rest

-- x is not one of 1 to most
abbrev pub outside : ℕ → ℕ → Bool
outside most x = eqb x 0 || ltb most x

-- the policy question: 1, 2, 3, 4, 5, 25
unfoldable pub policy_ruling : ℕ → ℕ → ℕ → ℕ → ℕ → ℕ → Result Unit Refusal
policy_ruling rows P s d t ed =
    refused_if (ltb row_limit rows) Rows
    (refused_if (eqb P 0) Task (refused_if (ltb away_limit s) Away
    (refused_if (outside crew_limit d) Crews (refused_if (outside size_limit t) Size
    (refused_if (outside edition_limit ed) Edition
    (Ok tt))))))

-- the named absence: 1, 2, 4, 5, 25, 6. A has a bit at or past the row count exactly if it is no number below 2 ^ rows (`past-rows_iff`).
unfoldable pub named_ruling : ℕ → ℕ → ℕ → ℕ → ℕ → ℕ → Result Unit Refusal
named_ruling rows P d t ed A =
    refused_if (ltb row_limit rows) Rows
    (refused_if (eqb P 0) Task
    (refused_if (outside crew_limit d) Crews (refused_if (outside size_limit t) Size
    (refused_if (outside edition_limit ed) Edition (refused_if (leb (2 ^ rows) A) Absence
    (Ok tt))))))

-- the same of a policy as one value; the named absence does not look at how many may be away
abbrev pub ruling_of : ℕ → Policy → Result Unit Refusal
ruling_of rows p = policy_ruling rows p.task p.away p.crews p.size p.edition

abbrev pub named_ruling_of : ℕ → Policy → ℕ → Result Unit Refusal
named_ruling_of rows p A = named_ruling rows p.task p.crews p.size p.edition A

-- what is refused of a policy by itself, without a table: 2, 3, 4, 5, 25
abbrev pub own_ruling : Policy → Result Unit Refusal
own_ruling p = ruling_of 0 p

-- the checked constructor: the policy, or its own first fault
abbrev pub made_by : Result Unit Refusal → Policy → Result Policy Refusal
made_by (Ok tt) policy = Ok policy
made_by (Err refusal) policy = Err refusal

abbrev pub made : Policy → Result Policy Refusal
made p = made_by (own_ruling p) p

abbrev pub made_of : ℕ → ℕ → ℕ → ℕ → ℕ → Result Policy Refusal
made_of P s d t ed = made (record { task = P; away = s; crews = d; size = t; edition = ed })
