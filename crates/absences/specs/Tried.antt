-- 01, "Order of absences" and "Units": the absences that each search tries, in order, and what trying them costs. Nothing here is proved:
-- these are definitions, and they run. That the lists are the right ones is shown in proofs/Laws.
use Rattle.std.specs.Prelude.{Bool, true, false, List, [], ◌∷◌, ◌++◌, ℕ, zero, suc, ◌+◌, min, eqb}
use Rattle.std.specs.Int.Bits.{bit_and}
use Rattle.sets.specs.Members.{set_of}
use Rattle.sets.specs.Sets.{with}
use Rattle.roster.specs.declared.Table.{Table}
use Rattle.roster.specs.Meaning.{outweighsb, rank}
use Rattle.crews.specs.Filling.{Outcome}
use Rattle.absences.specs.declared.Way.{Way}
use Rattle.absences.specs.declared.Way.TheVariants.{Full, Skipping}

-- the first of the n rows from u on that has rank r
unfoldable pub row_from : Table → ℕ → ℕ → ℕ → ℕ → ℕ
row_from table P r zero u = u
row_from table P r (suc n) u = elim (eqb (rank table P u) r) [ true ↦ u | false ↦ row_from table P r n (suc u) ]

-- the row of rank r
abbrev pub row_at : Table → ℕ → ℕ → ℕ
row_at table P r = row_from table P r table.rows 0

-- the rows that outweigh v
abbrev pub outweighers : Table → ℕ → ℕ → ℕ
outweighers table P v = set_of table.rows (λ u. outweighsb table P u v)

-- "The search that skips tries only these; the full search tries all": `Skipping` and `Full`, the variants of the code's own `Way`

-- Whether row v may be added to the absence F: always; or, so that it stays worth trying, if all that outweigh v are in F.
unfoldable pub joins : Way → Table → ℕ → ℕ → ℕ → Bool
joins Full table P F v = true
joins Skipping table P F v = eqb (bit_and (outweighers table P v) F) (outweighers table P v)

-- F with k more of the m rows from rank r on, those with the lower rank first
unfoldable pub listed : Way → Table → ℕ → ℕ → ℕ → ℕ → ℕ → List ℕ
listed way table P m zero r F = F ∷ []
listed way table P zero (suc k) r F = []
listed way table P (suc m) (suc k) r F =
    elim (joins way table P F (row_at table P r)) [
      | true ↦ listed way table P m k (suc r) (with F (row_at table P r))
      | false ↦ []
    ]
    ++ listed way table P m (suc k) (suc r) F

-- those of the n sizes from k on
unfoldable pub sizes_from : Way → Table → ℕ → ℕ → ℕ → List ℕ
sizes_from way table P zero k = []
sizes_from way table P (suc n) k = listed way table P table.rows k 0 0 ++ sizes_from way table P n (suc k)

-- those of the sizes 1 to `most`
abbrev pub sizes_to : Way → Table → ℕ → ℕ → List ℕ
sizes_to way table P most = sizes_from way table P most 1

-- "By size, from 0 to the smaller of s and the row count"; of size 0 there is nobody absent, and no other
abbrev pub tried : Way → Table → ℕ → ℕ → List ℕ
tried way table P s = 0 ∷ sizes_to way table P (min s table.rows)

-- What trying absences one after the other comes to: whether one blocks, which, and the units.
pub record Found : Type 0 where
  pub blocked : Bool
  pub blocker : ℕ
  pub need : ℕ

-- "An absence tried costs one unit plus its placements."
abbrev pub per_absence : ℕ
per_absence = 1

abbrev pub units_of : Outcome → ℕ
units_of o = per_absence + o.need

-- "The need of a policy question is the sum over the absences tried, up to and including the first that blocks, or all if none does."
-- `fill` is what filling the crews comes to with an absence.
unfoldable pub weighed : (ℕ → Outcome) → List ℕ → Found
weighed fill [] = record { blocked = false; blocker = 0; need = 0 }
weighed fill (A ∷ rest) =
    elim (fill A).found [
      | true ↦
          (let more = weighed fill rest in
          record { blocked = more.blocked; blocker = more.blocker; need = units_of (fill A) + more.need })
      | false ↦ record { blocked = true; blocker = A; need = units_of (fill A) }
    ]
