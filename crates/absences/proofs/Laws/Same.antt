-- Holdings outside P, and those past the row count, play no part in either search: tables that agree within P below the count get the same list of
-- absences, the same need and equal replies. Assumes nothing.
use Rattle.std.specs.Prelude.{◌≡◌, ◌⊎◌, true, false, not, ◌&&◌, ◌||◌}
use Rattle.std.proofs.Math.Path.{refl, ap, ap₂, fun_ext}
use Rattle.std.proofs.Common.{sym, ◌∙◌, inl, inr, arith}
use mathlib.Core.List.{List, ◌∷◌, ◌++◌}
use Prim.Native.Nat.{ℕ, zero, suc, ◌+◌, ◌^◌, ◌≤◌, ◌<◌, min}
use Rattle.std.proofs.Math.Decide.{ℕ_discrete}
use Rattle.std.specs.Int.Bits.{bit_and}
use Rattle.std.proofs.Math.Dec.{eqb, ltb}
use Rattle.sets.specs.Sets.{with}
use Rattle.sets.specs.Members.{set_of}
use Rattle.sets.specs.Laws.Sums.{either}
use Rattle.sets.proofs.Laws.Build.{set_of_ext}
use Rattle.roster.specs.declared.Table.{Table}
use Rattle.roster.specs.declared.Reply.{Reply}
use Rattle.roster.specs.Meaning.{outweighsb, rank}
use Rattle.roster.specs.Refusals.{policy_ruling}
use Rattle.roster.proofs.Laws.Same.{Agree, same_rank}
use Rattle.crews.specs.Filling.{Outcome, filling}
use Rattle.crews.proofs.Laws.Same.{same_filling}
use Rattle.absences.specs.declared.Way.{Way}
use Rattle.absences.specs.declared.Way.TheVariants.{Full, Skipping}
use Rattle.absences.specs.Tried.{row_from, row_at, joins, listed, sizes_from, sizes_to, tried, Found, weighed}
use Rattle.absences.specs.Asked.{found, PolicyReply}
use Rattle.absences.specs.Replied.{replied_by, policy_reply_of}
use Rattle.absences.proofs.Laws.Rows.{row_here, row_next, row_at_lt}
use Rattle.absences.proofs.Laws.OneSize.{listed-joins, listed_not, none_more, none_left}
use Rattle.absences.proofs.Laws.Demands.{policy_is}

module _ (table other : Table) (P : ℕ) (same : Agree table other P) where
  same_row : (r n u : ℕ) → u + n ≤ table.rows → row_from table P r n u ≡ row_from other P r n u
  unfolding row_from
  same_row r zero u l = refl
  same_row r (suc n) u l = go (ℕ_discrete (rank table P u) r) (same_row r n (suc u) (omega arith))
    where
      rank_same : rank table P u ≡ rank other P u
      rank_same = same_rank table other P u same (omega arith)

      go : Dec (rank table P u ≡ r) → row_from table P r n (suc u) ≡ row_from other P r n (suc u)
          → row_from table P r (suc n) u ≡ row_from other P r (suc n) u
      go (yes e) ih = row_here table P r n u e ∙ sym (row_here other P r n u (sym rank_same ∙ e))
      go (no e) ih = row_next table P r n u e ∙ ih ∙ sym (row_next other P r n u (λ q. e (rank_same ∙ q)))

  same_row_at : (r : ℕ) → row_at table P r ≡ row_at other P r
  same_row_at r = same_row r table.rows 0 (omega arith) ∙ ap (λ (n : ℕ). row_from other P r n 0) same.count

  same_outweighsb : (u v : ℕ) → u < table.rows → v < table.rows → outweighsb table P u v ≡ outweighsb other P u v
  unfolding outweighsb
  same_outweighsb u v lu lv =
      ap₂ (λ (x y : ℕ). eqb (bit_and y x) y && (not (eqb x y) || ltb u v)) (same.within u lu) (same.within v lv)

  same_joins : (way : Way) (F v : ℕ) → v < table.rows → joins way table P F v ≡ joins way other P F v
  unfolding joins
  same_joins Full F v l = refl
  same_joins Skipping F v l =
      ap (λ (m : ℕ). eqb (bit_and m F) m)
      (set_of_ext table.rows (λ u. outweighsb table P u v) (λ u. outweighsb other P u v) (λ u lu. same_outweighsb u v lu l)
      ∙ ap (λ (n : ℕ). set_of n (λ u. outweighsb other P u v)) same.count)

  same_listed : (way : Way) (m k r F : ℕ) → m + r ≡ table.rows → listed way table P m k r F ≡ listed way other P m k r F
  same_listed way m zero r F e = none_more way table P m r F ∙ sym (none_more way other P m r F)
  same_listed way zero (suc k) r F e = none_left way table P k r F ∙ sym (none_left way other P k r F)
  same_listed way (suc m) (suc k) r F e =
      go (either (joins way table P F (row_at table P r)))
      (same_listed way m k (suc r) (with F (row_at table P r)) (omega arith)) (same_listed way m (suc k) (suc r) F (omega arith))
    where
      join : joins way table P F (row_at table P r) ≡ joins way other P F (row_at other P r)
      join = same_joins way F (row_at table P r) (row_at_lt table P r (omega arith)) ∙ ap (joins way other P F) (same_row_at r)

      go : (joins way table P F (row_at table P r) ≡ true) ⊎ (joins way table P F (row_at table P r) ≡ false)
          → listed way table P m k (suc r) (with F (row_at table P r)) ≡ listed way other P m k (suc r) (with F (row_at table P r))
          → listed way table P m (suc k) (suc r) F ≡ listed way other P m (suc k) (suc r) F
          → listed way table P (suc m) (suc k) r F ≡ listed way other P (suc m) (suc k) r F
      go (inl j) take skip =
          listed-joins way table P m k r F j
          ∙ ap₂ (λ (x y : List ℕ). x ++ y) (take ∙ ap (λ (u : ℕ). listed way other P m k (suc r) (with F u)) (same_row_at r)) skip
          ∙ sym (listed-joins way other P m k r F (sym join ∙ j))
      go (inr j) take skip = listed_not way table P m k r F j ∙ skip ∙ sym (listed_not way other P m k r F (sym join ∙ j))

  same_size : (way : Way) (k : ℕ) → listed way table P table.rows k 0 0 ≡ listed way other P other.rows k 0 0
  same_size way k = same_listed way table.rows k 0 0 (omega arith) ∙ ap (λ (n : ℕ). listed way other P n k 0 0) same.count

  same_sizes : (way : Way) (m k : ℕ) → sizes_from way table P m k ≡ sizes_from way other P m k
  unfolding sizes_from
  same_sizes way zero k = refl
  same_sizes way (suc m) k = ap₂ (λ (x y : List ℕ). x ++ y) (same_size way _) (same_sizes way m _)

  -- the same absences are tried
  pub same_tried : (way : Way) (s : ℕ) → tried way table P s ≡ tried way other P s
  same_tried way s = ap (λ (l : List ℕ). 0 ∷ l) (same_sizes way _ _) ∙ ap (λ (n : ℕ). 0 ∷ sizes_to way other P (min s n)) same.count

  module _ (d t ed : ℕ) where
    -- and trying them comes to the same
    pub same_weighed : (l : List ℕ) → weighed (filling table P d t ed) l ≡ weighed (filling other P d t ed) l
    same_weighed l = ap (λ (fill : ℕ → Outcome). weighed fill l) (fun_ext (same_filling table other P same d t ed))

    same_reply : (way : Way) (s allowance : ℕ) → policy_reply_of way table P s d t ed allowance ≡ policy_reply_of way other P s d t ed allowance
    unfolding policy_reply_of
    same_reply way s allowance =
        ap (λ (n : ℕ). replied_by (policy_ruling n P s d t ed) (found way table P s d t ed) (filling table P d t ed 0).crews allowance) same.count
        ∙ ap₂ (λ (w : Found) (o : Outcome). replied_by (policy_ruling other.rows P s d t ed) w o.crews allowance)
        (ap (weighed (filling table P d t ed)) (same_tried way s) ∙ same_weighed (tried way other P s)) (same_filling table other P same d t ed 0)

-- Tables that agree within P below the count get equal replies, by either search.
pub policy_agree : (way : Way) (table other : Table) (P s d t ed allowance : ℕ) → P < 2 ^ 32 → Agree table other P → (r q : Reply)
    → PolicyReply way table P s d t ed allowance r → PolicyReply way other P s d t ed allowance q → r ≡ q
policy_agree way table other P s d t ed allowance wide same r q a b =
    policy_is way table P s d t ed wide allowance r a
    ∙ same_reply table other P same d t ed way s allowance
    ∙ sym (policy_is way other P s d t ed wide allowance q b)
