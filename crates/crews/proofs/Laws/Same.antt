-- "Holdings outside P play no part", and holdings past the count play no part: on tables that agree within P filling comes to the same, its
-- placements and its crews. The rows' holdings are one function, so the work is one and the same. Assumes nothing.
use Rattle.std.specs.Prelude.{◌≡◌, true, false, ℕ, ◌-◌, ◌^◌, leb}
use Rattle.std.proofs.Common.{sym, ap, ap₂, ◌∙◌, ⊎_elim, leb-false}
use Rattle.std.proofs.Math.Path.{fun_ext}
use Rattle.sets.specs.Laws.Sums.{either}
use Rattle.sets.specs.Sets.{minus}
use Rattle.roster.specs.declared.Table.{Table}
use Rattle.roster.specs.Limits.{row_limit}
use Rattle.roster.specs.Meaning.{held, least_members}
use Rattle.roster.proofs.Laws.Same.{Agree}
use Rattle.crews.specs.Filling.{search_from, holds_of, holders_of, orderly, work_of, present, filling}

holds-past : (table : Table) (P u : ℕ) → leb table.rows u ≡ true → holds_of table P u ≡ 0
holds-past table P u e = rw (e, holds_of)

holds_row : (table : Table) (P u : ℕ) → leb table.rows u ≡ false → holds_of table P u ≡ held table P u
holds_row table P u e = rw (e, holds_of)

module _ (table other : Table) (P : ℕ) (a : Agree table other P) where
  same_holds : (u : ℕ) → holds_of table P u ≡ holds_of other P u
  same_holds u =
      let count : leb table.rows u ≡ leb other.rows u = ap (λ (n : ℕ). leb n u) a.count in
      ⊎_elim
      (λ e. holds-past table P u e ∙ sym (holds-past other P u (sym count ∙ e)))
      (λ e. holds_row table P u e ∙ a.within u (leb-false _ _ e) ∙ sym (holds_row other P u (sym count ∙ e)))
      (either (leb table.rows u))

  pub same_work : (d t ed : ℕ) → work_of table P d t ed ≡ work_of other P d t ed
  same_work d t ed = ap (λ (holds : ℕ → ℕ). orderly holds (holders_of holds) P d t (least_members ed)) (fun_ext same_holds)

  pub same_present : (A : ℕ) → present table A ≡ present other A
  same_present A = ap (λ (n : ℕ). minus row_limit (2 ^ n - 1) A) a.count

  pub same_filling : (d t ed A : ℕ) → filling table P d t ed A ≡ filling other P d t ed A
  same_filling d t ed A = ap₂ search_from (same_work d t ed) (same_present A)
