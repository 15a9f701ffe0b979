-- The present holders of a permission, as the code has them: `holders & free`. Assumes nothing.
use Rattle.std.specs.Prelude.{◌≡◌, List, ℕ, ◌-◌, ◌^◌, ◌≤◌, ◌<◌}
use Rattle.std.proofs.Common.{sym, ap, ◌∙◌, arith}
use Rattle.std.proofs.Math.Path.{fun_ext}
use Rattle.std.specs.Int.Bits.{bit_and}
use Rattle.sets.specs.Arrays.{tabulate, at}
use Rattle.sets.specs.Sets.{bit, Has, minus, ext_all, and_in, in_and}
use Rattle.sets.proofs.Sets.{sub_of_has}
use Rattle.roster.specs.declared.Table.{Table}
use Rattle.roster.specs.Limits.{row_limit}
use Rattle.roster.specs.Meaning.{held}
use Rattle.reasons.specs.Reasons.{holders_here}
use Rattle.reasons.specs.Replied.{scarce_in, lowest_scarce}
use Rattle.reasons.specs.Laws.Scarce.{holder_here}
use Rattle.crews.specs.Filling.{holds_of, holders_of, present}
use Rattle.crews.proofs.Laws.Sound.{present_in, in_present}
use Rattle.crews.proofs.Laws.Fair.{work_agrees}
use Rattle.crews.proofs.Laws.Arrays.{lent_holds, lent_holders, holds_lt}
use Rattle.accounts.specs.Persons.{first}

module _ (table : Table) (P A p : ℕ) (few : table.rows ≤ row_limit) where
  -- of a row of the table
  holders_bit : (u : ℕ) → u < table.rows → bit (holders_of (holds_of table P) p) u ≡ bit (held table P u) p
  holders_bit u l =
      let agrees = work_agrees table P 1 1 1 few in
      agrees.holders p u l ∙ ap (λ (m : ℕ). bit m p) (agrees.holds u l)

  pub holders_present : A < 2 ^ table.rows → bit_and (holders_of (holds_of table P) p) (present table A) ≡ holders_here table P A p
  holders_present a =
      ext_all (bit_and (holders_of (holds_of table P) p) (present table A)) (holders_here table P A p)
      (λ u. omega (arith, sub_of_has _ _ to u, sub_of_has _ _ from u))
    where
      to : (u : ℕ) → Has (bit_and (holders_of (holds_of table P) p) (present table A)) u → Has (holders_here table P A p) u
      to u q =
          let x = and_in (holders_of (holds_of table P) p) (present table A) u q in
          let y = present_in table A u few x.1 in
          (holder_here table P A p u).1 (y.0, y.1, sym (holders_bit u y.0) ∙ x.0)

      from : (u : ℕ) → Has (holders_here table P A p) u → Has (bit_and (holders_of (holds_of table P) p) (present table A)) u
      from u q =
          let x = (holder_here table P A p u).0 q in
          in_and (holders_of (holds_of table P) p) (present table A) u (holders_bit u x.0 ∙ x.2) (in_present table A u few a x.0 x.1)

-- the lowest scarce permission by the arrays that are lent
pub lent_lowest : (table : Table) (P d A : ℕ) → table.rows ≤ row_limit → P < 2 ^ 32 → A < 2 ^ table.rows → (holds holders : List ℕ) (all : ℕ)
    → holds ≡ tabulate row_limit (holds_of table P) → holders ≡ tabulate 32 (holders_of (at holds)) → all ≡ 2 ^ table.rows - 1
    → first (scarce_in (λ p. bit_and (at holders p) (minus row_limit all A)) P d) 32 ≡ lowest_scarce table P d A
lent_lowest table P d A few wide a holds holders all eh ek ea =
    ap (λ (x : ℕ). lowest (λ p. bit_and (at holders p) (minus row_limit x A))) ea
    ∙ ap (λ (h : ℕ → ℕ). lowest (λ p. bit_and (h p) (present table A))) same
    ∙ ap lowest (fun_ext (λ p. holders_present table P A p few a))
  where
    lowest : (ℕ → ℕ) → ℕ
    lowest there = first (scarce_in there P d) 32

    same : at holders ≡ holders_of (holds_of table P)
    same =
        ap at ek
        ∙ ap (λ (h : ℕ → ℕ). at (tabulate 32 (holders_of h))) (ap at eh ∙ lent_holds table P few)
        ∙ lent_holders (holds_of table P) (λ u. holds_lt table P u wide)
