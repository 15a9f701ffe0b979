-- The comma, and the mark where there is one. Assumes nothing.
use Rattle.std.proofs.Common.{◌≡◌, ℕ, zero, suc, [], ◌∷◌, ◌++◌, sym, refl, ap}
use Rattle.text.specs.Text.{comma, marked}
use Rattle.text.specs.Laws.Appends.{◌then◌, read_as}
use Rattle.table.specs.Table.{mark}
use Rattle.table.specs.Inner.Puts.{further}
use Rattle.table.proofs.put.put_mark.Goals as goal

empty : {digit : ℕ} → digit ≡ 0 → comma ∷ [] ≡ further (mark digit ∷ [])
unfolding marked
empty e = ap (λ (d : ℕ). further (mark d ∷ [])) (sym e)

crossed : (digit : ℕ) → (digit ≡ 0 → ⊥) → (comma ∷ []) ++ mark 1 ≡ further (mark digit ∷ [])
unfolding marked
crossed zero n = absurd (n refl)
crossed (suc d) n = refl

pub returns-then-digit-eq0 : goal.returns-then-digit-eq0
returns-then-digit-eq0 c = read_as (empty c.if-digit-eq0.true) c.put-next.ensures

pub returns : goal.returns
returns c = read_as (crossed c.args.digit c.if-digit-eq0.false) (c.put-next.ensures then c.put.ensures)
