-- How cells and lines are fitted, one at a time. Assumes nothing.
use Rattle.std.specs.Prelude.{◌≡◌, ℕ, zero, suc, ◌<◌, ◌≤◌, Bool, true, false, ◌&&◌, ◌||◌, ◌≢◌, List, [], ◌∷◌, ◌++◌, length, drop, ◌==◌, nat_eq, slice_index, refl}
use Rattle.std.proofs.Common.{sym, ap, ◌∙◌, append_assoc, arith, eq-eqb, ne_eqb}
use Rattle.text.specs.Text.{comma, newline, joined, marked}
use Rattle.text.specs.Cut.{ended}
use Rattle.table.specs.Understood.{cut, blank, under, fit, fitted, parts, hash}
use Rattle.table.specs.declared.Piece.{Piece}
use Rattle.table.specs.Inner.Fitting.{between, first_of, others_of, IsPiece, kept_if, cell_if, cells_after, gap_if}
use Rattle.table.specs.Laws.Cuts.{cut-past}

-- ---- cells

fit_step : (hs cs : List (List ℕ)) → fit hs cs ≡ under (first_of hs) (first_of cs) ++ fit (others_of hs) (others_of cs)
unfolding fit under first_of others_of
fit_step [] [] = refl
fit_step [] (c ∷ cs) = refl
fit_step (h ∷ hs) [] = refl
fit_step (h ∷ hs) (c ∷ cs) = refl

cells_step : (begun kept : Bool) (cell : List ℕ) (more : List (List ℕ))
    → cells_after begun (kept_if kept cell ++ more) ≡ cell_if kept begun cell ++ cells_after (begun || kept) more
unfolding cells_after joined marked
cells_step false false cell more = refl
cells_step true false cell more = refl
cells_step false true cell more = refl
cells_step true true cell more = refl

-- what is left to be written of a line, from these places of it and its heading on
unfoldable pub cells_from : List ℕ → ℕ → List ℕ → ℕ → Bool → List ℕ
cells_from heading h line c begun = cells_after begun (fit (cut comma (drop h heading)) (cut comma (drop c line)))

pub cells_begin : (heading line : List ℕ) → cells_from heading 0 line 0 false ≡ fitted heading line
unfolding cells_from cells_after fitted
cells_begin heading line = refl

pub cells_next : (heading line : List ℕ) (h c : ℕ) (begun kept : Bool) (p q : Piece) → IsPiece heading h comma p → IsPiece line c comma q
    → under (between h p.end heading) (between c q.end line) ≡ kept_if kept (between c q.end line)
    → cells_from heading h line c begun ≡ cell_if kept begun (between c q.end line) ++ cells_from heading p.next line q.next (begun || kept)
unfolding cells_from
cells_next heading line h c begun kept p q is its u =
    let hs = cut comma (drop h heading) in
    let cs = cut comma (drop c line) in
    let above : first_of hs ≡ between h p.end heading = is.first in
    let below : first_of cs ≡ between c q.end line = its.first in
    let aboves : others_of hs ≡ cut comma (drop p.next heading) = is.others in
    let belows : others_of cs ≡ cut comma (drop q.next line) = its.others in
    let e : fit hs cs ≡ kept_if kept (between c q.end line) ++ fit (cut comma (drop p.next heading)) (cut comma (drop q.next line)) = cc (fit_step hs cs) in
    ap (cells_after begun) e ∙ cells_step begun kept (between c q.end line) _

pub cells_end : (heading line : List ℕ) (h c : ℕ) (begun : Bool) → length heading ≤ h → length line ≤ c → cells_from heading h line c begun ≡ cells_after begun []
unfolding cells_from fit
cells_end heading line h c begun p q =
    let a = cut-past heading h comma p in
    let b = cut-past line c comma q in
    ap (cells_after begun) (ap (λ (l : List (List ℕ)). fit l (cut comma (drop c line))) a ∙ ap (fit []) b)

-- ---- a cell under its heading

pub under_none : (heading cell : List ℕ) → length heading ≡ 0 → length cell ≡ 0 → under heading cell ≡ []
unfolding under
under_none [] [] e f = refl
under_none [] (c ∷ cell) e f = absurd (omega arith)
under_none (h ∷ heading) cell e f = absurd (omega arith)

pub under-nothing : (heading cell : List ℕ) → length heading ≡ 0 → length cell ≢ 0 → under heading cell ≡ cell ∷ []
unfolding under
under-nothing [] [] e n = absurd (n refl)
under-nothing [] (c ∷ cell) e n = refl
under-nothing (h ∷ heading) cell e n = absurd (omega arith)

pub under_passed : (heading cell : List ℕ) → length heading ≢ 0 → slice_index heading 0 ≡ hash → under heading cell ≡ []
unfolding under
under_passed [] cell n e = absurd (n refl)
under_passed (h ∷ heading) cell n e = rw (under, eq-eqb h hash e)

pub under_kept : (heading cell : List ℕ) → length heading ≢ 0 → slice_index heading 0 ≢ hash → under heading cell ≡ cell ∷ []
unfolding under
under_kept [] cell n e = absurd (n refl)
under_kept (h ∷ heading) cell n e = rw (under, ne_eqb h hash e)

-- ---- lines

-- a blank line ends its part
pub blank-line : (gap : List (List ℕ)) (heading line : List ℕ) (lines : List (List ℕ)) → blank line ≡ true
    → parts gap heading (line ∷ lines) ≡ parts gap [] lines
unfolding parts
blank-line gap heading line lines b = rw (parts, b)

-- a line that is waited for is a heading
pub heading_line : (gap : List (List ℕ)) (heading line : List ℕ) (lines : List (List ℕ)) → blank line ≡ false → length heading ≡ 0
    → parts gap heading (line ∷ lines) ≡ gap ++ (fitted line line ∷ parts ([] ∷ []) line lines)
unfolding parts
heading_line gap heading line lines b e = rw (parts, b, eq-eqb (length heading) 0 e)

-- any other stands under its heading
pub headed_line : (gap : List (List ℕ)) (heading line : List ℕ) (lines : List (List ℕ)) → blank line ≡ false → length heading ≢ 0
    → parts gap heading (line ∷ lines) ≡ fitted heading line ∷ parts gap heading lines
unfolding parts
headed_line gap heading line lines b n = rw (parts, b, ne_eqb (length heading) 0 n)

-- lines are ended one by one
pub ended-cons : (line : List ℕ) (lines : List (List ℕ)) → ended (line ∷ lines) ≡ (line ++ (newline ∷ [])) ++ ended lines
unfolding ended
ended-cons line lines = sym (append_assoc line (newline ∷ []) (ended lines))

pub ended_gap : (begun : Bool) (line : List ℕ) (lines : List (List ℕ))
    → ended (gap_if begun ++ (line ∷ lines)) ≡ (ended (gap_if begun) ++ (line ++ (newline ∷ []))) ++ ended lines
unfolding ended
ended_gap false line lines = ended-cons line lines
ended_gap true line lines = ap (λ (l : List ℕ). newline ∷ l) (ended-cons line lines)

-- a line is blank if each of its bytes is a comma
pub blank_no : (line : List ℕ) (i : ℕ) → i < length line → slice_index line i ≢ comma → blank line ≡ false
unfolding blank
blank_no [] i h n = absurd (omega arith)
blank_no (c ∷ line) zero h n = rw (blank, ne_eqb c comma n)
blank_no (c ∷ line) (suc i) h n = go (c == comma) (blank_no line i (omega arith) n)
  where
    go : (b : Bool) → blank line ≡ false → (b && blank line) ≡ false
    go true e = e
    go false e = refl

pub blank_yes : (line : List ℕ) → ((i : ℕ) → i < length line → slice_index line i ≡ comma) → blank line ≡ true
unfolding blank
blank_yes [] h = refl
blank_yes (c ∷ line) h =
    let first : nat_eq c comma ≡ true = eq-eqb c comma (h 0 (omega arith)) in
    rw (blank, first) (blank_yes line (λ i l. h (suc i) (omega arith)))
