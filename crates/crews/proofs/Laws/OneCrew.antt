-- Filling one crew costs no more than filling d, and as much where there is none: up to the first crew that closes, both searches make
-- the same placements. So a named-absence question decided for d is decided for one crew. Assumes nothing.
use Rattle.std.specs.Prelude.{◌≡◌, true, false, ◌⊎◌, ℕ, zero, suc, ◌+◌, ◌≤◌}
use Rattle.std.proofs.Math.Path.{refl}
use Rattle.std.proofs.Common.{sym, ◌∙◌, true≢false, ⊎_elim, arith}
use Rattle.std.proofs.Math.Logic.{inl, inr}
use mathlib.Core.List.{List, [], ◌∷◌}
use Rattle.std.proofs.Math.Decide.{dec_le}
use Rattle.std.specs.Int.Count.{ones}
use Rattle.sets.specs.Laws.Sums.{either}
use Rattle.roster.specs.declared.Table.{Table}
use Rattle.roster.specs.Meaning.{Blocks}
use Rattle.crews.specs.declared.Filling.{Filling}
use Rattle.crews.specs.Filling.{Work, Outcome, nothing, after, place_of, close_of, placed_of, candidates, try_each, search, begin, work_of, present, filling}
use Rattle.crews.proofs.Laws.Search.{placed_is, search-done, search_out, search-full, search_open}
use Rattle.crews.proofs.Laws.Exact.{Fair, blocks_none}

-- What one crew comes to, beside what more crews come to: no more placements; and where there is none, there is none either, after as many.
pub record Cheaper (one more : Outcome) : Type 0 where
  pub need : one.need ≤ more.need
  pub none : one.found ≡ false → more.found ≡ false
  pub same : one.found ≡ false → one.need ≡ more.need

neither : Cheaper nothing nothing
neither = record { need = omega arith; none = λ e. refl; same = λ e. refl }

-- where one crew is found, only the placements count
found-one : (one more : Outcome) → one.found ≡ true → one.need ≤ more.need → Cheaper one more
found-one one more h le = record { need = le; none = λ e. absurd (true≢false (sym h ∙ e)); same = λ e. absurd (true≢false (sym h ∙ e)) }

-- `try_each`, one candidate: what it comes to, and what the rest come to
abbrev turn : Outcome → Outcome → Outcome
turn here rest = elim here.found [ true ↦ after 1 here | false ↦ after (1 + here.need) rest ]

turns : (a b x y : Outcome) → Cheaper a b → Cheaper x y → Cheaper (turn a x) (turn b y)
turns a b x y c r = go (either a.found) (either b.found)
  where
    go : (a.found ≡ true) ⊎ (a.found ≡ false) → (b.found ≡ true) ⊎ (b.found ≡ false) → Cheaper (turn a x) (turn b y)
    go (inl h) (inl k) = rw (h, k) (found-one _ _ refl (omega (arith, c.need)))
    go (inl h) (inr k) = rw (h, k) (found-one _ _ refl (omega (arith, c.need)))
    go (inr h) (inl k) = absurd (true≢false (sym k ∙ c.none h))
    go (inr h) (inr k) =
        rw (h, k) (record { need = omega (arith, c.need, r.need); none = r.none; same = λ e. omega (arith, c.same h, r.same e) })

-- two rules that differ in nothing but how many crews they ask for: one, and one or more
module _ (w v : Work)
    (placed : (f : Filling) (row : ℕ) → placed_of w f row ≡ placed_of v f row)
    (alike : (f : Filling) → candidates w f ≡ candidates v f)
    (size : w.size ≡ v.size) (one : w.crews ≡ 1) (some : 1 ≤ v.crews) where
  -- each candidate in turn, where it is known of the deeper searches
  each : (n : ℕ) (f : Filling) → ((row : ℕ) → Cheaper (search n w (placed_of w f row)) (search n v (placed_of v f row))) → (rows : List ℕ)
      → Cheaper (try_each (λ g. search n w g) w f rows) (try_each (λ g. search n v g) v f rows)
  unfolding try_each
  each n f deeper [] = neither
  each n f deeper (row ∷ rest) = turns _ _ _ _ (deeper row) (each n f deeper rest)

  -- a placement closes one crew at most
  closed_by : (f : Filling) (row : ℕ) → f.closed ≡ 0 → ((placed_of v f row).closed ≡ 0) ⊎ ((placed_of v f row).closed ≡ 1)
  unfolding place_of close_of
  closed_by f row e =
      placed_is v f row (λ g. (g.closed ≡ 0) ⊎ (g.closed ≡ 1)) (λ z m. inr (omega arith)) (λ z. inl e)

  -- from a state in which no crew is closed
  cheaper : (n : ℕ) (f : Filling) → f.closed ≡ 0 → Cheaper (search n w f) (search n v f)
  cheaper zero f e = rw (search_out w f (λ q. omega arith), search_out v f (λ q. omega arith)) neither
  cheaper (suc n) f e = go (dec_le w.size (ones f.crew)) (λ g. cheaper n g)
    where
      go : Dec (w.size ≤ ones f.crew) → ((g : Filling) → g.closed ≡ 0 → Cheaper (search n w g) (search n v g))
          → Cheaper (search (suc n) w f) (search (suc n) v f)
      go (yes l) ih =
          rw (search-full w f (suc n) (λ q. omega arith) l, search-full v f (suc n) (λ q. omega arith) (omega arith)) neither
      go (no l) ih =
          rw (search_open w f n (λ q. omega arith) (omega arith), search_open v f n (λ q. omega arith) (omega arith), alike f)
          (each n f deeper (candidates v f))
        where
          deeper : (row : ℕ) → Cheaper (search n w (placed_of w f row)) (search n v (placed_of v f row))
          deeper row =
              rw (placed f row)
              (⊎_elim
              (λ z. ih (placed_of v f row) z)
              (λ z. rw (search-done w (placed_of v f row) n (z ∙ sym one)) (found-one _ _ refl (omega arith)))
              (closed_by f row e))

-- ---- at a table

module _ (table : Table) (P d t ed A : ℕ) (some : 1 ≤ d) where
  one-crew : Cheaper (filling table P 1 t ed A) (filling table P d t ed A)
  unfolding placed_of candidates
  one-crew = cheaper (work_of table P 1 t ed) (work_of table P d t ed) (λ f row. refl) (λ f. refl) refl refl some (ones (present table A)) (begin (present table A)) refl

  -- one crew needs no more placements than d
  pub one-crew-need : (filling table P 1 t ed A).need ≤ (filling table P d t ed A).need
  one-crew-need = one-crew.need

  -- and as many where not even one crew can be had
  pub no_crew-need : Fair table P d → Blocks table P 1 t ed A → (filling table P 1 t ed A).need ≡ (filling table P d t ed A).need
  no_crew-need fair b = one-crew.same (blocks_none alone t ed A b)
    where
      alone : Fair table P 1
      alone = record { rows = fair.rows; task = fair.task; wide = fair.wide; some = omega arith; few = omega arith }
