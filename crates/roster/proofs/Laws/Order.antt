-- The order of absences is a strict total order of the sets of rows, so what is first in it is one. The idea: two sets that differ have a lowest
-- rank at which they do, and the set that has it comes first. Assumes nothing.
use Rattle.std.specs.Prelude.{◌≡◌, ◌⊎◌, ◌≢◌, ℕ, zero, suc, ◌^◌, ◌≤◌, ◌<◌}
use Rattle.std.proofs.Common.{sym, ap, ◌∙◌, subst, inl, inr, arith}
use Rattle.std.proofs.Math.Decide.{dec_lt, dec_le, ℕ_discrete}
use Rattle.std.specs.Int.Count.{ones}
use Rattle.sets.specs.Sets.{bit, bit_le, bit_high, bit_below, ext}
use Rattle.roster.specs.declared.Table.{Table}
use Rattle.roster.specs.Meaning.{rank, Lex, Earlier, First, Blocks, FirstBlocker}
use Rattle.roster.proofs.Laws.Rank.{rank_inj}

module _ (table : Table) (P : ℕ) where
  abbrev rk : ℕ → ℕ
  rk v = rank table P v

  -- ---- it is an order

  -- no absence comes before itself
  pub earlier_irrefl : (A : ℕ) → Earlier table P A A → ⊥
  earlier_irrefl A (inl p) = omega arith
  earlier_irrefl A (inr p) = omega (arith, p.1.1, p.1.2)

  lex_trans : (A B C : ℕ) → A < 2 ^ table.rows → B < 2 ^ table.rows → Lex (rank table P) A B → Lex (rank table P) B C → Lex (rank table P) A C
  lex_trans A B C hA hB (x, ax, bx, ex) (y, by, cy, ey) = go (dec_lt (rk x) (rk y)) (dec_lt (rk y) (rk x))
    where
      go : Dec (rk x < rk y) → Dec (rk y < rk x) → Lex (rank table P) A C
      go (yes l) q = (x, ax, sym (ey x l) ∙ bx, λ z k. ex z k ∙ ey z (omega arith))
      go (no p) (yes l) = (y, ex y l ∙ by, cy, λ z k. ex z (omega arith) ∙ ey z k)
      go (no p) (no q) =
          let e : x ≡ y = rank_inj table P x y (bit_below A table.rows x hA ax) (bit_below B table.rows y hB by) (omega arith) in
          absurd (omega (arith, ap (bit B) e))

  -- before one that comes before C is before C
  pub earlier_trans : (A B C : ℕ) → A < 2 ^ table.rows → B < 2 ^ table.rows
      → Earlier table P A B → Earlier table P B C → Earlier table P A C
  earlier_trans A B C hA hB (inl p) (inl q) = inl (omega arith)
  earlier_trans A B C hA hB (inl p) (inr q) = inl (omega (arith, q.0))
  earlier_trans A B C hA hB (inr p) (inl q) = inl (omega (arith, p.0))
  earlier_trans A B C hA hB (inr p) (inr q) = inr (p.0 ∙ q.0, lex_trans A B C hA hB p.1 q.1)

  -- ---- it is total

  -- among the rows below k: they agree on all of them, or differ, and here is the one of lowest rank at which they do
  abbrev Same : ℕ → ℕ → ℕ → Type 0
  Same A B k = (i : ℕ) → i < k → bit A i ≡ bit B i

  abbrev Differ : ℕ → ℕ → ℕ → Type 0
  Differ A B k = (x : ℕ) × (x < k) × (bit A x ≢ bit B x) × ((y : ℕ) → y < k → rk y < rk x → bit A y ≡ bit B y)

  scan : (A B k : ℕ) → Same A B k ⊎ Differ A B k
  scan A B zero = inl (λ i l. absurd (omega arith))
  scan A B (suc k) = go (scan A B k) (ℕ_discrete (bit A k) (bit B k))
    where
      last : (Q : ℕ → Type 0) → ((i : ℕ) → i < k → Q i) → Q k → (i : ℕ) → i < suc k → Q i
      last Q f q i l = at (ℕ_discrete k i)
        where
          at : Dec (k ≡ i) → Q i
          at (yes e) = subst Q e q
          at (no ne) = f i (omega arith)

      pick : (d : Differ A B k) → bit A k ≢ bit B k → Dec (rk k < rk d.0) → Differ A B (suc k)
      pick d ne (yes l) =
          (k, omega arith, ne, last (λ (y : ℕ). rk y < rk k → bit A y ≡ bit B y) (λ y ly r. d.3 y ly (omega arith)) (λ r. absurd (omega arith)))
      pick d ne (no f) = (
        d.0,
        omega (arith, d.1),
        d.2,
        last (λ (y : ℕ). rk y < rk d.0 → bit A y ≡ bit B y) d.3 (λ r. absurd (f r)),
      )

      go : Same A B k ⊎ Differ A B k → Dec (bit A k ≡ bit B k) → Same A B (suc k) ⊎ Differ A B (suc k)
      go (inl s) (yes e) = inl (last (λ (i : ℕ). bit A i ≡ bit B i) s e)
      go (inl s) (no ne) =
          inr (k, omega arith, ne, last (λ (y : ℕ). rk y < rk k → bit A y ≡ bit B y) (λ y ly r. s y ly) (λ r. absurd (omega arith)))
      go (inr d) (yes e) =
          inr (d.0, omega (arith, d.1), d.2, last (λ (y : ℕ). rk y < rk d.0 → bit A y ≡ bit B y) d.3 (λ r. e))
      go (inr d) (no ne) = inr (pick d ne (dec_lt (rk k) (rk d.0)))

  lex_total : (A B : ℕ) → A < 2 ^ table.rows → B < 2 ^ table.rows → A ≢ B → Lex (rank table P) A B ⊎ Lex (rank table P) B A
  lex_total A B hA hB ne = go (scan A B table.rows)
    where
      all : (x : ℕ) → ((y : ℕ) → y < table.rows → rk y < rk x → bit A y ≡ bit B y) → (y : ℕ) → rk y < rk x → bit A y ≡ bit B y
      all x f y r = at (dec_lt y table.rows)
        where
          at : Dec (y < table.rows) → bit A y ≡ bit B y
          at (yes l) = f y l r
          at (no k) = bit_high A table.rows y hA (omega arith) ∙ sym (bit_high B table.rows y hB (omega arith))

      side : (d : Differ A B table.rows) → Dec (bit A d.0 ≤ 0) → Lex (rank table P) A B ⊎ Lex (rank table P) B A
      side d (yes l) =
          let ne' = d.2 in
          inr (d.0, omega (arith, bit_le B d.0), omega arith, λ y r. sym (all d.0 d.3 y r))
      side d (no k) =
          let ne' = d.2 in
          inl (d.0, omega (arith, bit_le A d.0), omega (arith, bit_le A d.0, bit_le B d.0), all d.0 d.3)

      go : Same A B table.rows ⊎ Differ A B table.rows → Lex (rank table P) A B ⊎ Lex (rank table P) B A
      go (inl s) = absurd (ne (ext table.rows A B hA hB s))
      go (inr d) = side d (dec_le (bit A d.0) 0)

  -- of two sets of rows one comes before the other
  pub earlier_total : (A B : ℕ) → A < 2 ^ table.rows → B < 2 ^ table.rows → A ≢ B → Earlier table P A B ⊎ Earlier table P B A
  earlier_total A B hA hB ne = go (dec_lt (ones A) (ones B)) (dec_lt (ones B) (ones A))
    where
      same : ones A ≡ ones B → Lex (rank table P) A B ⊎ Lex (rank table P) B A → Earlier table P A B ⊎ Earlier table P B A
      same e (inl l) = inl (inr (e, l))
      same e (inr l) = inr (inr (sym e, l))

      go : Dec (ones A < ones B) → Dec (ones B < ones A) → Earlier table P A B ⊎ Earlier table P B A
      go (yes l) q = inl (inl l)
      go (no p) (yes l) = inr (inl l)
      go (no p) (no q) = same (omega arith) (lex_total A B hA hB ne)

  -- ---- what is first is one

  -- of the sets that are Q, whatever Q is, at most one is the first
  pub first_unique : (Q : ℕ → Type 0) (A B : ℕ) → First table P Q A → First table P Q B → A ≡ B
  first_unique Q A B a b = go (ℕ_discrete A B)
    where
      pick : Earlier table P A B ⊎ Earlier table P B A → A ≡ B
      pick (inl e) = absurd (b.first A a.rows a.is e)
      pick (inr e) = absurd (a.first B b.rows b.is e)

      go : Dec (A ≡ B) → A ≡ B
      go (yes e) = e
      go (no ne) = pick (earlier_total A B a.rows b.rows ne)

  -- so a "no" can name one absence only
  pub first_blocker_unique : (s d t ed A B : ℕ) → FirstBlocker table P s d t ed A → FirstBlocker table P s d t ed B → A ≡ B
  first_blocker_unique s d t ed = first_unique (λ A. (ones A ≤ s) × Blocks table P d t ed A)
