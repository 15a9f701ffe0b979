-- The swap, on which skipping rests (document 001, definition 4 and lemma 7): an absence that blocks still blocks when one of its rows gives place
-- to a row that holds at least as much. The idea: a crew list for the traded absence becomes one for the old by putting u wherever v stood, which
-- no crew could hold before. So the first blocker is worth trying; and any blocker leads down to one worth trying, since each trade lowers the
-- sum of its ranks. Trades keep the size, so all of it goes through for any bound s. Assumes nothing.
use Rattle.std.specs.Prelude.{◌≡◌, refl, ◌≢◌, ◌↔◌, List, map, get_or}
use Rattle.std.proofs.Common.{sym, ap, ◌∙◌, subst, inr}
use Prim.Native.Nat.{ℕ, zero, suc, ◌+◌, ◌*◌, ◌^◌, ◌≤◌, ◌<◌}
use Rattle.std.proofs.Math.Decide.{dec_le, ℕ_discrete}
use native.Mathlib.Omega.{arith}
use Rattle.std.proofs.lemmas.List.{length-map}
use Rattle.std.proofs.Math.ListN.{get_or-map}
use Rattle.std.specs.Int.Count.{ones}
use Rattle.sets.specs.Sets.{bit, Has, Sub, bit_le, bit-none, bit_below, bit-pow_same, bit-pow_other, trade}
use Rattle.sets.proofs.Sets.{ones-trade, trade_lt, bit-trade_in, bit-trade_out, bit-trade_other}
use Rattle.sets.specs.Sums.{sum_to}
use Rattle.sets.specs.Laws.Sums.{sum-add, sum_one}
use Rattle.roster.specs.declared.Table.{Table}
use Rattle.roster.specs.Meaning.{held, CrewList, Blocks, Absence, Holds, Outweighs, rank, Earlier, Worth, First, FirstBlocker}
use Rattle.roster.proofs.Laws.Rank.{outweighs_rank}
use Rattle.roster.proofs.Laws.Order.{earlier_trans}

-- ---- a crew with u wherever v stood

pick : ℕ → ℕ → ℕ → ℕ
pick zero a b = a
pick (suc d) a b = b

swapped : ℕ → ℕ → ℕ → ℕ → ℕ
swapped n v u c = pick (bit c v) c (trade n c v u)

record Swapped (n v u c c' : ℕ) : Type 0 where
  rows : c' < 2 ^ n
  in_u : bit c' u ≡ bit c v
  out_v : bit c' v ≡ 0
  other : (i : ℕ) → u ≢ i → v ≢ i → bit c' i ≡ bit c i
  size : ones c' ≡ ones c

swapped_ok : (n v u c : ℕ) → c < 2 ^ n → u < n → v < n → u ≢ v → bit c u ≡ 0 → Swapped n v u c (swapped n v u c)
unfolding swapped pick
swapped_ok n v u c hc hu hv ne e = go (bit c v) refl
  where
    go : (b : ℕ) → bit c v ≡ b → Swapped n v u c (pick b c (trade n c v u))
    go zero f = record { rows = hc; in_u = omega arith; out_v = f; other = λ i p q. refl; size = refl }
    go (suc b) f =
        let one : bit c v ≡ 1 = omega (arith, bit_le c v) in
        record {
          rows = trade_lt n n c v u hc hu;
          in_u = bit-trade_in n c v u ∙ sym one;
          out_v = bit-trade_out n c v u hc hv ne;
          other = λ i p q. bit-trade_other n c v u i hc hv p q;
          size = ones-trade n c v u hc hv one e;
        }

swapped_none : (n v u : ℕ) → swapped n v u 0 ≡ 0
unfolding swapped pick
swapped_none n v u = ap (λ (x : ℕ). pick x 0 (trade n 0 v u)) (bit-none v)

swapped_at : (n v u : ℕ) (cs : List ℕ) (j : ℕ) → get_or (map (swapped n v u) cs) j 0 ≡ swapped n v u (get_or cs j 0)
swapped_at n v u cs j =
    ap (get_or (map (swapped n v u) cs) j) (sym (swapped_none n v u)) ∙ get_or-map (swapped n v u) cs j 0

-- a property of every row, by the row: u, v or another
by_row : (u v : ℕ) (Q : ℕ → Type 0) → Q u → Q v → ((i : ℕ) → u ≢ i → v ≢ i → Q i) → (i : ℕ) → Q i
by_row u v Q qu qv q i = go (ℕ_discrete u i) (ℕ_discrete v i)
  where
    go : Dec (u ≡ i) → Dec (v ≡ i) → Q i
    go (yes p) e = subst Q p qu
    go (no f) (yes p) = subst Q p qv
    go (no f) (no g) = q i f g

-- ---- a list of crews for A with u in the place of v gives one for A

module _ (table : Table) (P d t ed A u v : ℕ) (hA : A < 2 ^ table.rows) (hu : u < table.rows) (in_a : Has A v) (outA : bit A u ≡ 0)
    (sub : Sub (held table P v) (held table P u)) where
  abbrev n : ℕ
  n = table.rows

  ne : u ≢ v
  ne e = omega (arith, ap (bit A) e)

  hv : v < n
  hv = bit_below A n v hA in_a

  module _ (cs : List ℕ) (k : CrewList table P d t ed (trade n A v u) cs) where
    -- the j-th crew before and after
    abbrev old : ℕ → ℕ
    old j = get_or cs j 0

    abbrev new : ℕ → ℕ
    new j = get_or (map (swapped n v u) cs) j 0

    out_u : (j : ℕ) → j < d → bit (old j) u ≡ 0
    out_u j l = omega (arith, k.present j l u, bit-trade_in n A v u)

    at : (j : ℕ) → j < d → Swapped n v u (old j) (new j)
    at j l = rw (swapped_at n v u cs j) (swapped_ok n v u (old j) (k.rows j l) hu hv ne (out_u j l))

    cover : (j : ℕ) → j < d → (p : ℕ) → (r : ℕ) × Has (old j) r × Has (held table P r) p
        → (r : ℕ) × Has (new j) r × Has (held table P r) p
    cover j l p (r, hr, hrp) = go (ℕ_discrete u r) (ℕ_discrete v r)
      where
        go : Dec (u ≡ r) → Dec (v ≡ r) → (r : ℕ) × Has (new j) r × Has (held table P r) p
        go (yes e) g = absurd (omega (arith, out_u j l, ap (bit (old j)) e))
        go (no f) (yes e) = (
          u,
          (at j l).in_u ∙ ap (bit (old j)) e ∙ hr,
          omega (arith, sub p, ap (λ (x : ℕ). bit (held table P x) p) e, bit_le (held table P u) p),
        )
        go (no f) (no g) = (r, (at j l).other r f g ∙ hr, hrp)

    swap : CrewList table P d t ed A (map (swapped n v u) cs)
    swap = record {
      many = length-map cs (swapped n v u) ∙ k.many;
      rows = λ j l. (at j l).rows;
      disjoint = λ i j li lj f. by_row u v (λ (x : ℕ). bit (new i) x + bit (new j) x ≤ 1)
          (omega (arith, (at i li).in_u, (at j lj).in_u, k.disjoint i j li lj f v))
          (omega (arith, (at i li).out_v, (at j lj).out_v))
          (λ x p q. omega (arith, (at i li).other x p q, (at j lj).other x p q, k.disjoint i j li lj f x));
      present = λ j l. by_row u v (λ (i : ℕ). bit (new j) i + bit A i ≤ 1)
          (omega (arith, bit_le (new j) u))
          (omega (arith, (at j l).out_v, bit_le A v))
          (λ i f g. omega (arith, (at j l).other i f g, k.present j l i, bit-trade_other n A v u i hA hv f g));
      small = λ j l. omega (arith, (at j l).size, k.small j l);
      whole = λ j l p hp. cover j l p (k.whole j l p hp);
      enough = λ j l. omega (arith, (at j l).size, k.enough j l);
    }

  -- if A blocks, so does A with u in the place of v
  pub blocks_trade : Blocks table P d t ed A → Blocks table P d t ed (trade table.rows A v u)
  blocks_trade b cs k = b (map (swapped n v u) cs) (swap cs k)

module _ (table : Table) (P : ℕ) where
  -- the absence with u for v comes earlier, where u has the lower rank
  pub trade_earlier : (A u v : ℕ) → A < 2 ^ table.rows → Has A v → bit A u ≡ 0 → rank table P u < rank table P v
      → Earlier table P (trade table.rows A v u) A
  trade_earlier A u v hA iv ou l =
      let hv : v < table.rows = bit_below A table.rows v hA iv in
      inr (
        ones-trade table.rows A v u hA hv iv ou,
        (
          u,
          bit-trade_in table.rows A v u,
          ou,
          λ y k. bit-trade_other table.rows A v u y hA hv
              (λ e. omega (arith, ap (rank table P) e)) (λ e. omega (arith, ap (rank table P) e)),
        ),
      )

  -- ---- the sum of a set's ranks falls with each trade

  weight : ℕ → ℕ
  weight A = sum_to table.rows (λ i. bit A i * rank table P i)

  trade_weight : (A u v : ℕ) → A < 2 ^ table.rows → u < table.rows → Has A v → bit A u ≡ 0 → rank table P u < rank table P v
      → weight (trade table.rows A v u) < weight A
  unfolding weight
  trade_weight A u v hA hu iv ou l =
      omega (
        arith,
        sum-add n (λ i. bit (trade n A v u) i * rk i) (λ i. bit (2 ^ v) i * rk i) (λ i. bit A i * rk i) (λ i. bit (2 ^ u) i * rk i) (λ i k. each i),
        sum_one n v rk hv,
        sum_one n u rk hu,
      )
    where
      n : ℕ
      n = table.rows

      rk : ℕ → ℕ
      rk = rank table P

      hv : v < n
      hv = bit_below A n v hA iv

      ne : u ≢ v
      ne e = omega (arith, ap rk e)

      digits : (i : ℕ) → bit (trade n A v u) i + bit (2 ^ v) i ≡ bit A i + bit (2 ^ u) i
      digits = by_row u v (λ (j : ℕ). bit (trade n A v u) j + bit (2 ^ v) j ≡ bit A j + bit (2 ^ u) j)
          (omega (arith, bit-trade_in n A v u, bit-pow_other v u (λ e. ne (sym e)), bit-pow_same u))
          (omega (arith, bit-trade_out n A v u hA hv ne, bit-pow_other u v ne, bit-pow_same v))
          (λ i p q. omega (arith, bit-trade_other n A v u i hA hv p q, bit-pow_other u i p, bit-pow_other v i q))

      each : (i : ℕ) → bit (trade n A v u) i * rk i + bit (2 ^ v) i * rk i ≡ bit A i * rk i + bit (2 ^ u) i * rk i
      each i = omega (arith, ap (λ (x : ℕ). x * rk i) (digits i))

  -- ---- worth trying: no row outside outweighs one inside

  worth_of : (A : ℕ) → ((u v : ℕ) → u < table.rows → Has A v → bit A u ≡ 0 → Outweighs table P u v → ⊥) → Worth table P A
  worth_of A no-trade u v lu hv o = go (dec_le (bit A u) 0)
    where
      go : Dec (bit A u ≤ 0) → Has A u
      go (yes l) = absurd (no-trade u v lu hv (omega arith) o)
      go (no k) = omega (arith, bit_le A u)

  -- Whatever a set keeps when a row of it gives place to one that outweighs it, no set has if no set that is worth trying has it.
  none_of_worth : (R : ℕ → Type 0)
      → ((B u v : ℕ) → B < 2 ^ table.rows → u < table.rows → Has B v → bit B u ≡ 0 → Outweighs table P u v → R B
      → R (trade table.rows B v u))
      → ((B : ℕ) → B < 2 ^ table.rows → Worth table P B → R B → ⊥)
      → (k B : ℕ) → weight B < k → B < 2 ^ table.rows → R B → ⊥
  none_of_worth R kept none zero B w hB r = omega arith
  none_of_worth R kept none (suc k) B w hB r =
      none B hB (worth_of B (λ u v lu iv ou o.
      none_of_worth R kept none k (trade table.rows B v u)
      (omega (arith, trade_weight B u v hB lu iv ou (outweighs_rank table P u v lu o)))
      (trade_lt table.rows table.rows B v u hB lu) (kept B u v hB lu iv ou o r))) r

  -- ---- the theorems

  module _ (s d t ed : ℕ) where
    -- a blocker of at most s rows stays one when a row gives place to one that outweighs it
    trade_blocker : (B u v : ℕ) → B < 2 ^ table.rows → u < table.rows → Has B v → bit B u ≡ 0 → Outweighs table P u v
        → (ones B ≤ s) × Blocks table P d t ed B
        → (ones (trade table.rows B v u) ≤ s) × Blocks table P d t ed (trade table.rows B v u)
    trade_blocker B u v hB lu iv ou o (few, b) = (
      omega (arith, ones-trade table.rows B v u hB (bit_below B table.rows v hB iv) iv ou),
      blocks_trade table P d t ed B u v hB lu iv ou o.0 b,
    )

    -- the first blocker is worth trying
    pub first_blocker_worth : (A : ℕ) → FirstBlocker table P s d t ed A → Worth table P A
    first_blocker_worth A f =
        worth_of A (λ u v lu iv ou o.
        f.first (trade table.rows A v u) (trade_lt table.rows table.rows A v u f.rows lu)
        (trade_blocker A u v f.rows lu iv ou o f.is)
        (trade_earlier A u v f.rows iv ou (outweighs_rank table P u v lu o)))

    -- So the search that skips finds it: the first blocker is the first of the blockers that are worth trying.
    pub first-tried : (A : ℕ) → FirstBlocker table P s d t ed A ↔ First table P (λ B. (ones B ≤ s) × Blocks table P d t ed B × Worth table P B) A
    first-tried A = (to, from)
      where
        to : FirstBlocker table P s d t ed A → First table P (λ B. (ones B ≤ s) × Blocks table P d t ed B × Worth table P B) A
        to f = record {
          rows = f.rows;
          is = (f.is.0, f.is.1, first_blocker_worth A f);
          first = λ B hB q. f.first B hB (q.0, q.1);
        }

        from : First table P (λ B. (ones B ≤ s) × Blocks table P d t ed B × Worth table P B) A → FirstBlocker table P s d t ed A
        from f = record {
          rows = f.rows;
          is = (f.is.0, f.is.1);
          first = λ B hB q e.
              none_of_worth (λ C. ((ones C ≤ s) × Blocks table P d t ed C) × Earlier table P C A)
              (λ C u v hC lu iv ou o r. (
                trade_blocker C u v hC lu iv ou o r.0,
                earlier_trans table P (trade table.rows C v u) C A (trade_lt table.rows table.rows C v u hC lu) hC
                    (trade_earlier C u v hC iv ou (outweighs_rank table P u v lu o)) r.1,
              ))
              (λ C hC w r. f.first C hC (r.0.0, r.0.1, w) r.1)
              (suc (weight B)) B (omega arith) hB (q, e);
        }

    -- And if nothing that is worth trying blocks, nothing does: the policy holds.
    pub none-worth-none : ((A : ℕ) → Absence table s A → Worth table P A → Blocks table P d t ed A → ⊥) → Holds table P s d t ed
    none-worth-none none A a b =
        none_of_worth (λ B. (ones B ≤ s) × Blocks table P d t ed B) trade_blocker
        (λ B hB w r. none B (record { rows = hB; few = r.0 }) w r.1)
        (suc (weight A)) A (omega arith) a.rows (a.few, b)
