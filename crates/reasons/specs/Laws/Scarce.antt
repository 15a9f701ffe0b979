-- A permission with fewer than d present holders blocks: d disjoint crews have a holder each, and no two the same one. Assumes nothing.
use Rattle.std.specs.Prelude.{◌≡◌, refl, Bool, true, false, not, ◌&&◌, ◌≢◌, ◌↔◌, ℕ, zero, suc, ◌-◌, ◌^◌, ◌≤◌, ◌<◌, get_or}
use Rattle.std.proofs.Common.{ap, ◌∙◌, arith}
use Rattle.std.specs.Int.Bits.{bit_xor}
use Rattle.std.specs.Int.Count.{ones}
use Rattle.sets.specs.Sets.{bit, Has, Apart, bit_le, bit_below}
use Rattle.sets.proofs.Sets.{bit-drop_other, ones-drop}
use Rattle.sets.specs.Members.{hasb}
use Rattle.sets.specs.Sums.{to_n}
use Rattle.sets.specs.Laws.Tests.{to_n-hasb}
use Rattle.sets.proofs.Laws.Build.{set_of-bit, set_of_lt}
use Rattle.roster.specs.declared.Table.{Table}
use Rattle.roster.specs.Meaning.{held, Blocks}
use Rattle.reasons.specs.Reasons.{holders_here, Scarce}

to_n_but : (x y : Bool) → to_n (x && not y) ≡ to_n x - to_n y
unfolding to_n
to_n_but true true = refl
to_n_but true false = refl
to_n_but false true = refl
to_n_but false false = refl

module _ (table : Table) (P A p u : ℕ) where
  -- as a digit: u is one of them exactly if it holds p and is not in A
  bit_here : u < table.rows → bit (holders_here table P A p) u ≡ bit (held table P u) p - bit A u
  bit_here l =
      set_of-bit table.rows (λ v. hasb (held table P v) p && not (hasb A v)) u l
      ∙ to_n_but (hasb (held table P u) p) (hasb A u) ∙ omega (arith, to_n-hasb (held table P u) p, to_n-hasb A u)

  -- who they are
  pub holder_here : Has (holders_here table P A p) u ↔ ((u < table.rows) × (bit A u ≡ 0) × Has (held table P u) p)
  holder_here = (to, λ (l, out, h). bit_here l ∙ omega arith)
    where
      to : Has (holders_here table P A p) u → (u < table.rows) × (bit A u ≡ 0) × Has (held table P u) p
      to q =
          let l = bit_below (holders_here table P A p) table.rows u (set_of_lt table.rows _) q in
          let e = bit_here l in
          (l, omega (arith, bit_le (held table P u) p), omega (arith, bit_le (held table P u) p))

-- n sets of which no two share a member, each with a member in H: H has n members at least
pigeons : (n H : ℕ) (c : ℕ → ℕ) → ((i j : ℕ) → i < n → j < n → i ≢ j → Apart (c i) (c j))
    → ((j : ℕ) → j < n → (u : ℕ) × Has (c j) u × Has H u) → n ≤ ones H
pigeons zero H c apart some = omega arith
pigeons (suc n) H c apart some =
    let last = some n (omega arith) in
    let rest = pigeons n (bit_xor H (2 ^ last.0)) c (λ i j li lj. apart i j (omega arith) (omega arith)) (λ j l. others last j l (some j (omega arith))) in
    omega (arith, rest, ones-drop H last.0 last.2)
  where
    others : (last : (u : ℕ) × Has (c n) u × Has H u) (j : ℕ) → j < n → (u : ℕ) × Has (c j) u × Has H u
        → (u : ℕ) × Has (c j) u × Has (bit_xor H (2 ^ last.0)) u
    others (v, hv, k) j l (u, hu, h) =
        (u, hu, bit-drop_other H v u (λ e. omega (arith, apart j n (omega arith) (omega arith) (λ q. omega arith) v, ap (bit (c j)) e)) ∙ h)

-- too few holders of a permission of the task: no crew list
pub scarce_blocks : (table : Table) (P d t ed A p : ℕ) → Scarce table P d A p → Blocks table P d t ed A
scarce_blocks table P d t ed A p (hp, few) crews k =
    let n = pigeons d (holders_here table P A p) (λ j. get_or crews j 0) k.disjoint (λ j l. here j l (k.whole j l p hp)) in
    omega arith
  where
    here : (j : ℕ) → j < d → (u : ℕ) × Has (get_or crews j 0) u × Has (held table P u) p
        → (u : ℕ) × Has (get_or crews j 0) u × Has (holders_here table P A p) u
    here j l (u, hu, h) =
        let below = bit_below (get_or crews j 0) table.rows u (k.rows j l) hu in
        (u, hu, (holder_here table P A p u).1 (below, omega (arith, k.present j l u), h))
