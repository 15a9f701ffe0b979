-- What trying a list of absences comes to: the first of them that blocks, if any, and the units up to it. And the comparison that demand 3 rests
-- on: a list that leaves some absences out, but not the first blocker, never needs more. Here "blocks" is what the filling finds, whatever its rule;
-- `Decided` puts the meaning in its place. Assumes nothing.
use Rattle.std.specs.Prelude.{◌≡◌, ◌⊎◌, Bool, true, false, T}
use Rattle.std.proofs.Math.Path.{refl, subst}
use Rattle.std.proofs.Common.{sym, ap, ◌∙◌, inl, inr, arith}
use mathlib.Core.List.Memᴰ
use mathlib.Core.List.{List, [], ◌∷◌, ◌++◌, Memᴰ}
use Prim.Native.Nat.{ℕ, zero, suc, ◌+◌, ◌≤◌}
use Rattle.sets.specs.Sets.{with}
use Rattle.sets.specs.Laws.Sums.{either}
use Rattle.roster.specs.declared.Table.{Table}
use Rattle.roster.specs.Meaning.{Earlier}
use Rattle.roster.proofs.Laws.Order.{earlier_irrefl}
use Rattle.crews.specs.Filling.{Outcome}
use Rattle.absences.specs.declared.Way.TheVariants.{Full, Skipping}
use Rattle.absences.specs.Tried.{row_at, joins, listed, sizes_from, tried, Found, units_of, weighed}
use Rattle.absences.proofs.Laws.OneSize.{Ascending, listed-joins, listed_not}

-- a test has one outcome
pub clash : {b : Bool} → b ≡ true → b ≡ false → ⊥
clash p q = subst T (sym p ∙ q) tt

-- c units more
abbrev pub dearer : ℕ → Found → Found
dearer c w = record { blocked = w.blocked; blocker = w.blocker; need = c + w.need }

-- what trying one list and then, if nothing in it blocks, another comes to
abbrev pub and_then : Found → Found → Found
and_then w v = elim w.blocked [ true ↦ w | false ↦ dearer w.need v ]

same_need : (w : Found) (m n : ℕ) → m ≡ n
    → ◌≡◌ {A = Found} (record { blocked = w.blocked; blocker = w.blocker; need = m }) (record { blocked = w.blocked; blocker = w.blocker; need = n })
same_need w m n e = ap {B = Found} (λ (x : ℕ). record { blocked = w.blocked; blocker = w.blocker; need = x }) e

then_dearer : (c : ℕ) (w v : Found) → and_then (dearer c w) v ≡ dearer c (and_then w v)
then_dearer c w v = go (either w.blocked)
  where
    go : (w.blocked ≡ true) ⊎ (w.blocked ≡ false) → and_then (dearer c w) v ≡ dearer c (and_then w v)
    go (inl e) = rw e
    go (inr e) = rw e (same_need v ((c + w.need) + v.need) (c + (w.need + v.need)) (omega arith))

-- what one absence more comes to, where the filling comes to o and the rest to w
abbrev on_top : ℕ → Outcome → Found → Found
on_top A o w =
    elim o.found [
      | true ↦ dearer (units_of o) w
      | false ↦ record { blocked = true; blocker = A; need = units_of o }
    ]

on_top_fits : (A : ℕ) (o : Outcome) (w : Found) → o.found ≡ true → on_top A o w ≡ dearer (units_of o) w
on_top_fits A o w e = rw e

on_top_blocks : (A : ℕ) (o : Outcome) (w : Found) → o.found ≡ false → on_top A o w ≡ record { blocked = true; blocker = A; need = units_of o }
on_top_blocks A o w e = rw e

module _ (fill : ℕ → Outcome) where
  abbrev fits : ℕ → Bool
  fits A = (fill A).found

  abbrev cost : ℕ → ℕ
  cost A = units_of (fill A)

  abbrev tries : List ℕ → Found
  tries = weighed fill

  -- ---- one absence more

  pub weighed-fits : (A : ℕ) (l : List ℕ) → fits A ≡ true → tries (A ∷ l) ≡ dearer (cost A) (tries l)
  unfolding weighed
  weighed-fits A l e = on_top_fits A (fill A) (tries l) e

  pub weighed_blocks : (A : ℕ) (l : List ℕ) → fits A ≡ false → tries (A ∷ l) ≡ record { blocked = true; blocker = A; need = cost A }
  unfolding weighed
  weighed_blocks A l e = on_top_blocks A (fill A) (tries l) e

  pub weighed-none : tries [] ≡ record { blocked = false; blocker = 0; need = 0 }
  unfolding weighed
  weighed-none = refl

  -- ---- one list after another

  pub weighed-append : (l m : List ℕ) → tries (l ++ m) ≡ and_then (tries l) (tries m)
  weighed-append [] m =
      same_need (tries m) (tries m).need (0 + (tries m).need) (omega arith) ∙ sym (ap (λ (w : Found). and_then w (tries m)) weighed-none)
  weighed-append (A ∷ l) m = go (either (fits A)) (weighed-append l m)
    where
      go : (fits A ≡ true) ⊎ (fits A ≡ false) → tries (l ++ m) ≡ and_then (tries l) (tries m)
          → tries (A ∷ (l ++ m)) ≡ and_then (tries (A ∷ l)) (tries m)
      go (inl e) ih =
          weighed-fits A (l ++ m) e
          ∙ ap (dearer (cost A)) ih
          ∙ sym (then_dearer (cost A) (tries l) (tries m))
          ∙ ap (λ (w : Found). and_then w (tries m)) (sym (weighed-fits A l e))
      go (inr e) ih = weighed_blocks A (l ++ m) e ∙ ap (λ (w : Found). and_then w (tries m)) (sym (weighed_blocks A l e))

  -- ---- the first that blocks

  -- nothing blocks: the filling finds a list for each
  pub all_fit : (l : List ℕ) → (tries l).blocked ≡ false → (A : ℕ) → Memᴰ A l → fits A ≡ true
  all_fit [] e A i = absurd (Memᴰ.not-nil i)
  all_fit (B ∷ l) e A i = go (either (fits B)) (all_fit l) (Memᴰ.cases_cons i)
    where
      go : (fits B ≡ true) ⊎ (fits B ≡ false) → ((tries l).blocked ≡ false → (A : ℕ) → Memᴰ A l → fits A ≡ true)
          → (A ≡ B) ⊎ Memᴰ A l → fits A ≡ true
      go (inl f) ih (inl q) = ap fits q ∙ f
      go (inl f) ih (inr q) = ih (sym (ap Found.blocked (weighed-fits B l f)) ∙ e) A q
      go (inr f) ih q = absurd (clash (ap Found.blocked (weighed_blocks B l f)) e)

  -- in the order of this table and task
  module _ (table : Table) (P : ℕ) where
    -- something blocks: B is the first in the list for which the filling finds none
    pub record Stops (l : List ℕ) (B : ℕ) : Type 0 where
      pub listed : Memᴰ B l
      pub stuck : fits B ≡ false
      pub first : Ascending table P l → (A : ℕ) → Memᴰ A l → fits A ≡ false → (A ≡ B) ⊎ Earlier table P B A

    stops_here : (B : ℕ) (l : List ℕ) → fits B ≡ false → Stops (B ∷ l) B
    stops_here B l f = record { listed = Memᴰ.head refl; stuck = f; first = λ a A i q. go a A (Memᴰ.cases_cons i) }
      where
        go : Ascending table P (B ∷ l) → (A : ℕ) → (A ≡ B) ⊎ Memᴰ A l → (A ≡ B) ⊎ Earlier table P B A
        go a A (inl c) = inl c
        go a A (inr c) = inr (a.0 A c)

    stops_later : (A B : ℕ) (l : List ℕ) → fits A ≡ true → Stops l B → Stops (A ∷ l) B
    stops_later A B l f s = record {
      listed = Memᴰ.tail s.listed;
      stuck = s.stuck;
      first = λ a C i q. go a.1 C q (Memᴰ.cases_cons i);
    }
      where
        go : Ascending table P l → (C : ℕ) → fits C ≡ false → (C ≡ A) ⊎ Memᴰ C l → (C ≡ B) ⊎ Earlier table P B C
        go a C q (inl c) = absurd (clash f (sym (ap fits c) ∙ q))
        go a C q (inr c) = s.first a C c q

    pub stops : (l : List ℕ) → (tries l).blocked ≡ true → Stops l (tries l).blocker
    stops [] e = absurd (clash e (ap Found.blocked weighed-none))
    stops (A ∷ l) e = go (either (fits A)) (stops l)
      where
        go : (fits A ≡ true) ⊎ (fits A ≡ false) → ((tries l).blocked ≡ true → Stops l (tries l).blocker) → Stops (A ∷ l) (tries (A ∷ l)).blocker
        go (inl f) ih =
            subst (Stops (A ∷ l)) (sym (ap Found.blocker (weighed-fits A l f)))
            (stops_later A (tries l).blocker l f (ih (sym (ap Found.blocked (weighed-fits A l f)) ∙ e)))
        go (inr f) ih = subst (Stops (A ∷ l)) (sym (ap Found.blocker (weighed_blocks A l f))) (stops_here A l f)

-- ---- a list that leaves some absences out

-- l is m with some elements left out
pub data Thinned : List ℕ → List ℕ → Type 0 where
  none : Thinned [] []
  keep : {l m : List ℕ} (A : ℕ) → Thinned l m → Thinned (A ∷ l) (A ∷ m)
  leave : {l m : List ℕ} (A : ℕ) → Thinned l m → Thinned l (A ∷ m)

thinned_mem : {l m : List ℕ} → Thinned l m → (B : ℕ) → Memᴰ B l → Memᴰ B m
thinned_mem none B i = i
thinned_mem (keep {l = l} {m = m} A s) B i = go (thinned_mem s B) (Memᴰ.cases_cons i)
  where
    go : (Memᴰ B l → Memᴰ B m) → (B ≡ A) ⊎ Memᴰ B l → Memᴰ B (A ∷ m)
    go ih (inl e) = Memᴰ.head e
    go ih (inr q) = Memᴰ.tail (ih q)
thinned_mem (leave A s) B i = Memᴰ.tail (thinned_mem s B i)

thinned_all : (m : List ℕ) → Thinned m m
thinned_all [] = none
thinned_all (A ∷ m) = keep A (thinned_all m)

thinned_none : (m : List ℕ) → Thinned [] m
thinned_none [] = none
thinned_none (A ∷ m) = leave A (thinned_none m)

thinned_append : {l m l' m' : List ℕ} → Thinned l m → Thinned l' m' → Thinned (l ++ l') (m ++ m')
thinned_append none q = q
thinned_append (keep A s) q = keep A (thinned_append s q)
thinned_append (leave A s) q = leave A (thinned_append s q)

-- the search that skips tries, in the same order, some of what the full search tries
module _ (table : Table) (P : ℕ) where
  listed_thinned : (m k r F : ℕ) → Thinned (listed Skipping table P m k r F) (listed Full table P m k r F)
  unfolding listed joins
  listed_thinned zero zero r F = thinned_all (F ∷ [])
  listed_thinned zero (suc k) r F = none
  listed_thinned (suc m) zero r F = thinned_all (F ∷ [])
  listed_thinned (suc m) (suc k) r F =
      go (either (joins Skipping table P F (row_at table P r)))
      (listed_thinned m k (suc r) (with F (row_at table P r))) (listed_thinned m (suc k) (suc r) F)
    where
      go : (joins Skipping table P F (row_at table P r) ≡ true) ⊎ (joins Skipping table P F (row_at table P r) ≡ false)
          → Thinned (listed Skipping table P m k (suc r) (with F (row_at table P r))) (listed Full table P m k (suc r) (with F (row_at table P r)))
          → Thinned (listed Skipping table P m (suc k) (suc r) F) (listed Full table P m (suc k) (suc r) F)
          → Thinned (listed Skipping table P (suc m) (suc k) r F) (listed Full table P (suc m) (suc k) r F)
      go (inl j) take skip =
          subst (λ l. Thinned l (listed Full table P (suc m) (suc k) r F)) (sym (listed-joins Skipping table P m k r F j)) (thinned_append take skip)
      go (inr j) take skip =
          subst (λ l. Thinned l (listed Full table P (suc m) (suc k) r F)) (sym (listed_not Skipping table P m k r F j))
          (thinned_append (thinned_none (listed Full table P m k (suc r) (with F (row_at table P r)))) skip)

  sizes_thinned : (m k : ℕ) → Thinned (sizes_from Skipping table P m k) (sizes_from Full table P m k)
  unfolding sizes_from
  sizes_thinned zero k = none
  sizes_thinned (suc m) k = thinned_append (listed_thinned table.rows _ 0 0) (sizes_thinned m _)

  pub tried_thinned : (s : ℕ) → Thinned (tried Skipping table P s) (tried Full table P s)
  tried_thinned s = keep 0 (sizes_thinned _ _)

module _ (fill : ℕ → Outcome) (table : Table) (P : ℕ) where
  abbrev need : List ℕ → ℕ
  need l = (weighed fill l).need

  -- Leaving absences out, but not the first that blocks, never makes the need larger.
  pub thinned_need : {l m : List ℕ} → Thinned l m → Ascending table P m → ((B : ℕ) → Stops fill table P m B → Memᴰ B l) → need l ≤ need m
  thinned_need none a has = omega arith
  thinned_need (keep {l = l} {m = m} A s) a has = go (either (fits fill A)) (thinned_need s a.1)
    where
      go : (fits fill A ≡ true) ⊎ (fits fill A ≡ false)
          → (((B : ℕ) → Stops fill table P m B → Memᴰ B l) → need l ≤ need m) → need (A ∷ l) ≤ need (A ∷ m)
      go (inl f) ih = omega (arith, ap Found.need (weighed-fits fill A l f), ap Found.need (weighed-fits fill A m f), ih rest)
        where
          rest : (B : ℕ) → Stops fill table P m B → Memᴰ B l
          rest B q = pick (Memᴰ.cases_cons (has B (stops_later fill table P A B m f q)))
            where
              pick : (B ≡ A) ⊎ Memᴰ B l → Memᴰ B l
              pick (inl e) = absurd (clash f (sym (ap (fits fill) e) ∙ q.stuck))
              pick (inr i) = i
      go (inr f) ih = omega (arith, ap Found.need (weighed_blocks fill A l f), ap Found.need (weighed_blocks fill A m f))
  thinned_need (leave {l = l} {m = m} A s) a has = go (either (fits fill A)) (thinned_need s a.1)
    where
      go : (fits fill A ≡ true) ⊎ (fits fill A ≡ false)
          → (((B : ℕ) → Stops fill table P m B → Memᴰ B l) → need l ≤ need m) → need l ≤ need (A ∷ m)
      go (inl f) ih =
          let rest = ih (λ B q. has B (stops_later fill table P A B m f q)) in
          omega (arith, ap Found.need (weighed-fits fill A m f))
      -- the first that blocks is not left out
      go (inr f) ih = absurd (earlier_irrefl table P A (a.0 A (thinned_mem s A (has A (stops_here fill table P A m f)))))
