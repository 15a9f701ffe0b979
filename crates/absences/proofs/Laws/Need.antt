-- The need of a policy question in 01's words: "the sum over the absences tried, up to and including the first that blocks, or all if none does".
-- First the sum over a list, by what the filling finds; exactness of the filling then puts `Blocks` in its place. Assumes nothing.
use Rattle.std.specs.Prelude.{◌≡◌, refl, ◌⊎◌, Bool, true, false, ℕ, ◌+◌, ◌^◌, ◌<◌}
use Rattle.std.proofs.Common.{sym, ◌∙◌, subst, inl, inr, ⊎_elim, arith}
use Rattle.std.proofs.Math.Path.{ap}
use mathlib.Core.List.Memᴰ
use mathlib.Core.List.{List, [], ◌∷◌, ◌++◌, Memᴰ}
use Rattle.sets.specs.Laws.Sums.{either}
use Rattle.roster.specs.declared.Table.{Table}
use Rattle.roster.specs.Meaning.{Blocks, FirstBlocker}
use Rattle.roster.proofs.Laws.Order.{first_blocker_unique}
use Rattle.crews.specs.Filling.{Outcome, filling}
use Rattle.crews.specs.Named.{need_named}
use Rattle.crews.proofs.Laws.Exact.{Fair, blocks_none, finds_none}
use Rattle.absences.specs.declared.Way.{Way}
use Rattle.absences.specs.Tried.{tried, Found, units_of, weighed}
use Rattle.absences.specs.Asked.{Admits, found, need_policy}
use Rattle.absences.proofs.Laws.Listed.{tried_sound}
use Rattle.absences.proofs.Laws.Weighed.{clash, weighed-fits, weighed_blocks, weighed-none}
use Rattle.absences.proofs.Laws.Decided.{first_not_holds, none_blocks, one_blocks, admitted_fair}

-- the sum over a list
unfoldable pub sum_of : (ℕ → ℕ) → List ℕ → ℕ
sum_of f [] = 0
sum_of f (A ∷ l) = f A + sum_of f l

-- "An absence tried costs one unit plus its placements."
abbrev pub cost : Table → ℕ → ℕ → ℕ → ℕ → ℕ → ℕ
cost table P d t ed A = 1 + need_named table P d t ed A

-- ---- what a list needs

module _ (fill : ℕ → Outcome) where
  abbrev fits : ℕ → Bool
  fits A = (fill A).found

  abbrev units : ℕ → ℕ
  units A = units_of (fill A)

  abbrev need : List ℕ → ℕ
  need l = (weighed fill l).need

  all_summed : (l : List ℕ) → ((A : ℕ) → Memᴰ A l → fits A ≡ true) → need l ≡ sum_of units l
  unfolding sum_of
  all_summed [] f = ap Found.need (weighed-none fill)
  all_summed (A ∷ l) f =
      let rest = all_summed l (λ B i. f B (Memᴰ.tail i)) in
      omega (arith, ap Found.need (weighed-fits fill A l (f A (Memᴰ.head refl))))

  first_summed : (l m : List ℕ) (B : ℕ) → ((A : ℕ) → Memᴰ A l → fits A ≡ true) → fits B ≡ false
      → need (l ++ (B ∷ m)) ≡ sum_of units (l ++ (B ∷ []))
  unfolding sum_of
  first_summed [] m B f b = omega (arith, ap Found.need (weighed_blocks fill B m b))
  first_summed (A ∷ l) m B f b =
      let rest = first_summed l m B (λ C i. f C (Memᴰ.tail i)) b in
      omega (arith, ap Found.need (weighed-fits fill A (l ++ (B ∷ m)) (f A (Memᴰ.head refl))))

  -- the placements with the one that blocks are among the units
  stopped_paid : (l : List ℕ) → (weighed fill l).blocked ≡ true → (fill (weighed fill l).blocker).need < need l
  stopped_paid [] e = absurd (clash e (ap Found.blocked (weighed-none fill)))
  stopped_paid (A ∷ l) e = go (either (fits A)) (stopped_paid l)
    where
      at : {B C : ℕ} → B ≡ C → (fill B).need ≡ (fill C).need
      at q = ap (λ (B : ℕ). (fill B).need) q

      go : (fits A ≡ true) ⊎ (fits A ≡ false) → ((weighed fill l).blocked ≡ true → (fill (weighed fill l).blocker).need < need l)
          → (fill (weighed fill (A ∷ l)).blocker).need < need (A ∷ l)
      go (inl f) ih =
          let w = weighed-fits fill A l f in
          omega (arith, at (ap Found.blocker w), ap Found.need w, ih (sym (ap Found.blocked w) ∙ e))
      go (inr f) ih = let w = weighed_blocks fill A l f in omega (arith, at (ap Found.blocker w), ap Found.need w)

-- ---- what a policy question needs

module _ (way : Way) (table : Table) (P s d t ed : ℕ) (wide : P < 2 ^ 32) (admitted : Admits table P s d t ed) where
  fair : Fair table P d
  fair = admitted_fair table P s d t ed wide admitted

  -- the filling finds a list for what is tried and does not block
  does_fit : (A : ℕ) → Memᴰ A (tried way table P s) → (Blocks table P d t ed A → ⊥) → fits (filling table P d t ed) A ≡ true
  does_fit A i n =
      ⊎_elim (λ e. e) (λ e. absurd (n (finds_none fair t ed A (tried_sound way table P s A i).0.rows e))) (either (fits (filling table P d t ed) A))

  -- all of the list, if nothing in it blocks
  pub need_all : ((A : ℕ) → Memᴰ A (tried way table P s) → Blocks table P d t ed A → ⊥)
      → need_policy way table P s d t ed ≡ sum_of (cost table P d t ed) (tried way table P s)
  need_all none = all_summed (filling table P d t ed) (tried way table P s) (λ A i. does_fit A i (none A i))

  -- the list up to and including B, if B is the first in it that blocks
  pub need-first : (l m : List ℕ) (B : ℕ) → tried way table P s ≡ l ++ (B ∷ m) → ((A : ℕ) → Memᴰ A l → Blocks table P d t ed A → ⊥)
      → Blocks table P d t ed B → need_policy way table P s d t ed ≡ sum_of (cost table P d t ed) (l ++ (B ∷ []))
  need-first l m B split none b =
      ap (need (filling table P d t ed)) split
      ∙ first_summed (filling table P d t ed) l m B
      (λ A i. does_fit A (subst (Memᴰ A) (sym split) (Memᴰ.append_left (B ∷ m) i)) (none A i)) (blocks_none fair t ed B b)

  -- more than the placements with its first blocker absent, which are part of it
  pub blocker_need : (B : ℕ) → FirstBlocker table P s d t ed B → need_named table P d t ed B < need_policy way table P s d t ed
  blocker_need B f = go (either (found way table P s d t ed).blocked)
    where
      go : ((found way table P s d t ed).blocked ≡ true) ⊎ ((found way table P s d t ed).blocked ≡ false)
          → need_named table P d t ed B < need_policy way table P s d t ed
      go (inl e) =
          subst (λ (A : ℕ). need_named table P d t ed A < need_policy way table P s d t ed)
          (first_blocker_unique table P s d t ed (found way table P s d t ed).blocker B (one_blocks way table P s d t ed fair e) f)
          (stopped_paid (filling table P d t ed) (tried way table P s) e)
      go (inr e) = absurd (first_not_holds table P s d t ed B f (none_blocks way table P s d t ed fair e))
