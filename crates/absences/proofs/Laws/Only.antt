-- The list of absences, and with it the need, is not for the definition to choose: there is one list that has just the absences a search is to
-- try, in their order, whoever writes it down. The idea: two ascending lists with the same elements have the same first one. Assumes nothing.
use Rattle.std.specs.Prelude.{◌≡◌, refl, ◌⊎◌, ℕ, ◌^◌, ◌<◌}
use Rattle.std.proofs.Common.{sym, ap, ap₂, ◌∙◌, subst, inl, inr, arith}
use mathlib.Core.List.Memᴰ
use mathlib.Core.List.{List, [], ◌∷◌, Memᴰ}
use Rattle.roster.specs.declared.Table.{Table}
use Rattle.roster.specs.Meaning.{Absence, Earlier}
use Rattle.roster.proofs.Laws.Order.{earlier_irrefl, earlier_trans}
use Rattle.crews.specs.Filling.{filling}
use Rattle.absences.specs.declared.Way.{Way}
use Rattle.absences.specs.Tried.{tried, weighed}
use Rattle.absences.specs.Asked.{need_policy}
use Rattle.absences.proofs.Laws.OneSize.{Ascending}
use Rattle.absences.proofs.Laws.Listed.{Picked, tried_sound, tried-complete, tried_ascending}

module _ (table : Table) (P : ℕ) where
  abbrev AllRows : List ℕ → Type 0
  AllRows l = (A : ℕ) → Memᴰ A l → A < 2 ^ table.rows

  abbrev Within : List ℕ → List ℕ → Type 0
  Within l m = (A : ℕ) → Memᴰ A l → Memᴰ A m

  heads : (A B : ℕ) (l m : List ℕ) → AllRows (A ∷ l) → AllRows (B ∷ m) → Ascending table P (A ∷ l) → Ascending table P (B ∷ m)
      → Within (A ∷ l) (B ∷ m) → Within (B ∷ m) (A ∷ l) → A ≡ B
  heads A B l m rl rm al am to from =
      go (Memᴰ.cases_cons (to A (Memᴰ.head refl))) (Memᴰ.cases_cons (from B (Memᴰ.head refl)))
    where
      go : (A ≡ B) ⊎ Memᴰ A m → (B ≡ A) ⊎ Memᴰ B l → A ≡ B
      go (inl e) q = e
      go (inr i) (inl e) = sym e
      go (inr i) (inr j) =
          absurd (earlier_irrefl table P A
          (earlier_trans table P A B A (rl A (Memᴰ.head refl)) (rm B (Memᴰ.head refl)) (al.0 B j) (am.0 A i)))

  -- what follows one head is among what follows the other, since the head itself does not follow
  tails : (A B : ℕ) (l m : List ℕ) → A ≡ B → Ascending table P (A ∷ l) → Within (A ∷ l) (B ∷ m) → Within l m
  tails A B l m e a to C i = go (Memᴰ.cases_cons (to C (Memᴰ.tail i)))
    where
      go : (C ≡ B) ⊎ Memᴰ C m → Memᴰ C m
      go (inl f) = absurd (earlier_irrefl table P A (subst (Earlier table P A) (f ∙ sym e) (a.0 C i)))
      go (inr j) = j

  ascending_same : (l m : List ℕ) → AllRows l → AllRows m → Ascending table P l → Ascending table P m → Within l m → Within m l → l ≡ m
  ascending_same [] [] rl rm al am to from = refl
  ascending_same [] (B ∷ m) rl rm al am to from = absurd (Memᴰ.not-nil (from B (Memᴰ.head refl)))
  ascending_same (A ∷ l) [] rl rm al am to from = absurd (Memᴰ.not-nil (to A (Memᴰ.head refl)))
  ascending_same (A ∷ l) (B ∷ m) rl rm al am to from =
      let e = heads A B l m rl rm al am to from in
      ap₂ (λ (x : ℕ) (y : List ℕ). x ∷ y) e
      (ascending_same l m (λ C i. rl C (Memᴰ.tail i)) (λ C i. rm C (Memᴰ.tail i)) al.1 am.1
      (tails A B l m e al to) (tails B A m l (sym e) am from))

-- l has just the absences of at most s rows that this search is to try, in their order
pub record Lists (way : Way) (table : Table) (P s : ℕ) (l : List ℕ) : Type 0 where
  pub sound : (A : ℕ) → Memᴰ A l → Absence table s A × Picked way table P A
  pub complete : (A : ℕ) → Absence table s A → Picked way table P A → Memᴰ A l
  pub ascending : Ascending table P l

module _ (way : Way) (table : Table) (P s : ℕ) where
  pub tried_lists : Lists way table P s (tried way table P s)
  tried_lists = record {
    sound = λ A i.
        let q = tried_sound way table P s A i in
        let few = q.0.few in
        (record { rows = q.0.rows; few = omega arith }, q.1);
    complete = tried-complete way table P s;
    ascending = tried_ascending way table P s;
  }

  pub tried_only : (l : List ℕ) → Lists way table P s l → l ≡ tried way table P s
  tried_only l x =
      let y = tried_lists in
      ascending_same table P l (tried way table P s) (λ A i. (x.sound A i).0.rows) (λ A i. (y.sound A i).0.rows) x.ascending y.ascending
      (λ A i. let q = x.sound A i in y.complete A q.0 q.1) (λ A i. let q = y.sound A i in x.complete A q.0 q.1)

  -- so the need is that of any such list
  pub need_only : (d t ed : ℕ) (l : List ℕ) → Lists way table P s l → (weighed (filling table P d t ed) l).need ≡ need_policy way table P s d t ed
  need_only d t ed l x = ap (λ (m : List ℕ). (weighed (filling table P d t ed) m).need) (tried_only l x)
