-- A crew list in another order is one still: two of its crews change places. Assumes nothing.
use Rattle.std.specs.Prelude.{◌≡◌, refl, true, false, ◌≢◌, ℕ, ◌<◌, eqb}
use Rattle.std.proofs.Common.{sym, ap, ◌∙◌, subst}
use Rattle.std.proofs.Math.Decide.{ℕ_discrete}
use borrow.Author.Tests.{eq-eqb, ne_eqb}
use Rattle.crews.specs.Filling.{Work}
use Rattle.crews.proofs.Laws.Complete.{Solves}

-- which place of the list stands at k, where i and j have changed places
pub turned : ℕ → ℕ → ℕ → ℕ
turned i j k = elim (eqb k i) [ true ↦ j | false ↦ elim (eqb k j) [ true ↦ i | false ↦ k ] ]

module _ (i j k : ℕ) where
  pub turned-one : k ≡ i → turned i j k ≡ j
  unfolding turned
  turned-one e = rw (eq-eqb k i e, turned)

  turned_other : k ≢ i → k ≡ j → turned i j k ≡ i
  unfolding turned
  turned_other n e = rw (ne_eqb k i n, eq-eqb k j e, turned)

  turned_rest : k ≢ i → k ≢ j → turned i j k ≡ k
  unfolding turned
  turned_rest n m = rw (ne_eqb k i n, ne_eqb k j m, turned)

  -- by the three kinds of places
  pub turned_is : (Q : ℕ → Type 0) → (k ≡ i → Q j) → (k ≡ j → Q i) → (k ≢ i → k ≢ j → Q k) → Q (turned i j k)
  turned_is Q qi qj q = go (ℕ_discrete k i) (ℕ_discrete k j)
    where
      go : Dec (k ≡ i) → Dec (k ≡ j) → Q (turned i j k)
      go (yes e) _ = subst Q (sym (turned-one e)) (qi e)
      go (no n) (yes e) = subst Q (sym (turned_other n e)) (qj e)
      go (no n) (no m) = subst Q (sym (turned_rest n m)) (q n m)

-- changed twice, each is where it was
turned_back : (i j k : ℕ) → turned i j (turned i j k) ≡ k
turned_back i j k =
    turned_is i j k (λ x. turned i j x ≡ k)
    (λ e. turned_is i j j (λ x. x ≡ k) (λ f. f ∙ sym e) (λ f. sym e) (λ n m. absurd (m refl)))
    (λ e. turned-one i j i refl ∙ sym e)
    (λ n m. turned_rest i j k n m)

module _ {w : Work} {F : ℕ} {T : ℕ → ℕ} (t : Solves w F T) (i j : ℕ) (li : i < w.crews) (lj : j < w.crews) where
  below : (k : ℕ) → k < w.crews → turned i j k < w.crews
  below k l = turned_is i j k (λ x. x < w.crews) (λ e. lj) (λ e. li) (λ n m. l)

  -- a list is one in any order
  pub solves_turned : Solves w F (λ k. T (turned i j k))
  solves_turned = record {
    free = λ k u l q. t.free (turned i j k) u (below k l) q;
    apart = λ a b u l m q r.
        sym (turned_back i j a) ∙ ap (turned i j) (t.apart (turned i j a) (turned i j b) u (below a l) (below b m) q r) ∙ turned_back i j b;
    small = λ k l. t.small (turned i j k) (below k l);
    whole = λ k l. t.whole (turned i j k) (below k l);
    enough = λ k l. t.enough (turned i j k) (below k l);
  }
