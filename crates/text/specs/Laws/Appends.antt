-- Appends one after the other are one append: of this every function that writes is made. Where there is room, all stands. Assumes nothing.
use Rattle.std.specs.Prelude.{◌≡◌, refl, List, [], ◌∷◌, ◌++◌, ℕ, zero, suc, ◌+◌, ◌-◌, ◌≤◌, length, take, set}
use Rattle.std.proofs.Common.{sym, ap, ◌∙◌, subst, append_assoc, append-nil, add-zero, arith, length-append, length-take, take_all}
use Rattle.std.proofs.Math.Numerals.{unary_clauses}
use Rattle.std.proofs.lemmas.List.Edits.{sets}
use Rattle.std.proofs.Math.Seq.{length-sets, take-nil}
use Rattle.text.specs.Text.{Room, fitting, Appended}

-- ---- what fits

-- all, where there is room
pub fitting_all : (bytes buffer : List ℕ) (at : ℕ) → Room bytes buffer at → fitting bytes buffer at ≡ bytes
fitting_all bytes buffer at r = take_all (length buffer - at) bytes (omega arith)

-- nothing, past the end
pub fitting-none : (bytes buffer : List ℕ) (at : ℕ) → length buffer ≤ at → fitting bytes buffer at ≡ []
fitting-none bytes buffer at h = let e : length buffer - at ≡ 0 = omega arith in ap (λ (n : ℕ). take n bytes) e

take-append : (n : ℕ) (a b : List ℕ) → take n (a ++ b) ≡ take n a ++ take (n - length a) b
take-append n [] b = simp (take-nil, unary_clauses)
take-append zero (x ∷ a) b = let e : 0 ≡ 0 - suc (length a) = omega arith in ap (λ (n : ℕ). take n b) e
take-append (suc n) (x ∷ a) b = simp unary_clauses (ap (λ (l : List ℕ). x ∷ l) (take-append n a b))

-- of two, what fits of the first and then what fits of the second behind it
fitting-append : (a b old mid : List ℕ) (at : ℕ) → length mid ≡ length old
    → fitting (a ++ b) old at ≡ fitting a old at ++ fitting b mid (at + length (fitting a old at))
fitting-append a b old mid at e =
    let left : length old - at - length a ≡ length mid - (at + length (fitting a old at)) = omega (arith, length-take (length old - at) a) in
    take-append (length old - at) a b ∙ ap (λ (n : ℕ). fitting a old at ++ take n b) left

-- one run of stores after another
sets_append : (a b l : List ℕ) (i : ℕ) → sets (sets l i a) (i + length a) b ≡ sets l i (a ++ b)
sets_append [] b l i = ap (λ (k : ℕ). sets l k b) (add-zero i)
sets_append (x ∷ a) b l i =
    let e : i + suc (length a) ≡ suc i + length a = omega arith in
    ap (λ (k : ℕ). sets (sets (set l i x) (suc i) a) k b) e ∙ sets_append a b (set l i x) (suc i)

-- ---- appends one after the other

module _ {a old new : List ℕ} {at next : ℕ} where
  -- the buffer keeps its length
  pub same : Appended a old at new next → length new ≡ length old
  same p = ap length p.stand ∙ length-sets old at (fitting a old at)

  -- the same bytes by another name
  pub read_as : {b : List ℕ} → a ≡ b → Appended a old at new next → Appended b old at new next
  read_as e p = subst (λ (l : List ℕ). Appended l old at new next) e p

  -- where there is room, all stand there
  pub all_stand : Room a old at → Appended a old at new next → new ≡ sets old at a
  all_stand r p = p.stand ∙ ap (sets old at) (fitting_all a old at r)

  pub all_past : Room a old at → Appended a old at new next → next ≡ at + length a
  all_past r p = p.past ∙ ap (λ (l : List ℕ). at + length l) (fitting_all a old at r)

-- one buffer and one place is left, and no other
pub appended_same : {a old new new' : List ℕ} {at next next' : ℕ} → Appended a old at new next → Appended a old at new' next'
    → (next ≡ next') × (new ≡ new')
appended_same p q = (p.past ∙ sym q.past, p.stand ∙ sym q.stand)

-- nothing
pub none : (old : List ℕ) (at : ℕ) → Appended [] old at old at
none old at = record { stand = ap (sets old at) e; past = omega (arith, ap length e) }
  where
    e : [] ≡ fitting [] old at
    e = sym (take-nil (length old - at))

-- an append and then another
infixl 50 ◌then◌
pub ◌then◌ : {a b old mid new : List ℕ} {at next end : ℕ} → Appended a old at mid next → Appended b mid next new end → Appended (a ++ b) old at new end
◌then◌ {a} {b} {old} {mid} {new} {at} p q = record {
  stand =
      q.stand
      ∙ ap (λ (k : ℕ). sets mid k (fitting b mid k)) p.past
      ∙ ap (λ (l : List ℕ). sets l seam (fitting b mid seam)) p.stand
      ∙ sets_append first (fitting b mid seam) old at
      ∙ ap (sets old at) (sym both);
  past = omega (arith, q.past, p.past, ap (λ (k : ℕ). length (fitting b mid k)) p.past, ap length both, length-append first (fitting b mid seam));
}
  where
    first : List ℕ
    first = fitting a old at

    seam : ℕ
    seam = at + length first

    both : fitting (a ++ b) old at ≡ first ++ fitting b mid seam
    both = fitting-append a b old mid at (same p)

-- ---- a run of appends that is to come to `whole`, of which `rest` is left to be written

pub record SoFar (whole rest old : List ℕ) (at : ℕ) (new : List ℕ) (next : ℕ) : Type 0 where
  pub done : List ℕ
  pub split : done ++ rest ≡ whole
  pub so : Appended done old at new next

pub begin : (whole old : List ℕ) (at : ℕ) → SoFar whole whole old at old at
begin whole old at = record { done = []; split = refl; so = none old at }

pub step : (a : List ℕ) {whole rest old mid new : List ℕ} {at next end : ℕ} → SoFar whole (a ++ rest) old at mid next → Appended a mid next new end → SoFar whole rest old at new end
step a {rest = rest} p q = record {
  done = p.done ++ a;
  split = append_assoc p.done a rest ∙ p.split;
  so = p.so then q;
}

module _ {whole old new : List ℕ} {at next : ℕ} where
  -- what is left by another name
  pub with_rest : {a b : List ℕ} → a ≡ b → SoFar whole a old at new next → SoFar whole b old at new next
  with_rest e p = subst (λ (l : List ℕ). SoFar whole l old at new next) e p

  -- nothing is left
  pub finish : SoFar whole [] old at new next → Appended whole old at new next
  finish p = read_as (sym (append-nil p.done) ∙ p.split) p.so
