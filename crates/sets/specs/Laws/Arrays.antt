-- An array that is filled element by element is the table of a function, and what is read out of that table is the function, past its end
-- too. Assumes nothing.
use Rattle.std.specs.Prelude.{◌≡◌, refl, List, ℕ, zero, suc, ◌+◌, ◌≤◌, ◌<◌, length, get_or, set, replicate}
use Rattle.std.proofs.Common.{sym, ap, ◌∙◌, arith, length-set, ext_get_or, get_or-set_same, get_or-set_other}
use Rattle.std.proofs.Math.Path.{fun_ext}
use Rattle.std.proofs.Math.Decide.{dec_lt, ℕ_discrete}
use Rattle.std.proofs.lemmas.List.{length-replicate, get_or-replicate}
use Rattle.std.proofs.Math.ListN.{get_or-eq_default}
use Rattle.sets.specs.Arrays.{tabulate, at}

-- ---- the table of a function

pub length-tabulate : {A : Type 0} (n : ℕ) (f : ℕ → A) → length (tabulate n f) ≡ n
unfolding tabulate
length-tabulate zero f = refl
length-tabulate (suc n) f = ap suc (length-tabulate n (λ i. f (suc i)))

pub get_d_tabulate : {A : Type 0} (d : A) (n : ℕ) (f : ℕ → A) (i : ℕ) → i < n → get_or (tabulate n f) i d ≡ f i
unfolding tabulate
get_d_tabulate d zero f i l = absurd (omega arith)
get_d_tabulate d (suc n) f zero l = refl
get_d_tabulate d (suc n) f (suc i) l = get_d_tabulate d n (λ i. f (suc i)) i (omega arith)

pub at-tabulate : (n : ℕ) (f : ℕ → ℕ) (i : ℕ) → i < n → at (tabulate n f) i ≡ f i
at-tabulate = get_d_tabulate 0

pub at-past : (n : ℕ) (f : ℕ → ℕ) (i : ℕ) → n ≤ i → at (tabulate n f) i ≡ 0
at-past n f i l = get_or-eq_default (tabulate n f) 0 (omega (arith, length-tabulate n f))

-- an array with these elements is the table
pub tabulated : {A : Type 0} (d : A) (n : ℕ) (f : ℕ → A) (l : List A) → length l ≡ n → ((i : ℕ) → i < n → get_or l i d ≡ f i) → l ≡ tabulate n f
tabulated d n f l e h =
    ext_get_or d l (tabulate n f) (e ∙ sym (length-tabulate n f)) (λ i k. h i (omega arith) ∙ sym (get_d_tabulate d n f i (omega arith)))

-- an array of n that a loop has filled up to k, and is still d, as it was made, from there on
pub record Passed {A : Type 0} (d : A) (n : ℕ) (f : ℕ → A) (k : ℕ) (l : List A) : Type 0 where
  pub few : k ≤ n
  pub long : length l ≡ n
  pub passed : (i : ℕ) → i < k → get_or l i d ≡ f i
  pub ahead : (i : ℕ) → k ≤ i → get_or l i d ≡ d

module _ {A : Type 0} (d : A) (n : ℕ) where
  as_made : (i : ℕ) → get_or (replicate n d) i d ≡ d
  as_made i = go (dec_lt i n)
    where
      go : Dec (i < n) → get_or (replicate n d) i d ≡ d
      go (yes l) = get_or-replicate n i d d l
      go (no c) = get_or-eq_default (replicate n d) d (omega (arith, length-replicate {A = A} n d))

  pub passed_none : (f : ℕ → A) → Passed d n f 0 (replicate n d)
  passed_none f = record { few = omega arith; long = length-replicate n d; passed = λ i l. absurd (omega arith); ahead = λ i l. as_made i }

  -- one more element stored
  pub passed_stored : (f : ℕ → A) (k : ℕ) (v : A) (l : List A) → Passed d n f k l → k < n → v ≡ f k → Passed d n f (k + 1) (set l k v)
  passed_stored f k v l p s e =
      record {
        few = omega arith;
        long = length-set l k v ∙ p.long;
        passed = λ i b. go i b (ℕ_discrete i k);
        ahead = λ i b. get_or-set_other l k i v d (λ q. omega arith) ∙ p.ahead i (omega arith);
      }
    where
      go : (i : ℕ) → i < k + 1 → Dec (i ≡ k) → get_or (set l k v) i d ≡ f i
      go i b (yes q) = ap (λ (j : ℕ). get_or (set l k v) j d) q ∙ get_or-set_same l k v d (omega (arith, p.long)) ∙ e ∙ ap f (sym q)
      go i b (no c) = get_or-set_other l k i v d c ∙ p.passed i (omega arith)

  -- one more element left as it was made
  pub passed_left : (f : ℕ → A) (k : ℕ) (l : List A) → Passed d n f k l → k < n → f k ≡ d → Passed d n f (k + 1) l
  passed_left f k l p s e =
      record { few = omega arith; long = p.long; passed = λ i b. go i b (ℕ_discrete i k); ahead = λ i b. p.ahead i (omega arith) }
    where
      go : (i : ℕ) → i < k + 1 → Dec (i ≡ k) → get_or l i d ≡ f i
      go i b (yes q) = p.ahead i (omega arith) ∙ sym (ap f q ∙ e)
      go i b (no c) = p.passed i (omega arith)

  pub passed_all : (f : ℕ → A) (k : ℕ) (l : List A) → Passed d n f k l → n ≤ k → l ≡ tabulate n f
  passed_all f k l p h = tabulated d n f l p.long (λ i b. p.passed i (omega arith))

-- the functions are equal where the function is 0 from the end on
pub at_whole : (n : ℕ) (f : ℕ → ℕ) → ((i : ℕ) → n ≤ i → f i ≡ 0) → at (tabulate n f) ≡ f
at_whole n f h = fun_ext (λ i. go i (dec_lt i n))
  where
    go : (i : ℕ) → Dec (i < n) → at (tabulate n f) i ≡ f i
    go i (yes l) = at-tabulate n f i l
    go i (no c) = at-past n f i (omega arith) ∙ sym (h i (omega arith))
