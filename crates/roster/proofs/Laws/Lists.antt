-- The order of absences is that of their lists of ranks, ascending and compared from the front. The idea: a set of rows is turned into the set of
-- their ranks; of two sets of one size, the ascending list of one is before that of the other where it has the lowest number in which they
-- differ. Assumes nothing.
use Rattle.std.specs.Prelude.{◌≡◌, refl, ◌⊎◌, ◌↔◌, ℕ, zero, suc, ◌/◌, ◌%◌, ◌^◌, ◌<◌, length}
use Rattle.std.proofs.Math.Path.{sym}
use Rattle.std.proofs.Common.{ap, ◌∙◌, subst, inl, inr, suc-le-suc, arith}
use mathlib.Core.List.{List, [], ◌∷◌, Memᴰ}
use Rattle.std.proofs.Math.Decide.{dec_lt, ℕ_discrete}
use Rattle.std.specs.Int.Count.{ones, ones_step}
use Rattle.sets.specs.Sets.{bit, Has, bit_le, bit-zero, bit-suc, bit-none, bit_high, bit_below}
use Rattle.sets.proofs.Sets.{ones_none, ones_pos}
use Rattle.sets.specs.Members.{cons?, members}
use Rattle.sets.proofs.Laws.Members.{Ascends, members_ascend, has_of_mem, mem_of_has, length-members}
use Rattle.roster.specs.declared.Table.{Table}
use Rattle.roster.specs.Meaning.{rank, Lex, Earlier}
use Rattle.roster.specs.Laws.Lists.{ranks}
use Rattle.sets.proofs.Laws.Image.{image, image_has, has_image, image_lt, image-ones, image-bit}
use Rattle.roster.proofs.Laws.Rank.{rank_inj, rank_below}

-- lists of numbers, compared from the front
abbrev pub LexList : List ℕ → List ℕ → Type 0
LexList [] [] = ⊥
LexList [] (y ∷ m) = Unit {0}
LexList (x ∷ l) [] = ⊥
LexList (x ∷ l) (y ∷ m) = (x < y) ⊎ ((x ≡ y) × LexList l m)

-- ---- of two sets of one size

-- a has the lowest number that just one of a and b has
abbrev pub Low : ℕ → ℕ → Type 0
Low a b = (x : ℕ) × (bit a x ≡ 1) × (bit b x ≡ 0) × ((y : ℕ) → y < x → bit a y ≡ bit b y)

-- a number below all of a list that is not empty
in_front : (k w x b : ℕ) (l : List ℕ) → x < k → b < 2 ^ w → 0 < b → LexList (x ∷ l) (members k w b)
unfolding members cons?
in_front k zero x b l h hb p = absurd (omega arith)
in_front k (suc w) x b l h hb p = go (b % 2) refl (λ q. in_front (suc k) w x (b / 2) l (omega arith) (omega arith) q)
  where
    go : (d : ℕ) → b % 2 ≡ d → (0 < b / 2 → LexList (x ∷ l) (members (suc k) w (b / 2)))
        → LexList (x ∷ l) (cons? d k (members (suc k) w (b / 2)))
    go zero e ih = ih (omega arith)
    go (suc d) e ih = inl h

not_behind : (k w x a : ℕ) (m : List ℕ) → x < k → a < 2 ^ w → 0 < a → LexList (members k w a) (x ∷ m) → ⊥
unfolding members cons?
not_behind k zero x a m h ha p = absurd (omega arith)
not_behind k (suc w) x a m h ha p = go (a % 2) refl (λ q. not_behind (suc k) w x (a / 2) m (omega arith) (omega arith) q)
  where
    head : (k < x) ⊎ ((k ≡ x) × LexList (members (suc k) w (a / 2)) m) → ⊥
    head (inl q) = omega arith
    head (inr q) = omega (arith, q.0)

    go : (d : ℕ) → a % 2 ≡ d → (0 < a / 2 → LexList (members (suc k) w (a / 2)) (x ∷ m) → ⊥)
        → LexList (cons? d k (members (suc k) w (a / 2))) (x ∷ m) → ⊥
    go zero e ih q = ih (omega arith) q
    go (suc d) e ih q = head q

low_half : (a b : ℕ) → a % 2 ≡ b % 2 → Low a b → Low (a / 2) (b / 2)
low_half a b e (zero, p, q, f) = absurd (omega (arith, bit-zero a, bit-zero b))
low_half a b e (suc x, p, q, f) =
    (x, sym (bit-suc a x) ∙ p, sym (bit-suc b x) ∙ q, λ y l. sym (bit-suc a y) ∙ f (suc y) (suc-le-suc l) ∙ bit-suc b y)

low_double : (a b : ℕ) → a % 2 ≡ b % 2 → Low (a / 2) (b / 2) → Low a b
low_double a b e (x, p, q, f) = (suc x, bit-suc a x ∙ p, bit-suc b x ∙ q, agree)
  where
    agree : (y : ℕ) → y < suc x → bit a y ≡ bit b y
    agree zero l = bit-zero a ∙ e ∙ sym (bit-zero b)
    agree (suc y) l = bit-suc a y ∙ f y (omega arith) ∙ sym (bit-suc b y)

low-zero : (a b : ℕ) → a % 2 ≡ 1 → b % 2 ≡ 0 → Low a b
low-zero a b p q = (0, bit-zero a ∙ p, bit-zero b ∙ q, λ y l. absurd (omega arith))

not_low : (a b : ℕ) → a % 2 ≡ 0 → b % 2 ≡ 1 → Low a b → ⊥
not_low a b p q (zero, r, s, f) = omega (arith, bit-zero a)
not_low a b p q (suc x, r, s, f) = omega (arith, f 0 (omega arith), bit-zero a, bit-zero b)

pos_of_ones : (a b : ℕ) → ones a ≡ ones b → 0 < a → 0 < b
pos_of_ones a zero e p = absurd (omega (arith, ones_pos a p, e, ones_none))
pos_of_ones a (suc b) e p = omega arith

list_of_low : (k w a b : ℕ) → a < 2 ^ w → b < 2 ^ w → ones a ≡ ones b → Low a b → LexList (members k w a) (members k w b)
unfolding members cons?
list_of_low k zero a b ha hb e r = let z : a ≡ 0 = omega arith in absurd (omega (arith, bit-none r.0, ap (λ (x : ℕ). bit x r.0) z, r.1))
list_of_low k (suc w) a b ha hb e r =
    go (a % 2) (b % 2) refl refl (λ q s. list_of_low (suc k) w (a / 2) (b / 2) (omega arith) (omega arith) s q)
  where
    go : (c d : ℕ) → a % 2 ≡ c → b % 2 ≡ d
        → (Low (a / 2) (b / 2) → ones (a / 2) ≡ ones (b / 2) → LexList (members (suc k) w (a / 2)) (members (suc k) w (b / 2)))
        → LexList (cons? c k (members (suc k) w (a / 2))) (cons? d k (members (suc k) w (b / 2)))
    go zero zero p q ih = ih (low_half a b (omega arith) r) (omega (arith, ones_step a, ones_step b))
    go zero (suc d) p q ih = absurd (not_low a b p (omega arith) r)
    go (suc c) zero p q ih =
        in_front (suc k) w k (b / 2) (members (suc k) w (a / 2)) (omega arith) (omega arith) (omega (arith, pos_of_ones a b e (omega arith)))
    go (suc c) (suc d) p q ih = inr (refl, ih (low_half a b (omega arith) r) (omega (arith, ones_step a, ones_step b)))

low_of_list : (k w a b : ℕ) → a < 2 ^ w → b < 2 ^ w → ones a ≡ ones b → LexList (members k w a) (members k w b) → Low a b
unfolding members cons?
low_of_list k zero a b ha hb e r = absurd r
low_of_list k (suc w) a b ha hb e r =
    go (a % 2) (b % 2) refl refl (λ s q. low_of_list (suc k) w (a / 2) (b / 2) (omega arith) (omega arith) s q) r
  where
    go : (c d : ℕ) → a % 2 ≡ c → b % 2 ≡ d
        → (ones (a / 2) ≡ ones (b / 2) → LexList (members (suc k) w (a / 2)) (members (suc k) w (b / 2)) → Low (a / 2) (b / 2))
        → LexList (cons? c k (members (suc k) w (a / 2))) (cons? d k (members (suc k) w (b / 2))) → Low a b
    go zero zero p q ih s = low_double a b (omega arith) (ih (omega (arith, ones_step a, ones_step b)) s)
    go zero (suc d) p q ih s =
        absurd (not_behind (suc k) w k (a / 2) (members (suc k) w (b / 2)) (omega arith) (omega arith)
        (omega (arith, pos_of_ones b a (sym e) (omega arith))) s)
    go (suc c) zero p q ih s = low-zero a b (omega arith) q
    go (suc c) (suc d) p q ih (inl s) = absurd (omega arith)
    go (suc c) (suc d) p q ih (inr s) = low_double a b (omega arith) (ih (omega (arith, ones_step a, ones_step b)) s.1)

-- of two masks with as many members each, the list of one is before that of the other where it has the lowest number that they differ in
pub list_iff_low : (k w a b : ℕ) → a < 2 ^ w → b < 2 ^ w → ones a ≡ ones b → LexList (members k w a) (members k w b) ↔ Low a b
list_iff_low k w a b ha hb e = (low_of_list k w a b ha hb e, list_of_low k w a b ha hb e)

-- ---- a set of rows as a set of ranks

module _ (table : Table) (P : ℕ) where
  abbrev ranked : ℕ → ℕ
  ranked A = image (rank table P) table.rows A

  -- where two sets have the same rows of rank below x, they have the same ranks below x
  same_has : (A B x y : ℕ) → y < x → ((i : ℕ) → rank table P i < x → bit A i ≡ bit B i) → Has (ranked A) y → Has (ranked B) y
  same_has A B x y l f p =
      let r = has_image (rank table P) table.rows A y p in
      subst (λ (z : ℕ). Has (ranked B) z) r.3
      (image_has (rank table P) table.rows B r.0 r.1 (sym (f r.0 (omega (arith, r.3))) ∙ r.2))

  same_bit : (A B x y : ℕ) → y < x → ((i : ℕ) → rank table P i < x → bit A i ≡ bit B i) → bit (ranked A) y ≡ bit (ranked B) y
  same_bit A B x y l f = go (ℕ_discrete (bit (ranked A) y) 1) (ℕ_discrete (bit (ranked B) y) 1)
    where
      go : Dec (bit (ranked A) y ≡ 1) → Dec (bit (ranked B) y ≡ 1) → bit (ranked A) y ≡ bit (ranked B) y
      go (yes p) q = p ∙ sym (same_has A B x y l f p)
      go (no p) (yes q) = absurd (p (same_has B A x y l (λ i k. sym (f i k)) q))
      go (no p) (no q) = omega (arith, bit_le (ranked A) y, bit_le (ranked B) y)

  lex_low : (A B : ℕ) → A < 2 ^ table.rows → B < 2 ^ table.rows → Lex (rank table P) A B ↔ Low (ranked A) (ranked B)
  lex_low A B hA hB = (to, from)
    where
      at : (C i : ℕ) → i < table.rows → bit (ranked C) (rank table P i) ≡ bit C i
      at = image-bit (rank table P) table.rows (rank_inj table P)

      to : Lex (rank table P) A B → Low (ranked A) (ranked B)
      to (x, p, q, f) =
          let l : x < table.rows = bit_below A table.rows x hA p in
          (rank table P x, at A x l ∙ p, at B x l ∙ q, λ y k. same_bit A B (rank table P x) y k f)

      from : Low (ranked A) (ranked B) → Lex (rank table P) A B
      from (x, p, q, f) =
          let r = has_image (rank table P) table.rows A x p in
          (r.0, r.2, sym (at B r.0 r.1) ∙ ap (bit (ranked B)) r.3 ∙ q, λ y k. same y r.0 r.3 k (dec_lt y table.rows))
        where
          same : (y i : ℕ) → rank table P i ≡ x → rank table P y < rank table P i → Dec (y < table.rows) → bit A y ≡ bit B y
          same y i e k (yes l) = sym (at A y l) ∙ f (rank table P y) (omega arith) ∙ at B y l
          same y i e k (no l) = bit_high A table.rows y hA (omega arith) ∙ sym (bit_high B table.rows y hB (omega arith))

  -- ---- `ranks` is what its name says

  -- as a set of ranks a set of rows keeps its bound and its size
  ranked_lt : (A : ℕ) → ranked A < 2 ^ table.rows
  ranked_lt A = image_lt (rank table P) table.rows table.rows A (rank_below table P)

  ranked-ones : (A : ℕ) → A < 2 ^ table.rows → ones (ranked A) ≡ ones A
  ranked-ones = image-ones (rank table P) table.rows (rank_inj table P)

  -- it ascends
  pub ranks_ascend : (A : ℕ) → Ascends 0 (ranks table P A)
  unfolding ranks
  ranks_ascend A = members_ascend 0 table.rows (ranked A)

  -- it has the rank of each row of A, and nothing else
  pub ranks_iff : (A x : ℕ) → A < 2 ^ table.rows → Memᴰ x (ranks table P A) ↔ ((v : ℕ) × Has A v × (rank table P v ≡ x))
  unfolding ranks
  ranks_iff A x hA = (to, from)
    where
      to : Memᴰ x (members 0 table.rows (ranked A)) → (v : ℕ) × Has A v × (rank table P v ≡ x)
      to m = let r = has_image (rank table P) table.rows A x (has_of_mem table.rows (ranked A) x m).1 in (r.0, r.2, r.3)

      from : (v : ℕ) × Has A v × (rank table P v ≡ x) → Memᴰ x (members 0 table.rows (ranked A))
      from (v, p, e) =
          let l : v < table.rows = bit_below A table.rows v hA p in
          mem_of_has table.rows (ranked A) x (omega (arith, rank_below table P v l))
          (subst (λ (z : ℕ). Has (ranked A) z) e (image_has (rank table P) table.rows A v l p))

  -- it is as long as A is large
  pub ranks-length : (A : ℕ) → A < 2 ^ table.rows → length (ranks table P A) ≡ ones A
  unfolding ranks
  ranks-length A hA = length-members table.rows (ranked A) (ranked_lt A) ∙ ranked-ones A hA

  -- ---- the order by those lists

  -- "within a size, by the list of ranks in ascending order, compared from the front": that is `Lex`
  pub lex_iff_ranks : (A B : ℕ) → A < 2 ^ table.rows → B < 2 ^ table.rows → ones A ≡ ones B
      → Lex (rank table P) A B ↔ LexList (ranks table P A) (ranks table P B)
  unfolding ranks
  lex_iff_ranks A B hA hB e =
      let low = lex_low A B hA hB in
      let lists = list_iff_low 0 table.rows (ranked A) (ranked B) (ranked_lt A) (ranked_lt B)
      (ranked-ones A hA ∙ e ∙ sym (ranked-ones B hB)) in
      (λ l. lists.1 (low.0 l), λ l. low.1 (lists.0 l))

  -- "By size, ...; within a size, by the list of ranks in ascending order, compared from the front.": that is `Earlier`
  pub earlier_iff_ranks : (A B : ℕ) → A < 2 ^ table.rows → B < 2 ^ table.rows
      → Earlier table P A B ↔ ((ones A < ones B) ⊎ ((ones A ≡ ones B) × LexList (ranks table P A) (ranks table P B)))
  earlier_iff_ranks A B hA hB = (to, from)
    where
      to : Earlier table P A B → (ones A < ones B) ⊎ ((ones A ≡ ones B) × LexList (ranks table P A) (ranks table P B))
      to (inl l) = inl l
      to (inr (e, x)) = inr (e, (lex_iff_ranks A B hA hB e).0 x)

      from : (ones A < ones B) ⊎ ((ones A ≡ ones B) × LexList (ranks table P A) (ranks table P B)) → Earlier table P A B
      from (inl l) = inl l
      from (inr (e, x)) = inr (e, (lex_iff_ranks A B hA hB e).1 x)
