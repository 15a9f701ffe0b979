-- A roster with every row at its place agrees with the plain list of those rows, has nobody twice where staff numbers ascend, and its table is that
-- of the rows. Assumes nothing.
use Rattle.std.specs.Prelude.{◌≡◌, refl, true, false, ◌⊎◌, eqb, get_or}
use Rattle.std.proofs.Common.{sym, ◌∙◌, inl, inr, ⊎_elim, eqb-true}
use Rattle.std.proofs.Math.Path.{ap, ap₂, fun_ext}
use Rattle.std.proofs.Math.Option.{some, none}
use mathlib.Core.List.Memᴰ
use mathlib.Core.List.{List, [], ◌∷◌, map, Memᴰ}
use Prim.Native.Nat.{ℕ, zero, suc, ◌+◌, ◌-◌, ◌/◌, ◌^◌, ◌≤◌, ◌<◌, min}
use Rattle.std.proofs.Math.Decide.{dec_lt}
use native.Mathlib.Omega.{arith}
use Rattle.std.proofs.Math.ListN.{length, get_elem?, get_or-eq_default}
use Rattle.std.proofs.lemmas.Bool.{eqb-false}
use Rattle.sets.specs.Sets.{bit, digit, lt_of_bits, lt_pow, bit-full, bit_high, bit-suc}
use Rattle.sets.specs.Sums.{to_n}
use Rattle.sets.specs.Members.{members, hasb}
use Rattle.sets.specs.Laws.Sums.{either, to_n-true, to_n-false}
use Rattle.sets.specs.Laws.Tests.{to_n-hasb}
use Rattle.sets.proofs.Laws.Build.{set_of_lt, set_of-bit}
use Rattle.sets.proofs.Laws.Members.{has_of_mem, mem_of_has}
use Rattle.sets.specs.Arrays.{tabulate, at}
use Rattle.sets.specs.Laws.Arrays.{length-tabulate, get_d_tabulate, tabulated, at-tabulate, at-past}
use Rattle.roster.specs.declared.Table.{Table}
use Rattle.crews.specs.Filling.{holders_of}
use Rattle.book.specs.Layout.{Each, Ascends}
use Rattle.book.proofs.Laws.Parts.{each_nth}
use Rattle.book.proofs.Laws.Old.{ascending}
use Rattle.book.proofs.Laws.View.{not_there}
use Rattle.book.specs.declared.Row.{Row}
use Rattle.values.specs.Values.{nobody}
use Rattle.live.specs.Changes.{table_of}
use Rattle.live.specs.Plain.{Somebody, member}
use Rattle.live.specs.Agrees.{Stands, Agrees}
use Rattle.live.specs.Laws.Lists.{member_here, member_next}
use Rattle.live.specs.Laws.Gathering.{map_at, map-past}
use Rattle.live.proofs.Laws.Tables.{members_in, members_out}
use Rattle.live.specs.Laws.Twice.{Once, clash}
use Rattle.desk.specs.Filled.{seated_by, seated, whose, seat_of, plain_rows}

-- ---- an element of a list by its index

pub nth : {A : Type 0} (d : A) (l : List A) (i : ℕ) → i < length l → get_elem? l i ≡ some (get_or l i d)
nth d [] i b = absurd (omega arith)
nth d (x ∷ l) zero b = refl
nth d (x ∷ l) (suc i) b = nth d l i (omega arith)

-- ---- a set's members as a list of permissions

-- the test of the list is that of the mask
member_yes : (p : ℕ) (l : List ℕ) → Memᴰ p l → member p l ≡ true
unfolding member
member_yes p [] m = absurd (Memᴰ.not-nil m)
member_yes p (x ∷ l) m = go (either (eqb x p)) (member_yes p l) (Memᴰ.cases_cons m)
  where
    go : (eqb x p ≡ true) ⊎ (eqb x p ≡ false) → (Memᴰ p l → member p l ≡ true) → (p ≡ x) ⊎ Memᴰ p l → member p (x ∷ l) ≡ true
    go (inl y) ih c = member_here p x l y
    go (inr n) ih (inl e) = absurd (eqb-false x p n (sym e))
    go (inr n) ih (inr t) = member_next p x l n ∙ ih t

member_no : (p : ℕ) (l : List ℕ) → (Memᴰ p l → ⊥) → member p l ≡ false
unfolding member
member_no p [] f = refl
member_no p (x ∷ l) f = go (either (eqb x p)) (member_no p l (λ t. f (Memᴰ.tail t)))
  where
    go : (eqb x p ≡ true) ⊎ (eqb x p ≡ false) → member p l ≡ false → member p (x ∷ l) ≡ false
    go (inl y) ih = absurd (f (Memᴰ.head (sym (eqb-true x p y))))
    go (inr n) ih = member_next p x l n ∙ ih

member-bit : (m p : ℕ) → p < 32 → to_n (member p (members 0 32 m)) ≡ bit m p
member-bit m p b =
    ⊎_elim
    (λ z. to_n-false (member p (members 0 32 m)) (member_no p (members 0 32 m) (λ t. absurd (omega (arith, (has_of_mem 32 m p t).1, z)))) ∙ sym z)
    (λ o. to_n-true (member p (members 0 32 m)) (member_yes p (members 0 32 m) (mem_of_has 32 m p b o)) ∙ sym o)
    (digit m p)

-- ---- the first n places

members-first : (k w m n : ℕ) → n ≤ w → ((i : ℕ) → i < n → bit m i ≡ 1) → ((i : ℕ) → n ≤ i → bit m i ≡ 0) → members k w m ≡ tabulate n (λ i. k + i)
unfolding members tabulate
members-first k zero m zero b f g = refl
members-first k zero m (suc n) b f g = absurd (omega arith)
members-first k (suc w) m zero b f g =
    members_out k w m (g 0 (omega arith))
    ∙ members-first (suc k) w (m / 2) zero (omega arith) (λ i l. absurd (omega arith)) (λ i l. sym (bit-suc m i) ∙ g (suc i) (omega arith))
members-first k (suc w) m (suc n) b f g =
    let z : k ≡ k + 0 = omega arith in
    members_in k w m (f 0 (omega arith))
    ∙ ap₂ (λ (x : ℕ) (l : List ℕ). x ∷ l) z
    (members-first (suc k) w (m / 2) n (omega arith) (λ i l. sym (bit-suc m i) ∙ f (suc i) (omega arith))
    (λ i l. sym (bit-suc m i) ∙ g (suc i) (omega arith))
    ∙ ap (tabulate n) (fun_ext (λ i. omega arith)))

pub first_places : (n : ℕ) → n ≤ 64 → members 0 64 (2 ^ n - 1) ≡ tabulate n (λ i. 0 + i)
first_places n few = members-first 0 64 (2 ^ n - 1) n few (λ i b. bit-full n i b) (λ i b. bit_high (2 ^ n - 1) n i (omega (arith, lt_pow n)) b)

pub first-fit : (n : ℕ) → n ≤ 64 → 2 ^ n - 1 < 2 ^ 64
first-fit n few = lt_of_bits 64 (2 ^ n - 1) (λ i b. bit_high (2 ^ n - 1) n i (omega (arith, lt_pow n)) (omega arith))

-- ---- the rows in their places

module _ (rows : List Row) (few : length rows ≤ 64) where
  abbrev row : ℕ → Row
  row i = get_or rows i nobody

  past : (i : ℕ) → length rows ≤ i → row i ≡ nobody
  past i b = get_or-eq_default rows nobody b

  pub occupied_is : (seated rows).occupied ≡ 2 ^ length rows - 1
  unfolding seated_by
  occupied_is = let z : min (length rows) 64 ≡ length rows = omega arith in ap (λ (k : ℕ). 2 ^ k - 1) z

  pub staff_at : (i : ℕ) → i < 64 → at (seated rows).staff i ≡ (row i).staff
  unfolding seated_by
  staff_at i b = at-tabulate 64 (λ i. (row i).staff) i b

  pub held_at : (i : ℕ) → i < 64 → at (seated rows).holdings i ≡ (row i).holdings
  unfolding seated_by
  held_at i b = at-tabulate 64 (λ i. (row i).holdings) i b

  seat_in : (i : ℕ) → i < length rows → seat_of (get_elem? rows i) ≡ some (whose (row i))
  seat_in i b = ap seat_of (nth nobody rows i b)

  seat_out : (i : ℕ) → length rows ≤ i → seat_of (get_elem? rows i) ≡ none
  seat_out i b = ap seat_of (not_there rows i b)

  stands : (i : ℕ) → Dec (i < length rows) → Stands (seat_of (get_elem? rows i)) (bit (2 ^ length rows - 1) i) (row i).staff (row i).holdings
  stands i (yes b) = rw (seat_in i b) (bit-full (length rows) i b, refl, λ p c. sym (member-bit (row i).holdings p c))
  stands i (no d) =
      rw (seat_out i (omega arith)) (
        bit_high (2 ^ length rows - 1) (length rows) i (omega (arith, lt_pow (length rows))) (omega arith),
        ap Row.staff (past i (omega arith)),
        ap Row.holdings (past i (omega arith)),
      )

  -- nobody twice where staff numbers ascend
  pub seated_once : Ascends (λ row. row.staff) rows → Once (plain_rows rows)
  seated_once up i j s t e g q = go (dec_lt i j) (dec_lt j i)
    where
      whose_is : (u : Somebody) (k : ℕ) → some (whose (row k)) ≡ some u → u.staff ≡ (row k).staff
      whose_is u k x = let y : whose (row k) ≡ u = cc in sym (ap Somebody.staff y)

      here : (k : ℕ) (u : Somebody) → get_or (plain_rows rows) k none ≡ some u → Dec (k < 64) → Dec (k < length rows)
          → (get_elem? rows k ≡ some (row k)) × (u.staff ≡ (row k).staff)
      here k u x (yes b) (yes l) =
          (nth nobody rows k l, whose_is u k (sym (get_d_tabulate none 64 (λ i. seat_of (get_elem? rows i)) k b ∙ seat_in k l) ∙ x))
      here k u x (yes b) (no d) = clash u (sym (get_d_tabulate none 64 (λ i. seat_of (get_elem? rows i)) k b ∙ seat_out k (omega arith)) ∙ x)
      here k u x (no d) l =
          clash u (sym (get_or-eq_default (plain_rows rows) none (omega (arith, length-tabulate 64 (λ i. seat_of (get_elem? rows i))))) ∙ x)

      at_i : (get_elem? rows i ≡ some (row i)) × (s.staff ≡ (row i).staff)
      at_i = here i s e (dec_lt i 64) (dec_lt i (length rows))

      at_j : (get_elem? rows j ≡ some (row j)) × (t.staff ≡ (row j).staff)
      at_j = here j t g (dec_lt j 64) (dec_lt j (length rows))

      go : Dec (i < j) → Dec (j < i) → i ≡ j
      go (yes b) c = absurd (omega (arith, ascending (λ row. row.staff) rows i j (row i) (row j) up b at_i.0 at_j.0, at_i.1, at_j.1))
      go (no b) (yes c) = absurd (omega (arith, ascending (λ row. row.staff) rows j i (row j) (row i) up c at_j.0 at_i.0, at_i.1, at_j.1))
      go (no b) (no c) = omega arith

  -- the table of the occupied places is that of the rows
  table_at : (i : ℕ) → i < 64 → Dec (i < length rows)
      → at (map (at (seated rows).holdings) (tabulate (length rows) (λ i. 0 + i))) i ≡ (row i).holdings
  table_at i b (yes l) =
      let z : 0 + i ≡ i = omega arith in
      map_at 0 (at (seated rows).holdings) (tabulate (length rows) (λ i. 0 + i)) i (omega (arith, length-tabulate (length rows) (λ i. 0 + i)))
      ∙ ap (at (seated rows).holdings) (at-tabulate (length rows) (λ i. 0 + i) i l ∙ z)
      ∙ held_at i b
  table_at i b (no d) =
      map-past 0 (at (seated rows).holdings) (tabulate (length rows) (λ i. 0 + i)) i (omega (arith, length-tabulate (length rows) (λ i. 0 + i)))
      ∙ sym (ap Row.holdings (past i (omega arith)))

  places_are : members 0 64 (seated rows).occupied ≡ tabulate (length rows) (λ i. 0 + i)
  places_are = ap (members 0 64) occupied_is ∙ first_places (length rows) few

  pub seated_table : table_of (seated rows) ≡ record { holdings = tabulate 64 (λ i. (row i).holdings); rows = length rows }
  unfolding table_of
  seated_table =
      ap₂ {C = Table} (λ (h : List ℕ) (n : ℕ). record { holdings = h; rows = n })
      (ap (λ (l : List ℕ). tabulate 64 (at (map (at (seated rows).holdings) l))) places_are
      ∙ tabulated 0 64 (λ i. (row i).holdings) _ (length-tabulate 64 _)
      (λ i b. at-tabulate 64 (at (map (at (seated rows).holdings) (tabulate (length rows) (λ i. 0 + i)))) i b ∙ table_at i b (dec_lt i (length rows))))
      (ap length places_are ∙ length-tabulate (length rows) (λ i. 0 + i))

  -- what is below a bound in every row is so at every place
  pub column_fit : (f : Row → ℕ) (m : ℕ) → f nobody < m → Each (λ row. f row < m) rows → (i : ℕ) → at (tabulate 64 (λ i. f (row i))) i < m
  column_fit f m z h i = go (dec_lt i 64) (dec_lt i (length rows))
    where
      go : Dec (i < 64) → Dec (i < length rows) → at (tabulate 64 (λ i. f (row i))) i < m
      go (yes b) (yes l) = rw (at-tabulate 64 (λ i. f (row i)) i b) (each_nth (λ row. f row < m) rows i (row i) h (nth nobody rows i l))
      go (yes b) (no d) = rw (at-tabulate 64 (λ i. f (row i)) i b) (rw (past i (omega arith)) z)
      go (no d) l = rw (at-past 64 (λ i. f (row i)) i (omega arith)) (omega (arith, z))

  -- ---- holdings of at most 32 permissions

  module _ (narrow : Each (λ row. row.holdings < 2 ^ 32) rows) where
    held-fit : (i : ℕ) → at (seated rows).holdings i < 2 ^ 32
    unfolding seated_by
    held-fit i = column_fit Row.holdings (2 ^ 32) (omega arith) narrow i

    sets_fit : (p : ℕ) → Dec (p < 32) → at (seated rows).holders p < 2 ^ 64
    unfolding seated_by
    sets_fit p (yes b) = rw (at-tabulate 32 (holders_of (at (seated rows).holdings)) p b) (set_of_lt 64 (λ u. hasb (at (seated rows).holdings u) p))
    sets_fit p (no d) = rw (at-past 32 (holders_of (at (seated rows).holdings)) p (omega arith)) (omega arith)

    -- "the roster of such a book has the holdings of its rows"
    pub seated_agrees : Agrees (seated rows) (plain_rows rows)
    unfolding seated_by
    seated_agrees =
        record {
          places = length-tabulate 64 (λ i. seat_of (get_elem? rows i));
          match = λ i b.
              rw (get_d_tabulate none 64 (λ i. seat_of (get_elem? rows i)) i b)
              (rw (staff_at i b) (rw (held_at i b) (rw occupied_is (stands i (dec_lt i (length rows))))));
          both = λ p i b c.
              ap (λ (x : ℕ). bit x i) (at-tabulate 32 (holders_of (at (seated rows).holdings)) p b)
              ∙ set_of-bit 64 (λ u. hasb (at (seated rows).holdings u) p) i c
              ∙ to_n-hasb (at (seated rows).holdings i) p;
          fits = record {
            occupied = rw occupied_is (first-fit (length rows) few);
            holdings = held-fit;
            holders = λ p. sets_fit p (dec_lt p 32);
            staff_long = length-tabulate 64 (λ i. (row i).staff);
            holdings_long = length-tabulate 64 (λ i. (row i).holdings);
            holders_long = length-tabulate 32 (holders_of (at (seated rows).holdings));
          };
        }
