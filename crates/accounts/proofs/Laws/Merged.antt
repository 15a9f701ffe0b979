-- The merged table, theorem by theorem, in the words of the request. Assumes nothing.
use Rattle.std.specs.Prelude.{◌≡◌, refl, ◌↔◌, ◌≢◌, List, get_or}
use Rattle.std.proofs.Common.{sym, ap, ap₂, ◌∙◌, arith}
use Rattle.std.proofs.Math.Path.{fun_ext}
use Rattle.std.proofs.Math.Bool.{Bool}
use Prim.Native.Nat.{ℕ, ◌≤◌, ◌<◌, min}
use Rattle.std.proofs.Math.Decide.{dec_lt}
use Rattle.sets.specs.Sets.{bit, Has, bit_le, bit_below, and_in, in_and}
use Rattle.sets.specs.Arrays.{tabulate, at}
use Rattle.sets.specs.Members.{set_of, hasb}
use Rattle.sets.specs.Laws.Sums.{to_n-true, true_of_to_n}
use Rattle.sets.specs.Laws.Tests.{hasb-true, has_hasb}
use Rattle.sets.proofs.Laws.Build.{set_of_lt, set_of-bit}
use Rattle.sets.specs.Laws.Arrays.{at-tabulate, at-past}
use Rattle.roster.specs.declared.Table.{Table}
use Rattle.roster.specs.Limits.{row_limit}
use Rattle.roster.specs.Meaning.{Covers, CrewList, Blocks, Holds, FirstBlocker}
use Rattle.roster.proofs.Laws.Same.{Agree, agree_of_bits}
use Rattle.accounts.specs.declared.Accounts.{Accounts}
use Rattle.accounts.specs.Persons.{first_of, count_of, held_by, rows_of, person, persons, holds, number, merged, people_of}
use Rattle.accounts.specs.Meaning.{accounts_of, Together, PersonCrews, PersonsBlock, PersonsHold, FirstPersonsBlock, row_by_row, Different, Alike}
use Rattle.accounts.proofs.Laws.Numbering as numbering
use Rattle.accounts.proofs.Laws.Holdings as holdings
use Rattle.accounts.proofs.Laws.Numbers as numbers

module _ (a : Accounts) where
  abbrev f : ℕ → ℕ
  f = at a.persons

  -- ---- who is who

  -- "Rows with the same person number are one person", and no others are
  pub same_person : (u v : ℕ) → (person a u ≡ person a v) ↔ (at a.persons u ≡ at a.persons v)
  same_person u v = numbering.same_person f u v

  -- every row's person is one of the table
  pub every_row : (u : ℕ) → u < rows_of a → person a u < persons a
  every_row u l = omega (arith, numbering.person-below f (rows_of a) u l, numbering.count_le f (rows_of a))

  -- every person of the table has a row, and a first one
  pub every_person : (i : ℕ) → i < persons a → (u : ℕ) × (u < rows_of a) × (person a u ≡ i) × ((v : ℕ) → person a v ≡ i → u ≤ v)
  every_person i l =
      let q = numbering.person_some f (rows_of a) i l in (
        q.0,
        q.1,
        q.3,
        λ v e. omega (arith, numbering.leads-true f q.0 q.2, numbering.first_of_least f q.0 v ((same_person v q.0).0 (e ∙ sym q.3))),
      )

  -- "numbered from 0 in the order of their first rows": where u and v are the first rows of their persons, the earlier has the lower number
  pub in_order_lem : (u v : ℕ) → ((w : ℕ) → person a w ≡ person a u → u ≤ w) → ((w : ℕ) → person a w ≡ person a v → v ≤ w)
      → (u < v) ↔ (person a u < person a v)
  in_order_lem u v hu hv = (
    λ l. (numbering.in_order_lem f u v).0 (omega (arith, lead u hu, lead v hv)),
    λ l. let k = (numbering.in_order_lem f u v).1 l in omega (arith, lead u hu, lead v hv),
  )
    where
      lead : (x : ℕ) → ((w : ℕ) → person a w ≡ person a x → x ≤ w) → first_of f x ≡ x
      lead x h = omega (arith, numbering.first_of_le f x, h (first_of f x) (numbering.person-first f x))

  -- persons are never more than rows, so no merged table has too many
  pub persons_few : persons a ≤ row_limit
  persons_few = omega (arith, numbering.count_le f (rows_of a))

  -- ---- what a person holds

  -- no row's person is past the last
  past : (i u : ℕ) → persons a ≤ i → u < rows_of a → person a u ≢ i
  past i u l k e = omega (arith, every_row u k)

  pub at_holdings : (i : ℕ) → at (merged a).holdings i ≡ holds a i
  at_holdings i = go (dec_lt i row_limit)
    where
      go : Dec (i < row_limit) → at (tabulate row_limit (holds a)) i ≡ holds a i
      go (yes l) = at-tabulate row_limit (holds a) i l
      go (no c) =
          at-past row_limit (holds a) i (omega arith)
          ∙ sym (holdings.held-past f (at a.holdings) (rows_of a) i (λ u k. past i u (omega (arith, persons_few)) k))

  -- "one person holding all their permissions": he holds p exactly if one of his rows below the count does
  pub holds_all_his : (i p : ℕ)
      → Has (at (merged a).holdings i) p ↔ ((u : ℕ) × (u < rows_of a) × (person a u ≡ i) × Has (at a.holdings u) p)
  holds_all_his i p =
      let q = holdings.holds_all_his f (at a.holdings) (rows_of a) i p in
      (λ h. q.0 (ap (λ (m : ℕ). bit m p) (sym (at_holdings i)) ∙ h), λ s. ap (λ (m : ℕ). bit m p) (at_holdings i) ∙ q.1 s)

  -- ---- his number

  pub at_numbers : (i : ℕ) → at (people_of a).numbers i ≡ number a i
  at_numbers i = go (dec_lt i row_limit)
    where
      go : Dec (i < row_limit) → at (tabulate row_limit (number a)) i ≡ number a i
      go (yes l) = at-tabulate row_limit (number a) i l
      go (no c) = at-past row_limit (number a) i (omega arith) ∙ sym (numbers.number_past f (rows_of a) i (omega (arith, persons_few)))

  -- the number of a person is that of each of his rows
  pub numbered : (u : ℕ) → u < rows_of a → at (people_of a).numbers (person a u) ≡ at a.persons u
  numbered u l = at_numbers (person a u) ∙ numbers.number_is f (rows_of a) u l

  -- and past the last person there is none
  pub not_numbered : (i : ℕ) → persons a ≤ i → at (people_of a).numbers i ≡ 0
  not_numbered i l = at_numbers i ∙ numbers.number_past f (rows_of a) i l

  -- ---- crews, said of accounts

  -- "together holding all of P" said of a set of persons in the merged table is said of their accounts
  pub covers_together : (P crew : ℕ) → Covers (merged a) P crew ↔ Together a P crew
  covers_together P crew = (there, back)
    where
      there : Covers (merged a) P crew → Together a P crew
      there c p hp =
          let q = c p hp in
          let w = (holds_all_his q.0 p).0 (and_in (at (merged a).holdings q.0) P p q.2).0 in
          (w.0, w.1, ap (bit crew) w.2 ∙ q.1, w.3)

      back : Together a P crew → Covers (merged a) P crew
      back t p hp =
          let q = t p hp in (
            person a q.0,
            q.2,
            in_and (at (merged a).holdings (person a q.0)) P p ((holds_all_his (person a q.0) p).1 (q.0, q.1, refl, q.3)) hp,
          )

  -- so crew lists of the merged table are crew lists of persons
  pub crews_of_persons : (P d t ed A : ℕ) (crews : List ℕ) → CrewList (merged a) P d t ed A crews ↔ PersonCrews a P d t ed A crews
  crews_of_persons P d t ed A crews = (
    λ k. record {
      many = k.many;
      are = k.rows;
      disjoint = k.disjoint;
      present = k.present;
      small = k.small;
      enough = k.enough;
      whole = λ j l. (covers_together P (get_or crews j 0)).0 (k.whole j l);
    },
    λ k. record {
      many = k.many;
      rows = k.are;
      disjoint = k.disjoint;
      present = k.present;
      small = k.small;
      enough = k.enough;
      whole = λ j l. (covers_together P (get_or crews j 0)).1 (k.whole j l);
    },
  )

  pub blocks_of_persons : (P d t ed A : ℕ) → Blocks (merged a) P d t ed A ↔ PersonsBlock a P d t ed A
  blocks_of_persons P d t ed A = (
    λ b crews c. b crews ((crews_of_persons P d t ed A crews).1 c),
    λ b crews c. b crews ((crews_of_persons P d t ed A crews).0 c),
  )

  -- what holds of the merged table holds of persons
  pub holds_of_persons : (P s d t ed : ℕ) → Holds (merged a) P s d t ed ↔ PersonsHold a P s d t ed
  holds_of_persons P s d t ed = (
    λ h A wide few b. h A (record { rows = wide; few = few }) ((blocks_of_persons P d t ed A).1 b),
    λ h A k b. h A k.rows k.few ((blocks_of_persons P d t ed A).0 b),
  )

  -- and its first blocker is the first of persons
  pub first_of_persons : (P s d t ed A : ℕ) → FirstBlocker (merged a) P s d t ed A → FirstPersonsBlock a P s d t ed A
  first_of_persons P s d t ed A f = record {
    rows = f.rows;
    is = (f.is.0, (blocks_of_persons P d t ed A).0 f.is.1);
    first = λ B wide q. f.first B wide (q.0, (blocks_of_persons P d t ed B).1 q.1);
  }

  -- the set of their accounts, as a set of rows
  pub accounts_has : (crew u : ℕ) → Has (accounts_of a crew) u ↔ ((u < rows_of a) × Has crew (person a u))
  unfolding accounts_of
  accounts_has crew u = (there, λ q. set_of-bit (rows_of a) mine u q.0 ∙ to_n-true (mine u) (has_hasb crew (person a u) q.1))
    where
      mine : ℕ → Bool
      mine v = hasb crew (person a v)

      there : Has (set_of (rows_of a) mine) u → (u < rows_of a) × Has crew (person a u)
      there h =
          let l : u < rows_of a = bit_below (set_of (rows_of a) mine) (rows_of a) u (set_of_lt (rows_of a) mine) h in
          (l, hasb-true crew (person a u) (true_of_to_n (mine u) (sym (set_of-bit (rows_of a) mine u l) ∙ h)))

  -- the persons cover P in the merged table exactly if their accounts do in the table of the rows
  pub covers_by_accounts : (P crew : ℕ) → Covers (merged a) P crew ↔ Covers (row_by_row a) P (accounts_of a crew)
  covers_by_accounts P crew =
      (λ c. there ((covers_together P crew).0 c), λ c. (covers_together P crew).1 (back c))
    where
      there : Together a P crew → Covers (row_by_row a) P (accounts_of a crew)
      there t p hp = let q = t p hp in (q.0, (accounts_has crew q.0).1 (q.1, q.2), in_and (at a.holdings q.0) P p q.3 hp)

      back : Covers (row_by_row a) P (accounts_of a crew) → Together a P crew
      back c p hp =
          let q = c p hp in
          let w = (accounts_has crew q.0).0 q.1 in
          (q.0, w.0, w.1, (and_in (at a.holdings q.0) P p q.2).0)

  -- ---- every row its own person

  module _ (different : Different a) where
    pub own-person : (u : ℕ) → u < rows_of a → person a u ≡ u
    own-person u l = numbering.person-own f (rows_of a) different u l

    pub own-persons : persons a ≡ rows_of a
    own-persons = numbering.count_own f (rows_of a) different (rows_of a) (omega arith)

    own-holds : (u p : ℕ) → u < rows_of a → bit (at (merged a).holdings u) p ≡ bit (at a.holdings u) p
    own-holds u p l = go (dec_lt (bit (at a.holdings u) p) 1) (dec_lt (bit (at (merged a).holdings u) p) 1)
      where
        go : Dec (bit (at a.holdings u) p < 1) → Dec (bit (at (merged a).holdings u) p < 1)
            → bit (at (merged a).holdings u) p ≡ bit (at a.holdings u) p
        go (yes x) (yes y) = omega arith
        go (yes x) (no y) =
            let q = (holds_all_his u p).0 (omega (arith, bit_le (at (merged a).holdings u) p)) in
            let e : q.0 ≡ u = sym (own-person q.0 q.1) ∙ q.2 in
            absurd (omega (arith, q.3, ap (λ (v : ℕ). bit (at a.holdings v) p) e))
        go (no x) y =
            let h : Has (at a.holdings u) p = omega (arith, bit_le (at a.holdings u) p) in
            (holds_all_his u p).1 (u, l, own-person u l, h) ∙ sym h

    -- the merged table is that of the rows, so every reply is that of before
    pub own_table : (P : ℕ) → a.rows ≤ row_limit → Agree (merged a) (row_by_row a) P
    own_table P few =
        agree_of_bits (merged a) (row_by_row a) P (omega (arith, own-persons)) (λ u p l h. own-holds u p (omega (arith, own-persons)))

    -- and each number stands where it stood
    pub own-number : (u : ℕ) → u < rows_of a → at (people_of a).numbers u ≡ at a.persons u
    own-number u l = ap (at (people_of a).numbers) (sym (own-person u l)) ∙ numbered u l

  -- numbers that ascend, as the staff numbers of a book do, are different
  pub ascending_different : ((u v : ℕ) → u < v → v < rows_of a → at a.persons u < at a.persons v) → Different a
  ascending_different up u v lu lv e = go (dec_lt u v) (dec_lt v u)
    where
      go : Dec (u < v) → Dec (v < u) → u ≡ v
      go (yes l) q = absurd (omega (arith, up u v l lv))
      go (no p) (yes l) = absurd (omega (arith, up v u l lu))
      go (no p) (no q) = omega arith

-- ---- the numbers themselves do not matter

module _ (a b : Accounts) (alike : Alike a b) where
  same_rows : rows_of a ≡ rows_of b
  same_rows = ap (λ (n : ℕ). min n row_limit) alike.count

  -- each row's person is the same
  pub renamed_person : (u : ℕ) → u < rows_of a → person a u ≡ person b u
  renamed_person u l = numbering.person_alike (at a.persons) (at b.persons) (rows_of a) alike.share u l

  -- and the merged table is
  pub renamed : merged a ≡ merged b
  renamed = ap₂ {C = Table} (λ (h : List ℕ) (n : ℕ). record { holdings = h; rows = n }) (ap (tabulate row_limit) (fun_ext hold)) count
    where
      count : persons a ≡ persons b
      count =
          numbering.count_alike (at a.persons) (at b.persons) (rows_of a) alike.share (rows_of a) (omega arith)
          ∙ ap (count_of (at b.persons)) same_rows

      hold : (i : ℕ) → holds a i ≡ holds b i
      hold i =
          holdings.held_ext (at a.persons) (at b.persons) (at a.holdings) (at b.holdings) (rows_of a) i renamed_person alike.hold
          ∙ ap (λ (n : ℕ). held_by (at b.persons) (at b.holdings) n i) same_rows
