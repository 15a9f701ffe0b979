-- Sets of persons and sets of accounts: `accounts_of` turns the one into the other, and nothing is lost. Which sets are disjoint, how many persons
-- they have, and whether they cover P can be read off the accounts alone. Assumes nothing.
use Rattle.std.specs.Prelude.{◌≡◌, List, map, ◌↔◌, ◌≢◌, ℕ, ◌*◌, ◌^◌, ◌≤◌, ◌<◌, get_or}
use Rattle.std.proofs.Math.Path.{sym, ap}
use Rattle.std.proofs.Common.{◌∙◌, subst, inl, arith, pow_pos}
use Rattle.std.proofs.Math.Decide.{ℕ_discrete, dec_le}
use Rattle.std.specs.Int.Count.{ones}
use Rattle.std.proofs.lemmas.List.{length-map}
use Rattle.std.proofs.Math.ListN.{get_or-map}
use Rattle.sets.specs.Sets.{bit, Has, Apart, bit_le, bit-none, bit_below, ext, ext_all}
use Rattle.sets.proofs.Sets.{apart_of_has, has_of_apart}
use Rattle.sets.specs.Sums.{to_n}
use Rattle.sets.specs.Laws.Sums.{sum_ext}
use Rattle.sets.proofs.Laws.Build.{set_of_lt, ones-sum}
use Rattle.sets.proofs.Laws.Image.{image, image_has, has_image, image_lt}
use Rattle.sets.specs.Members.{hasb}
use Rattle.accounts.specs.declared.Accounts.{Accounts}
use Rattle.sets.specs.Arrays.{at}
use Rattle.accounts.specs.Persons.{leads, rows_of, person, persons}
use Rattle.accounts.specs.Meaning.{accounts_of, PersonCrews, PersonsBlock, PersonsHold, FirstPersonsBlock, ByPerson, heads_in, AccountSet, AccountCrews, AccountsBlock, AccountsHold, SmallestBlock}
use Rattle.accounts.proofs.Laws.Numbering.{over-persons}
use Rattle.accounts.proofs.Laws.Merged.{same_person, every_row, every_person, accounts_has}

module _ (a : Accounts) where
  pub accounts_lt : (crew : ℕ) → accounts_of a crew < 2 ^ rows_of a
  unfolding accounts_of
  accounts_lt crew = set_of_lt (rows_of a) (λ u. hasb crew (person a u))

  -- they have all accounts of each
  pub accounts_by_person : (crew : ℕ) → ByPerson a (accounts_of a crew)
  accounts_by_person crew u v l e h =
      let q = (accounts_has a crew u).0 h in
      (accounts_has a crew v).1 (l, ap (bit crew) (sym ((same_person a u v).1 e)) ∙ q.1)

  -- a row below the count is one of them exactly if its person is
  pub accounts_bit : (crew u : ℕ) → u < rows_of a → bit (accounts_of a crew) u ≡ bit crew (person a u)
  accounts_bit crew u l = go (ℕ_discrete (bit (accounts_of a crew) u) 1) (ℕ_discrete (bit crew (person a u)) 1)
    where
      go : Dec (bit (accounts_of a crew) u ≡ 1) → Dec (bit crew (person a u) ≡ 1) → bit (accounts_of a crew) u ≡ bit crew (person a u)
      go (yes h) q = h ∙ sym ((accounts_has a crew u).0 h).1
      go (no n) (yes h) = absurd (n ((accounts_has a crew u).1 (l, h)))
      go (no n) (no m) = omega (arith, bit_le (accounts_of a crew) u, bit_le crew (person a u))

  -- sets of persons are disjoint exactly if their accounts are
  pub accounts_apart : (crew other : ℕ) → crew < 2 ^ persons a → Apart crew other ↔ Apart (accounts_of a crew) (accounts_of a other)
  accounts_apart crew other wide = (
    λ h. apart_of_has (accounts_of a crew) (accounts_of a other) (λ u p q.
        has_of_apart crew other h (person a u) ((accounts_has a crew u).0 p).1 ((accounts_has a other u).0 q).1),
    λ h. apart_of_has crew other (λ i p q. clash h i p q (every_person a i (bit_below crew (persons a) i wide p))),
  )
    where
      clash : Apart (accounts_of a crew) (accounts_of a other) → (i : ℕ) → Has crew i → Has other i
          → (u : ℕ) × (u < rows_of a) × (person a u ≡ i) × ((v : ℕ) → person a v ≡ i → u ≤ v) → ⊥
      clash h i p q (u, l, e, w) =
          has_of_apart (accounts_of a crew) (accounts_of a other) h u ((accounts_has a crew u).1 (l, ap (bit crew) e ∙ p)) ((accounts_has a other u).1 (l, ap (bit other) e ∙ q))

  -- as many persons as first rows among their accounts
  pub accounts_heads : (crew : ℕ) → crew < 2 ^ persons a → ones crew ≡ heads_in a (accounts_of a crew)
  unfolding heads_in
  accounts_heads crew wide =
      ones-sum (persons a) crew wide
      ∙ sym (over-persons (at a.persons) (rows_of a) (bit crew))
      ∙ sum_ext (rows_of a) (λ u. to_n (leads (at a.persons) u) * bit crew (person a u)) (λ u. to_n (leads (at a.persons) u) * bit (accounts_of a crew) u)
      (λ u l. ap (λ (x : ℕ). to_n (leads (at a.persons) u) * x) (sym (accounts_bit crew u l)))

  -- the persons of a set of rows
  abbrev pub persons_of : ℕ → ℕ
  persons_of set = image (person a) (rows_of a) set

  pub persons_lt : (set : ℕ) → persons_of set < 2 ^ persons a
  persons_lt set = image_lt (person a) (persons a) (rows_of a) set (every_row a)

  -- every set of rows that has all accounts of whoever it has one of is the set of accounts of its persons
  pub by_person_accounts : (set : ℕ) → set < 2 ^ rows_of a → ByPerson a set → accounts_of a (persons_of set) ≡ set
  by_person_accounts set wide whole = ext (rows_of a) (accounts_of a (persons_of set)) set (accounts_lt (persons_of set)) wide (λ u l. same u l (ℕ_discrete (bit set u) 1))
    where
      there : (u : ℕ) → u < rows_of a → Has (persons_of set) (person a u) → Has set u
      there u l h =
          let q = has_image (person a) (rows_of a) set (person a u) h in
          whole q.0 u l ((same_person a q.0 u).0 q.3) q.2

      out : (u : ℕ) → u < rows_of a → bit set u ≢ 1 → Dec (bit (persons_of set) (person a u) ≡ 1) → bit (persons_of set) (person a u) ≡ bit set u
      out u l n (yes h) = absurd (n (there u l h))
      out u l n (no m) = omega (arith, bit_le set u, bit_le (persons_of set) (person a u))

      same : (u : ℕ) → u < rows_of a → Dec (bit set u ≡ 1) → bit (accounts_of a (persons_of set)) u ≡ bit set u
      same u l (yes h) = accounts_bit (persons_of set) u l ∙ image_has (person a) (rows_of a) set u l h ∙ sym h
      same u l (no n) = accounts_bit (persons_of set) u l ∙ out u l n (ℕ_discrete (bit (persons_of set) (person a u)) 1)

  -- and the persons of the accounts of some persons are these
  pub persons_accounts : (crew : ℕ) → crew < 2 ^ persons a → persons_of (accounts_of a crew) ≡ crew
  persons_accounts crew wide = ext (persons a) (persons_of (accounts_of a crew)) crew (persons_lt (accounts_of a crew)) wide (λ i l. same i (every_person a i l))
    where
      same : (i : ℕ) → (u : ℕ) × (u < rows_of a) × (person a u ≡ i) × ((v : ℕ) → person a v ≡ i → u ≤ v) → bit (persons_of (accounts_of a crew)) i ≡ bit crew i
      same i (u, l, e, w) = go (ℕ_discrete (bit crew i) 1) (ℕ_discrete (bit (persons_of (accounts_of a crew)) i) 1)
        where
          go : Dec (bit crew i ≡ 1) → Dec (bit (persons_of (accounts_of a crew)) i ≡ 1) → bit (persons_of (accounts_of a crew)) i ≡ bit crew i
          go (yes h) q =
              ap (bit (persons_of (accounts_of a crew))) (sym e)
              ∙ image_has (person a) (rows_of a) (accounts_of a crew) u l ((accounts_has a crew u).1 (l, ap (bit crew) e ∙ h))
              ∙ sym h
          go (no n) (yes h) =
              let q = has_image (person a) (rows_of a) (accounts_of a crew) i h in
              absurd (n (ap (bit crew) (sym q.3) ∙ ((accounts_has a crew q.0).0 q.2).1))
          go (no n) (no m) = omega (arith, bit_le crew i, bit_le (persons_of (accounts_of a crew)) i)

  -- ---- the policy, said of accounts alone

  pub nobody : accounts_of a 0 ≡ 0
  nobody = ext_all (accounts_of a 0) 0 (λ u. go u (ℕ_discrete (bit (accounts_of a 0) u) 1))
    where
      go : (u : ℕ) → Dec (bit (accounts_of a 0) u ≡ 1) → bit (accounts_of a 0) u ≡ bit 0 u
      go u (yes h) = absurd (omega (arith, ((accounts_has a 0 u).0 h).1, bit-none (person a u)))
      go u (no n) = omega (arith, bit_le (accounts_of a 0) u, bit-none u)

  at_map : (g : ℕ → ℕ) → g 0 ≡ 0 → (l : List ℕ) (j : ℕ) → get_or (map g l) j 0 ≡ g (get_or l j 0)
  at_map g e l j = ap (get_or (map g l) j) (sym e) ∙ get_or-map g l j 0

  accounts_at_lem : (l : List ℕ) (j : ℕ) → get_or (map (accounts_of a) l) j 0 ≡ accounts_of a (get_or l j 0)
  accounts_at_lem = at_map (accounts_of a) nobody

  persons-at : (l : List ℕ) (j : ℕ) → get_or (map persons_of l) j 0 ≡ persons_of (get_or l j 0)
  persons-at = at_map persons_of (ap persons_of (sym nobody) ∙ persons_accounts 0 (pow_pos (persons a)))

  -- a set of persons is a set of accounts of as many
  pub account_set : (most crew : ℕ) → crew < 2 ^ persons a → ones crew ≤ most → AccountSet a most (accounts_of a crew)
  account_set most crew wide few = record { rows = accounts_lt crew; by_person = accounts_by_person crew; few = omega (arith, accounts_heads crew wide) }

  -- and the other way
  pub person-set : (most set : ℕ) → AccountSet a most set → (accounts_of a (persons_of set) ≡ set) × (ones (persons_of set) ≡ heads_in a set)
  person-set most set k =
      let e = by_person_accounts set k.rows k.by_person in
      (e, accounts_heads (persons_of set) (persons_lt set) ∙ ap (heads_in a) e)

  -- crews of persons give crews of accounts
  pub to_accounts : (P d t ed A : ℕ) (crews : List ℕ) → PersonCrews a P d t ed A crews → AccountCrews a P d t ed (accounts_of a A) (map (accounts_of a) crews)
  to_accounts P d t ed A crews k = record {
    many = length-map crews (accounts_of a) ∙ k.many;
    small = λ j l. subst (AccountSet a t) (sym (accounts_at_lem crews j)) (account_set t (get_or crews j 0) (k.are j l) (k.small j l));
    enough = λ j l. rw (accounts_at_lem crews j) (omega (arith, accounts_heads (get_or crews j 0) (k.are j l), k.enough j l));
    disjoint = λ i j li lj n.
        subst (λ (x : ℕ). Apart x (get_or (map (accounts_of a) crews) j 0)) (sym (accounts_at_lem crews i))
        (subst (Apart (accounts_of a (get_or crews i 0))) (sym (accounts_at_lem crews j))
        ((accounts_apart (get_or crews i 0) (get_or crews j 0) (k.are i li)).0 (k.disjoint i j li lj n)));
    present = λ j l.
        subst (λ (x : ℕ). Apart x (accounts_of a A)) (sym (accounts_at_lem crews j)) ((accounts_apart (get_or crews j 0) A (k.are j l)).0 (k.present j l));
    whole = λ j l p hp.
        let q = k.whole j l p hp in
        (q.0, subst (λ (x : ℕ). Has x q.0) (sym (accounts_at_lem crews j)) ((accounts_has a (get_or crews j 0) q.0).1 (q.1, q.2)), q.3);
  }

  -- and the other way
  pub to_persons : (P d t ed A : ℕ) (crews : List ℕ) → AccountCrews a P d t ed (accounts_of a A) crews → PersonCrews a P d t ed A (map persons_of crews)
  to_persons P d t ed A crews k = record {
    many = length-map crews persons_of ∙ k.many;
    are = λ j l. rw (persons-at crews j) (persons_lt (get_or crews j 0));
    disjoint = λ i j li lj n.
        subst (λ (x : ℕ). Apart x (get_or (map persons_of crews) j 0)) (sym (persons-at crews i))
        (subst (Apart (persons_of (get_or crews i 0))) (sym (persons-at crews j))
        ((accounts_apart (persons_of (get_or crews i 0)) (persons_of (get_or crews j 0)) (persons_lt (get_or crews i 0))).1
        (subst (λ (x : ℕ). Apart x (accounts_of a (persons_of (get_or crews j 0)))) (sym (back i li))
        (subst (Apart (get_or crews i 0)) (sym (back j lj)) (k.disjoint i j li lj n)))));
    present = λ j l.
        subst (λ (x : ℕ). Apart x A) (sym (persons-at crews j))
        ((accounts_apart (persons_of (get_or crews j 0)) A (persons_lt (get_or crews j 0))).1
        (subst (λ (x : ℕ). Apart x (accounts_of a A)) (sym (back j l)) (k.present j l)));
    small = λ j l. rw (persons-at crews j) (omega (arith, (person-set t (get_or crews j 0) (k.small j l)).1, (k.small j l).few));
    enough = λ j l. rw (persons-at crews j) (omega (arith, (person-set t (get_or crews j 0) (k.small j l)).1, k.enough j l));
    whole = λ j l p hp.
        let q = k.whole j l p hp in
        let w = (accounts_has a (persons_of (get_or crews j 0)) q.0).0 (subst (λ (x : ℕ). Has x q.0) (sym (back j l)) q.1) in
        (q.0, w.0, subst (λ (x : ℕ). Has x (person a q.0)) (sym (persons-at crews j)) w.1, q.2);
  }
    where
      back : (j : ℕ) → j < d → accounts_of a (persons_of (get_or crews j 0)) ≡ get_or crews j 0
      back j l = (person-set t (get_or crews j 0) (k.small j l)).0

  -- persons block exactly if their accounts do
  pub accounts_block : (P d t ed A : ℕ) → PersonsBlock a P d t ed A ↔ AccountsBlock a P d t ed (accounts_of a A)
  accounts_block P d t ed A = (
    λ h crews c. h (map persons_of crews) (to_persons P d t ed A crews c),
    λ h crews c. h (map (accounts_of a) crews) (to_accounts P d t ed A crews c),
  )

  -- accounts block exactly if their persons do
  persons_block : (P d t ed most set : ℕ) → AccountSet a most set → AccountsBlock a P d t ed set → PersonsBlock a P d t ed (persons_of set)
  persons_block P d t ed most set k b = (accounts_block P d t ed (persons_of set)).1 (subst (AccountsBlock a P d t ed) (sym (person-set most set k).0) b)

  pub accounts_hold : (P s d t ed : ℕ) → PersonsHold a P s d t ed ↔ AccountsHold a P s d t ed
  accounts_hold P s d t ed = (
    λ h away k b. h (persons_of away) (persons_lt away) (omega (arith, (person-set s away k).1, k.few)) (persons_block P d t ed s away k b),
    λ h A wide few b. h (accounts_of a A) (account_set s A wide few) ((accounts_block P d t ed A).0 b),
  )

  -- the first set of persons that blocks is one of a smallest: a set of fewer persons would come before it
  pub first_smallest : (P s d t ed A : ℕ) → FirstPersonsBlock a P s d t ed A → SmallestBlock a P s d t ed (accounts_of a A)
  first_smallest P s d t ed A first = record {
    is = account_set s A first.rows first.is.0;
    blocks = (accounts_block P d t ed A).0 first.is.1;
    smallest = λ other k b. go other k b (dec_le (heads_in a (accounts_of a A)) (heads_in a other));
  }
    where
      go : (other : ℕ) → AccountSet a s other → AccountsBlock a P d t ed other → Dec (heads_in a (accounts_of a A) ≤ heads_in a other)
          → heads_in a (accounts_of a A) ≤ heads_in a other
      go other k b (yes l) = l
      go other k b (no n) =
          let e = (person-set s other k).1 in
          absurd (first.first (persons_of other) (persons_lt other) (omega (arith, k.few), persons_block P d t ed s other k b)
          (inl (omega (arith, accounts_heads A first.rows))))
