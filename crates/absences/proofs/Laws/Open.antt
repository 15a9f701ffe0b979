-- The list of absences goes by the open ranks: a rank that is not open adds nothing, one that is open joins, too few open ranks give the empty
-- list, and enough of them do not. The idea: whoever outweighs the row of a rank that is open at r is of a rank below r and taken, or of one that
-- is open itself; so a rank that is closed closes nothing that was not closed already. Assumes nothing.
use Rattle.std.specs.Prelude.{◌≡◌, ◌⊎◌, ◌≢◌, ◌↔◌, true, false, List, [], ◌∷◌, ◌++◌, ℕ, zero, suc, ◌+◌, ◌-◌, ◌^◌, ◌≤◌, ◌<◌, T}
use Rattle.std.proofs.Common.{sym, ap, ap₂, ◌∙◌, subst, inl, inr, ⊎_elim, arith}
use Rattle.std.proofs.Math.Decide.{dec_lt, ℕ_discrete}
use Rattle.std.specs.Int.Bits.{bit_xor}
use Rattle.std.specs.Int.Count.{ones}
use Rattle.std.proofs.Math.Pow.{ones_lt}
use Rattle.sets.specs.Sets.{bit, Has, bit_le, bit-none, bit-full, bit_high, with, missing, bit-missing, missing-sub, missing_in, some_member}
use Rattle.sets.proofs.Sets.{bit-with_same, bit-with_other, ones-sub, bit-drop_same, bit-drop_other, ones-drop, ones_none}
use Rattle.sets.specs.Laws.Sums.{either, to_n_yes, true_of_to_n}
use Rattle.sets.proofs.Laws.Build.{set_of-bit}
use Rattle.roster.specs.declared.Table.{Table}
use Rattle.roster.specs.Meaning.{outweighsb, rank}
use Rattle.roster.proofs.Laws.Rank.{rank_inj, outweighs_iff, outweighs_trans}
use Rattle.absences.specs.declared.Way.{Way}
use Rattle.absences.specs.declared.Way.TheVariants.{Full, Skipping}
use Rattle.absences.specs.Tried.{row_at, joins, listed}
use Rattle.absences.specs.Inner.Opens.{Must, Unbarred, Opens, outweighed_at}
use Rattle.absences.proofs.Laws.Rows.{row_at_lt, rank_row_at, must_rank, joins_iff}
use Rattle.absences.proofs.Laws.OneSize.{listed-joins, listed_not, none_more, none_left}

must_trans : (way : Way) (table : Table) (P u v w : ℕ) → Must way table P u v → Must way table P v w → Must way table P u w
must_trans Full table P u v w m q = absurd m
must_trans Skipping table P u v w m q = outweighs_trans table P u v w m q

-- the row of rank r closes the ranks whose rows it has to be absent with, and no others
pub outweighed_iff : (way : Way) (table : Table) (P r i : ℕ) → i < table.rows
    → Has (outweighed_at way table P r) i ↔ Must way table P (row_at table P r) (row_at table P i)
outweighed_iff Full table P r i l = (λ h. omega (arith, bit-none i), λ m. absurd m)
outweighed_iff Skipping table P r i l =
    let here = set_of-bit table.rows (λ j. outweighsb table P (row_at table P r) (row_at table P j)) i l in (
      λ h. (outweighs_iff table P (row_at table P r) (row_at table P i)).1 (subst T (sym (true_of_to_n _ (sym here ∙ h))) tt),
      λ m. here ∙ to_n_yes _ ((outweighs_iff table P (row_at table P r) (row_at table P i)).0 m),
    )

module _ (way : Way) (table : Table) (P : ℕ) where
  abbrev n : ℕ
  n = table.rows

  abbrev row : ℕ → ℕ
  row = row_at table P

  abbrev Open : ℕ → ℕ → ℕ → Type 0
  Open = Opens way table P

  -- from nobody on every rank is open
  pub all_open : Open 0 0 (2 ^ n - 1)
  all_open = record {
    within = omega arith;
    taken = λ u h. absurd (omega (arith, bit-none u));
    later = λ i h. (omega arith, inside i h (dec_lt i n));
    free = λ i h u lu k m. absurd (omega arith);
    all = λ i k l f. bit-full n i l;
  }
    where
      inside : (i : ℕ) → Has (2 ^ n - 1) i → Dec (i < n) → i < n
      inside i h (yes l) = l
      inside i h (no l) = absurd (omega (arith, bit_high (2 ^ n - 1) n i (ones_lt n) (omega arith)))

  module _ (r F ranks : ℕ) (l : r < n) (o : Open r F ranks) where
    -- a rank below r + 1 is below r, or r
    next : (u : ℕ) → u < n → rank table P u < suc r → (rank table P u < r) ⊎ (row r ≡ u)
    next u lu k = go (ℕ_discrete (rank table P u) r)
      where
        go : Dec (rank table P u ≡ r) → (rank table P u < r) ⊎ (row r ≡ u)
        go (yes e) = inr (rank_inj table P (row r) u (row_at_lt table P r l) lu (rank_row_at table P r l ∙ sym e))
        go (no ne) = inl (omega arith)

    -- the row of rank r is not taken yet
    new : (u : ℕ) → rank table P u < r → row r ≢ u
    new u k e = omega (arith, ap (rank table P) e, rank_row_at table P r l)

    untaken : Has F (row r) → ⊥
    untaken h = omega (arith, o.taken (row r) h, rank_row_at table P r l)

    -- an open rank joins
    pub open_joins : Has ranks r → joins way table P F (row r) ≡ true
    open_joins h =
        (joins_iff way table P F (row r)).1 (λ u lu m.
        o.free r h u lu (omega (arith, must_rank way table P u (row r) lu m, rank_row_at table P r l)) m)

    -- one that is not open does not
    pub closed_not : bit ranks r ≡ 0 → joins way table P F (row r) ≡ false
    closed_not z =
        ⊎_elim
        (λ t. absurd (omega (arith, o.all r (omega arith) l (λ u lu k m. (joins_iff way table P F (row r)).0 t u lu m))))
        (λ f. f)
        (either (joins way table P F (row r)))

    -- ---- what is open after rank r

    -- it is not open
    pub skip_opens : bit ranks r ≡ 0 → Open (suc r) F ranks
    skip_opens z = record {
      within = omega arith;
      taken = λ u h. omega (arith, o.taken u h);
      later = λ i h. (past i h (ℕ_discrete r i), (o.later i h).1);
      free = λ i h u lu k m.
          ⊎_elim
          (λ q. o.free i h u lu q m)
          (λ e. absurd (omega (
            arith,
            z,
            o.all r (omega arith) l (λ w lw q p. o.free i h w lw q (must_trans way table P w (row r) (row i) p (subst (λ (x : ℕ). Must way table P x (row i)) (sym e) m))),
          )))
          (next u lu k);
      all = λ i k li f. o.all i (omega arith) li (λ u lu q m. f u lu (omega arith) m);
    }
      where
        past : (i : ℕ) → Has ranks i → Dec (r ≡ i) → suc r ≤ i
        past i h (yes e) = absurd (omega (arith, z, ap (bit ranks) e))
        past i h (no ne) = omega (arith, (o.later i h).0)

    abbrev others : ℕ
    others = bit_xor ranks (2 ^ r)

    module _ (h : Has ranks r) where
      -- the other open ranks are ranks after r
      other : (i : ℕ) → Has others i → (r ≢ i) × Has ranks i
      other i g = go (ℕ_discrete r i)
        where
          go : Dec (r ≡ i) → (r ≢ i) × Has ranks i
          go (yes e) = absurd (omega (arith, bit-drop_same ranks r h, ap (bit others) e))
          go (no ne) = (ne, sym (bit-drop_other ranks r i ne) ∙ g)

      back : (i : ℕ) → r ≢ i → Has ranks i → Has others i
      back i ne g = bit-drop_other ranks r i ne ∙ g

      -- its row is taken
      pub take_opens : Open (suc r) (with F (row r)) others
      take_opens = record {
        within = omega arith;
        taken = λ u g. member u g (ℕ_discrete (row r) u);
        later = λ i g. let q = other i g in (omega (arith, q.0, (o.later i q.1).0), (o.later i q.1).1);
        free = λ i g u lu k m.
            ⊎_elim
            (λ q. bit-with_other F (row r) u (new u q) ∙ o.free i (other i g).1 u lu q m)
            (λ e. subst (λ (x : ℕ). Has (with F (row r)) x) e (bit-with_same F (row r)))
            (next u lu k);
        all = λ i k li f.
            back i (λ e. omega arith) (o.all i (omega arith) li (λ u lu q m. sym (bit-with_other F (row r) u (new u q)) ∙ f u lu (omega arith) m));
      }
        where
          member : (u : ℕ) → Has (with F (row r)) u → Dec (row r ≡ u) → rank table P u < suc r
          member u g (yes e) = omega (arith, ap (rank table P) e, rank_row_at table P r l)
          member u g (no ne) = omega (arith, o.taken u (sym (bit-with_other F (row r) u ne) ∙ g))

      -- it is passed over: what it outweighs is closed
      pub pass_opens : Open (suc r) F (missing others (outweighed_at way table P r))
      pass_opens = record {
        within = omega arith;
        taken = λ u g. omega (arith, o.taken u g);
        later = λ i g. let q = other i (both i g).0 in (omega (arith, q.0, (o.later i q.1).0), (o.later i q.1).1);
        free = λ i g u lu k m.
            let q = (other i (both i g).0).1 in
            ⊎_elim
            (λ p. o.free i q u lu p m)
            (λ e. absurd (omega (arith, (both i g).1, (outweighed_iff way table P r i (o.later i q).1).1 (subst (λ (x : ℕ). Must way table P x (row i)) (sym e) m))))
            (next u lu k);
        all = λ i k li f.
            omega (
              arith,
              bit-missing others outweighed i,
              back i (λ e. omega arith) (o.all i (omega arith) li (λ u lu q m. f u lu (omega arith) m)),
              outside i li f (ℕ_discrete (bit outweighed i) 1),
            );
      }
        where
          outweighed : ℕ
          outweighed = outweighed_at way table P r

          both : (i : ℕ) → Has (missing others outweighed) i → Has others i × (bit outweighed i ≡ 0)
          both i g = missing_in others outweighed i g

          outside : (i : ℕ) → i < n → Unbarred way table P (suc r) F i → Dec (Has outweighed i) → bit outweighed i ≡ 0
          outside i li f (yes b) =
              absurd (untaken (f (row r) (row_at_lt table P r l) (omega (arith, rank_row_at table P r l)) ((outweighed_iff way table P r i li).0 b)))
          outside i li f (no b) = omega (arith, bit_le outweighed i)

  -- ---- the list

  abbrev list : ℕ → ℕ → ℕ → ℕ → List ℕ
  list = listed way table P

  -- a rank that is not open adds nothing
  pub listed_closed : (m k r F ranks : ℕ) → r < n → Open r F ranks → bit ranks r ≡ 0 → list (suc m) (suc k) r F ≡ list m (suc k) (suc r) F
  listed_closed m k r F ranks l o z = listed_not way table P m k r F (closed_not r F ranks l o z)

  -- the absences with the row of an open rank come first, and then those without it
  pub listed_open : (m k r F ranks : ℕ) → r < n → Open r F ranks → Has ranks r
      → list (suc m) (suc k) r F ≡ list m k (suc r) (with F (row r)) ++ list m (suc k) (suc r) F
  listed_open m k r F ranks l o h = listed-joins way table P m k r F (open_joins r F ranks l o h)

  -- so nothing comes before the first open rank
  pub listed_to : (d k r j F ranks : ℕ) → d + r ≡ j → j < n → Open r F ranks → ((i : ℕ) → i < j → bit ranks i ≡ 0)
      → (list (n - r) (suc k) r F ≡ list (n - j) (suc k) j F) × Open j F ranks
  listed_to zero k r j F ranks e l o z =
      let same : r ≡ j = omega arith in
      (ap (λ (x : ℕ). list (n - x) (suc k) x F) same, subst (λ (x : ℕ). Open x F ranks) same o)
  listed_to (suc d) k r j F ranks e l o z =
      let here : bit ranks r ≡ 0 = z r (omega arith) in
      let inside : r < n = omega arith in
      let m : n - r ≡ suc (n - suc r) = omega arith in
      let ih = listed_to d k (suc r) j F ranks (omega arith) l (skip_opens r F ranks inside o here) z in
      (ap (λ (x : ℕ). list x (suc k) r F) m ∙ listed_closed (n - suc r) k r F ranks inside o here ∙ ih.0, ih.1)

  -- with fewer open ranks than rows wanted there is nothing to try
  pub few_open : (m k r F ranks : ℕ) → m + r ≡ n → Open r F ranks → ones ranks < k → list m k r F ≡ []
  few_open m zero r F ranks e o c = absurd (omega arith)
  few_open zero (suc k) r F ranks e o c = none_left way table P k r F
  few_open (suc m) (suc k) r F ranks e o c =
      go (ℕ_discrete (bit ranks r) 1) (few_open m k (suc r)) (few_open m (suc k) (suc r))
    where
      l : r < n
      l = omega arith

      go : Dec (Has ranks r) → ((G s : ℕ) → m + suc r ≡ n → Open (suc r) G s → ones s < k → list m k (suc r) G ≡ [])
          → ((G s : ℕ) → m + suc r ≡ n → Open (suc r) G s → ones s < suc k → list m (suc k) (suc r) G ≡ [])
          → list (suc m) (suc k) r F ≡ []
      go (yes h) take pass =
          listed_open m k r F ranks l o h
          ∙ ap₂ ◌++◌
          (take (with F (row r)) _ (omega arith) (take_opens r F ranks l o h) (omega (arith, ones-drop ranks r h)))
          (pass F _ (omega arith) (pass_opens r F ranks l o h)
          (omega (arith, ones-drop ranks r h, ones-sub (missing (bit_xor ranks (2 ^ r)) (outweighed_at way table P r)) (bit_xor ranks (2 ^ r)) (missing-sub (bit_xor ranks (2 ^ r)) (outweighed_at way table P r)))))
      go (no z) take pass =
          let out : bit ranks r ≡ 0 = omega (arith, bit_le ranks r) in
          listed_closed m k r F ranks l o out ∙ pass F ranks (omega arith) (skip_opens r F ranks l o out) c

  -- with enough of them there is something: every prefix that the walk enters leads to an absence
  pub enough_open : (m k r F ranks : ℕ) → m + r ≡ n → Open r F ranks → k ≤ ones ranks → (A : ℕ) × (rest : List ℕ) × (list m k r F ≡ A ∷ rest)
  enough_open m zero r F ranks e o c = (F, [], none_more way table P m r F)
  enough_open zero (suc k) r F ranks e o c = absurd (none (some_member ranks (λ z. omega (arith, ap ones z, ones_none))))
    where
      none : (i : ℕ) × Has ranks i → ⊥
      none p = omega (arith, (o.later p.0 p.1).0, (o.later p.0 p.1).1)
  enough_open (suc m) (suc k) r F ranks e o c =
      go (ℕ_discrete (bit ranks r) 1) (enough_open m k (suc r)) (enough_open m (suc k) (suc r))
    where
      l : r < n
      l = omega arith

      go : Dec (Has ranks r)
          → ((G s : ℕ) → m + suc r ≡ n → Open (suc r) G s → k ≤ ones s → (A : ℕ) × (rest : List ℕ) × (list m k (suc r) G ≡ A ∷ rest))
          → ((G s : ℕ) → m + suc r ≡ n → Open (suc r) G s → suc k ≤ ones s → (A : ℕ) × (rest : List ℕ) × (list m (suc k) (suc r) G ≡ A ∷ rest))
          → (A : ℕ) × (rest : List ℕ) × (list (suc m) (suc k) r F ≡ A ∷ rest)
      go (yes h) take pass =
          let q = take (with F (row r)) _ (omega arith) (take_opens r F ranks l o h) (omega (arith, ones-drop ranks r h)) in
          (q.0, q.1 ++ list m (suc k) (suc r) F, listed_open m k r F ranks l o h ∙ ap (λ (x : List ℕ). x ++ list m (suc k) (suc r) F) q.2)
      go (no z) take pass =
          let out : bit ranks r ≡ 0 = omega (arith, bit_le ranks r) in
          let q = pass F ranks (omega arith) (skip_opens r F ranks l o out) c in
          (q.0, q.1, listed_closed m k r F ranks l o out ∙ q.2)
