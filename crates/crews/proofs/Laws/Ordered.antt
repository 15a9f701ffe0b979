-- Crews in the order of their first rows: the search that begins a crew only with a higher row than the crew before comes to the same list as
-- the one that begins it with any, and makes no more placements. The idea: crews of a list can change places. A row that was tried as a
-- crew's first and led to no list is in no crew of any list that has the crews closed so far; for else that crew, put in this place, would
-- have been found. So the rows below the first row of the crew before lead to nothing, and may be left out. Assumes nothing.
use Rattle.std.specs.Prelude.{◌≡◌, true, false, ◌≢◌, ℕ, zero, suc, ◌+◌, ◌≤◌, ◌<◌, leb, get_or}
use Rattle.std.proofs.Math.Path.{refl}
use Rattle.std.proofs.Common.{sym, ap, ◌∙◌, subst, ⊎_elim, arith, eq-eqb, ne_eqb, leb-true, leb-false}
use mathlib.Core.List.Memᴰ
use mathlib.Core.List.{List, [], ◌∷◌, Memᴰ}
use Rattle.std.proofs.Math.Decide.{dec_lt, ℕ_discrete}
use Rattle.std.specs.Int.Count.{ones}
use Rattle.sets.specs.Sets.{bit, Has, bit_below}
use Rattle.sets.proofs.Sets.{has_of_sub}
use Rattle.sets.specs.Members.{members, filter, Ascends}
use Rattle.sets.specs.Laws.Sums.{either}
use Rattle.sets.proofs.Laws.Members.{has_of_mem, mem_of_has, members_ascend, filter_yes, filter_no, filter_all}
use Rattle.roster.specs.Limits.{row_limit}
use Rattle.crews.specs.declared.Filling.{Filling}
use Rattle.crews.specs.Filling.{Work, Outcome, close_of, placed_of, wanted_of, pool, candidates, try_each, search, begin, plainly, orderly}
use Rattle.crews.proofs.Laws.Search.{ascends_mem, placed_is, from_first, from_next, Candidate, is_candidate, in_pool, Tried, search-done, search_out, search-full, search_open}
use Rattle.crews.proofs.Laws.Sound.{unfinished, state_placed}
use Rattle.crews.proofs.Laws.Complete.{Ready, same_or_not}
use Rattle.crews.proofs.Laws.Barren.{lead, Barren, Reach, later-placed, joined-placed, gone_placed, fewer-placed, reach_placed, reach_begin, wanted_first, first_lacks, first_candidate, barren, found-list}
use Rattle.crews.proofs.Laws.Steps.{try_works, try_fails}

-- ---- the outcome of the one is that of the other, with no more placements

pub record Alike (o q : Outcome) : Type 0 where
  pub found : o.found ≡ q.found
  pub crews : o.crews ≡ q.crews
  pub need : o.need ≤ q.need

alike_of : {o q : Outcome} → o ≡ q → Alike o q
alike_of {o} {q} e = record { found = ap Outcome.found e; crews = ap Outcome.crews e; need = omega (arith, ap Outcome.need e) }

alike_by : {o q o' q' : Outcome} → o ≡ o' → q ≡ q' → Alike o' q' → Alike o q
alike_by e f a = record {
  found = ap Outcome.found e ∙ a.found ∙ sym (ap Outcome.found f);
  crews = ap Outcome.crews e ∙ a.crews ∙ sym (ap Outcome.crews f);
  need = omega (arith, ap Outcome.need e, a.need, ap Outcome.need f);
}

-- ---- the two rules

module _ (holds holders : ℕ → ℕ) (P d t least F : ℕ) where
  -- any row may begin a crew: the rule before
  abbrev pub old : Work
  old = plainly holds holders P d t least

  abbrev pub new : Work
  new = orderly holds holders P d t least

  -- a state that both searches reach: what may not begin a crew is barren
  record Way (f : Filling) : Type 0 where
    reach : Reach old F f
    dead : (c : ℕ) → c < f.from → Has (holders (lead old)) c → Has f.free c → Barren old F f c

  module _ (r : Ready old F) where
    -- the next crew may begin right after the first row of this one
    module _ (f : Filling) (row : ℕ) where
      from_begun : f.crew ≡ 0 → (placed_of old f row).from ≤ row + 1
      unfolding close_of
      from_begun e =
          let first = from_first f row (holds row) e in
          placed_is old f row (λ g. g.from ≤ row + 1) (λ z m. omega (arith, first)) (λ z. omega (arith, first))

      from_going : f.crew ≢ 0 → (placed_of old f row).from ≤ f.from
      unfolding close_of
      from_going n =
          let next = from_next f row (holds row) n in
          placed_is old f row (λ g. g.from ≤ f.from) (λ z m. omega (arith, next)) (λ z. omega (arith, next))

    -- ---- the search by either rule, one placement deeper

    way-placed : (f : Filling) (row : ℕ) → Way f → Tried old f row
        → ((c : ℕ) → c < (placed_of old f row).from → Has (holders (lead old)) c → Has (placed_of old f row).free c → Barren old F f c)
        → Way (placed_of old f row)
    way-placed f row w k barren =
        let later = later-placed old F r f row w.reach.state k in
        record {
          reach = reach_placed old F r f row w.reach k;
          dead = λ c l h q T s keeps j m b has.
              barren c l h q T s (λ i u e x. keeps i u (omega (arith, later.closed)) (later.kept i u x)) j (omega (arith, later.closed)) b has;
        }

    module _ (n : ℕ) (f : Filling) (w : Way f) (fuel : ones f.free ≤ suc n) (going : f.closed ≢ d) (room : ones f.crew < old.size)
        (same : (g : Filling) → Way g → ones g.free ≤ n → Alike (search n new g) (search n old g)) where
      abbrev by_new : List ℕ → Outcome
      by_new = try_each (λ g. search n new g) new f

      abbrev by_old : List ℕ → Outcome
      by_old = try_each (λ g. search n old g) old f

      abbrev of_new : ℕ → Outcome
      of_new row = search n new (placed_of new f row)

      abbrev of_old : ℕ → Outcome
      of_old row = search n old (placed_of old f row)

      placed_same : (row : ℕ) → placed_of new f row ≡ placed_of old f row
      unfolding placed_of
      placed_same row = refl

      row_alike : (row : ℕ) → Candidate old f row
          → ((c : ℕ) → c < (placed_of old f row).from → Has (holders (lead old)) c → Has (placed_of old f row).free c → Barren old F f c)
          → Alike (of_new row) (of_old row)
      row_alike row k b =
          let tried : Tried old f row = record { going = going; room = room; candidate = k } in
          alike_by (ap (search n new) (placed_same row)) refl
          (same (placed_of old f row) (way-placed f row w tried b) (omega (arith, fewer-placed old F r f row w.reach.state tried, fuel)))

      -- a row that both try
      both : (row : ℕ) (l m : List ℕ) → Alike (of_new row) (of_old row) → ((of_old row).found ≡ false → Alike (by_new l) (by_old m))
          → Alike (by_new (row ∷ l)) (by_old (row ∷ m))
      both row l m a rest =
          ⊎_elim
          (λ (e : (of_old row).found ≡ true).
          alike_by (try_works (λ g. search n new g) new f row l (a.found ∙ e)) (try_works (λ g. search n old g) old f row m e)
          (record { found = a.found; crews = a.crews; need = omega (arith, a.need) }))
          (λ (e : (of_old row).found ≡ false).
          alike_by (try_fails (λ g. search n new g) new f row l (a.found ∙ e)) (try_fails (λ g. search n old g) old f row m e)
          (record { found = (rest e).found; crews = (rest e).crews; need = omega (arith, a.need, (rest e).need) }))
          (either (of_old row).found)

      -- a row that only the old rule tries, and in vain
      less : (row : ℕ) (l m : List ℕ) → (of_old row).found ≡ false → Alike (by_new l) (by_old m) → Alike (by_new l) (by_old (row ∷ m))
      less row l m e rest =
          alike_by refl (try_fails (λ g. search n old g) old f row m e)
          (record { found = rest.found; crews = rest.crews; need = omega (arith, rest.need) })

      abbrev all : ℕ
      all = pool old f

      -- ---- a crew that is begun already

      next_new : f.crew ≢ 0 → candidates new f ≡ members 0 row_limit all
      unfolding candidates
      next_new k = rw (ne_eqb f.crew 0 k, candidates)

      next_old : f.crew ≢ 0 → candidates old f ≡ members 0 row_limit all
      unfolding candidates
      next_old k = rw (ne_eqb f.crew 0 k, candidates)

      next_each : f.crew ≢ 0 → (l : List ℕ) → ((row : ℕ) → Memᴰ row l → (row < row_limit) × Has all row) → Alike (by_new l) (by_old l)
      unfolding try_each
      next_each k [] h = alike_of refl
      next_each k (row ∷ l) h =
          let x = h row (Memᴰ.head refl) in
          let c = is_candidate old f row x.0 x.1 in
          let tried : Tried old f row = record { going = going; room = room; candidate = c } in
          both row l l
          (row_alike row c (λ v b p q. w.dead v (omega (arith, from_going f row k)) p ((later-placed old F r f row w.reach.state tried).free v q)))
          (λ e. next_each k l (λ y m. h y (Memᴰ.tail m)))

      next : f.crew ≢ 0 → Alike (by_new (candidates new f)) (by_old (candidates old f))
      next k =
          alike_by (ap by_new (next_new k)) (ap by_old (next_old k))
          (next_each k (members 0 row_limit all) (λ row m. has_of_mem row_limit all row m))

      -- ---- a crew to be begun

      first-new : f.crew ≡ 0 → candidates new f ≡ filter (leb f.from) (members 0 row_limit all)
      unfolding candidates
      first-new k = rw (eq-eqb f.crew 0 k, candidates)

      first-old : f.crew ≡ 0 → candidates old f ≡ members 0 row_limit all
      unfolding candidates
      first-old k = rw (eq-eqb f.crew 0 k, candidates) (filter_all _)

      module _ (empty : f.crew ≡ 0) where
        lowest : wanted_of P f ≡ lead old
        lowest = wanted_first old F r f w.reach empty

        -- all below k failed
        abbrev Failed : ℕ → Type 0
        Failed k = (c : ℕ) → c < k → Has (holders (lead old)) c → Has f.free c → (of_old c).found ≡ false

        -- a row below the first of the crew before leads to nothing
        left_out : (row : ℕ) → Candidate old f row → Has (holders (lead old)) row → row < f.from → (of_old row).found ≡ false
        left_out row k h l =
            let tried : Tried old f row = record { going = going; room = room; candidate = k } in
            ⊎_elim
            (λ (e : (of_old row).found ≡ true).
            let x = found-list old F r n (placed_of old f row) (state_placed old r.few F f row w.reach.state tried) e in
            let open-crew : f.closed < d = unfinished old f w.reach.state.shape going in
            absurd (w.dead row l h k.free (λ j. get_or (of_old row).crews j 0) x.solves
            (λ j u b q. x.kept j u (omega arith) ((later-placed old F r f row w.reach.state tried).kept j u q)) f.closed (omega arith) open-crew
            (x.kept f.closed row open-crew (joined-placed old F r f row w.reach.state tried))))
            (λ e. e)
            (either (of_old row).found)

        below_row : (row : ℕ) (l : List ℕ) (k : ℕ) → Ascends k (row ∷ l) → Failed k
            → ((c : ℕ) → k ≤ c → Has (holders (lead old)) c → Has f.free c → Memᴰ c (row ∷ l))
            → (c : ℕ) → c < row → Has (holders (lead old)) c → Has f.free c → Dec (c < k) → (of_old c).found ≡ false
        below_row row l k a failed whole c b p q (yes e) = failed c e p q
        below_row row l k a failed whole c b p q (no m) =
            ⊎_elim
            (λ e. absurd (omega (arith, e)))
            (λ i. absurd (omega (arith, ascends_mem (suc row) l a.1 c i)))
            (Memᴰ.cases_cons (whole c (omega arith) p q))

        tail_of : (row : ℕ) (l : List ℕ) (k : ℕ) → Ascends k (row ∷ l)
            → ((c : ℕ) → k ≤ c → Has (holders (lead old)) c → Has f.free c → Memᴰ c (row ∷ l))
            → (c : ℕ) → suc row ≤ c → Has (holders (lead old)) c → Has f.free c → Memᴰ c l
        tail_of row l k a whole c b p q =
            ⊎_elim (λ e. absurd (omega (arith, e))) (λ i. i) (Memᴰ.cases_cons (whole c (omega (arith, a.0)) p q))

        -- the next row, where those below it failed
        first_step : (row : ℕ) (l : List ℕ) → Candidate old f row → Has (holders (lead old)) row → Failed row
            → (Failed (suc row) → Alike (by_new (filter (leb f.from) l)) (by_old l))
            → Alike (by_new (filter (leb f.from) (row ∷ l))) (by_old (row ∷ l))
        first_step row l k h failed rest =
            ⊎_elim
            (λ (e : leb f.from row ≡ true).
            alike_by (ap by_new (filter_yes (leb f.from) row l e)) refl
            (both row (filter (leb f.from) l) l (row_alike row k (λ c b p q. lower c b p q)) (λ z. rest (failed_too z))))
            (λ (e : leb f.from row ≡ false).
            let out = left_out row k h (leb-false _ _ e) in
            alike_by (ap by_new (filter_no (leb f.from) row l e)) refl
            (less row (filter (leb f.from) l) l out (rest (failed_too out))))
            (either (leb f.from row))
          where
            tried : Tried old f row
            tried = record { going = going; room = room; candidate = k }

            failed_too : (of_old row).found ≡ false → Failed (suc row)
            failed_too z c b p q = go (ℕ_discrete row c)
              where
                go : Dec (row ≡ c) → (of_old c).found ≡ false
                go (yes e) = subst (λ (x : ℕ). (of_old x).found ≡ false) e z
                go (no m) = failed c (omega arith) p q

            lower : (c : ℕ) → c < (placed_of old f row).from → Has (holders (lead old)) c → Has (placed_of old f row).free c → Barren old F f c
            lower c b p q = go (ℕ_discrete row c)
              where
                go : Dec (row ≡ c) → Barren old F f c
                go (yes e) = absurd (omega (arith, gone_placed old F r f row w.reach.state tried, ap (bit (placed_of old f row).free) e, q))
                go (no m) =
                    let free = (later-placed old F r f row w.reach.state tried).free c q in
                    barren old F r n f w.reach empty fuel going room c p free
                    (failed c (omega (arith, from_begun f row empty, b, m)) p free)

        first-each : (l : List ℕ) (k : ℕ) → Ascends k l → Failed k
            → ((row : ℕ) → Memᴰ row l → Candidate old f row × Has (holders (lead old)) row)
            → ((c : ℕ) → k ≤ c → Has (holders (lead old)) c → Has f.free c → Memᴰ c l)
            → Alike (by_new (filter (leb f.from) l)) (by_old l)
        unfolding try_each filter
        first-each [] k a failed these whole = alike_of refl
        first-each (row ∷ l) k a failed these whole =
            let x = these row (Memᴰ.head refl) in
            first_step row l x.0 x.1
            (λ c b p q. below_row row l k a failed whole c b p q (dec_lt c k))
            (λ z. first-each l (suc row) a.1 z (λ y m. these y (Memᴰ.tail m)) (λ c b p q. tail_of row l k a whole c b p q))

        first : Alike (by_new (candidates new f)) (by_old (candidates old f))
        first =
            alike_by (ap by_new (first-new empty)) (ap by_old (first-old empty))
            (first-each (members 0 row_limit all) 0 (members_ascend 0 row_limit all) (λ c b. absurd (omega arith)) these whole)
          where
            these : (row : ℕ) → Memᴰ row (members 0 row_limit all) → Candidate old f row × Has (holders (lead old)) row
            these row m =
                let x = has_of_mem row_limit all row m in
                let k = is_candidate old f row x.0 x.1 in
                (k, subst (λ (y : ℕ). Has (holders y) row) lowest (k.holder (first_lacks old F r f w.reach empty)))

            whole : (c : ℕ) → 0 ≤ c → Has (holders (lead old)) c → Has f.free c → Memᴰ c (members 0 row_limit all)
            whole c b p q =
                mem_of_has row_limit all c (bit_below F row_limit c r.rows (has_of_sub f.free F w.reach.state.free c q))
                (in_pool old f c (first_candidate old F r f w.reach empty c p q))

      each : Alike (by_new (candidates new f)) (by_old (candidates old f))
      each = ⊎_elim first next (same_or_not f.crew 0)

    -- ---- the theorem

    same : (n : ℕ) (f : Filling) → Way f → ones f.free ≤ n → Alike (search n new f) (search n old f)
    same zero f w fuel =
        ⊎_elim
        (λ e. alike_of (search-done new f 0 e ∙ sym (search-done old f 0 e)))
        (λ e. alike_of (search_out new f e ∙ sym (search_out old f e)))
        (same_or_not f.closed d)
    same (suc n) f w fuel =
        ⊎_elim
        (λ e. alike_of (search-done new f (suc n) e ∙ sym (search-done old f (suc n) e)))
        (λ e.
        ⊎_elim
        (λ l. let h = leb-true _ _ l in alike_of (search-full new f (suc n) e h ∙ sym (search-full old f (suc n) e h)))
        (λ l. let h = leb-false _ _ l in alike_by (search_open new f n e h) (search_open old f n e h) (each n f w fuel e h (λ g v b. same n g v b)))
        (either (leb old.size (ones f.crew))))
        (same_or_not f.closed d)

    -- nothing is placed yet, and every row may begin the first crew
    way-begin : Way (begin F)
    way-begin = record { reach = reach_begin old F r; dead = λ c l. absurd (omega arith) }

    -- The same list, and no more placements.
    pub ordered : Alike (search (ones F) new (begin F)) (search (ones F) old (begin F))
    ordered = same (ones F) (begin F) way-begin (omega arith)
