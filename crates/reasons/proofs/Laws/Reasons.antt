-- The reasons: a blocking absence has one and one only, and whatever has one blocks, so that an explanation explains. Assumes nothing.
use Rattle.std.specs.Prelude.{◌≡◌, refl, true, false, ◌⊎◌, ◌≢◌, List, ℕ, ◌^◌, ◌≤◌, ◌<◌, take}
use Rattle.std.proofs.Common.{sym, ap, subst, inl, inr, ⊎_elim, arith, lt-ltb, le-ltb}
use Rattle.std.proofs.Math.Decide.{dec_lt}
use Rattle.sets.specs.Laws.Sums.{either}
use Rattle.roster.specs.declared.Table.{Table}
use Rattle.roster.specs.declared.Verdict.TheVariants.{Crews}
use Rattle.roster.specs.declared.Reply.{Reply}
use Rattle.roster.specs.Meaning.{CrewList, Blocks}
use Rattle.roster.specs.Laws.Fewer.{blocks_more-crews}
use Rattle.roster.proofs.Laws.Rulings.{named_within, named-one}
use Rattle.crews.specs.Filling.{Outcome, filling}
use Rattle.crews.specs.Named.{NamedReply}
use Rattle.crews.proofs.Laws.Exact.{Fair, finds_list, finds_none, decide}
use Rattle.crews.proofs.Laws.Named.{admitted_fair, named-crews}
use Rattle.crews.proofs.Laws.OneCrew.{one-crew-need}
use Rattle.reasons.specs.declared.Explanation.{Explanation}
use Rattle.reasons.specs.declared.Explanation.TheVariants.{Scarce, NoCrew, Overlap, Nothing, Undecided, Refused}
use Rattle.reasons.specs.Reasons.{NoneIs, Reason}
use Rattle.reasons.specs.Reasons as reasons
use Rattle.reasons.specs.Replied.{lowest_scarce, reason_by, reason_of}
use Rattle.reasons.specs.Inner.{Stuck}
use Rattle.reasons.specs.Laws.Scarce.{scarce_blocks}
use Rattle.reasons.specs.Laws.Lowest.{lowest_scarce_lem, none_scarce, lowest_unique}

module _ (table : Table) (P d t ed A : ℕ) where
  -- "give one reason": no two are true with no earlier one
  pub reason_unique : (w v : Explanation) → Reason table P d t ed A w → Reason table P d t ed A v → w ≡ v
  reason_unique (Scarce p) (Scarce q) x y = ap Scarce (lowest_unique table P d A p q x y)
  reason_unique (Scarce p) NoCrew x y = absurd (y.0 p x.0)
  reason_unique (Scarce p) Overlap x y = absurd (y.0 p x.0)
  reason_unique (Scarce p) Nothing x y = absurd y
  reason_unique (Scarce p) Undecided x y = absurd y
  reason_unique (Scarce p) (Refused refusal) x y = absurd y
  reason_unique NoCrew (Scarce q) x y = absurd (x.0 q y.0)
  reason_unique NoCrew NoCrew x y = refl
  reason_unique NoCrew Overlap x y = absurd (x.1 y.1.0 y.1.1)
  reason_unique NoCrew Nothing x y = absurd y
  reason_unique NoCrew Undecided x y = absurd y
  reason_unique NoCrew (Refused refusal) x y = absurd y
  reason_unique Overlap (Scarce q) x y = absurd (x.0 q y.0)
  reason_unique Overlap NoCrew x y = absurd (y.1 x.1.0 x.1.1)
  reason_unique Overlap Overlap x y = refl
  reason_unique Overlap Nothing x y = absurd y
  reason_unique Overlap Undecided x y = absurd y
  reason_unique Overlap (Refused refusal) x y = absurd y
  reason_unique Nothing v x y = absurd x
  reason_unique Undecided v x y = absurd x
  reason_unique (Refused refusal) v x y = absurd x

  -- not even one crew, so not d
  pub no_crew_blocks : 1 ≤ d → Blocks table P 1 t ed A → Blocks table P d t ed A
  no_crew_blocks some b = blocks_more-crews table P d 1 t ed A some b

  -- each reason implies blocking
  pub reason_blocks : 1 ≤ d → (w : Explanation) → Reason table P d t ed A w → Blocks table P d t ed A
  reason_blocks some (Scarce p) x = scarce_blocks table P d t ed A p x.0
  reason_blocks some NoCrew x = no_crew_blocks some x.1
  reason_blocks some Overlap x = x.2
  reason_blocks some Nothing x = absurd x
  reason_blocks some Undecided x = absurd x
  reason_blocks some (Refused refusal) x = absurd x

-- ---- the reason that the definition gives

by_scarce : (lowest : ℕ) (o : Outcome) → lowest < 32 → reason_by lowest o ≡ Scarce lowest
by_scarce lowest o l = rw (lt-ltb lowest 32 l, reason_by)

by_overlap : (lowest : ℕ) (o : Outcome) → 32 ≤ lowest → o.found ≡ true → reason_by lowest o ≡ Overlap
by_overlap lowest o l f = rw (le-ltb lowest 32 l, f, reason_by)

by_no_crew : (lowest : ℕ) (o : Outcome) → 32 ≤ lowest → o.found ≡ false → reason_by lowest o ≡ NoCrew
by_no_crew lowest o l f = rw (le-ltb lowest 32 l, f, reason_by)

module _ {table : Table} {P d : ℕ} (fair : Fair table P d) where
  alone : Fair table P 1
  alone = record { rows = fair.rows; task = fair.task; wide = fair.wide; some = omega arith; few = omega arith }

  -- a blocking absence has a reason
  pub reason_given : (t ed A : ℕ) → A < 2 ^ table.rows → Blocks table P d t ed A → Reason table P d t ed A (reason_of table P d t ed A)
  reason_given t ed A rows b = go (dec_lt (lowest_scarce table P d A) 32)
    where
      is : (w : Explanation) → reason_of table P d t ed A ≡ w → Reason table P d t ed A w → Reason table P d t ed A (reason_of table P d t ed A)
      is w e x = subst (Reason table P d t ed A) (sym e) x

      one : 32 ≤ lowest_scarce table P d A → NoneIs (reasons.Scarce table P d A) → ((filling table P 1 t ed A).found ≡ true) ⊎ ((filling table P 1 t ed A).found ≡ false)
          → Reason table P d t ed A (reason_of table P d t ed A)
      one l none (inl f) =
          is Overlap (by_overlap (lowest_scarce table P d A) (filling table P 1 t ed A) l f)
          (none, (take 1 (filling table P 1 t ed A).crews, finds_list alone t ed A f), b)
      one l none (inr f) =
          is NoCrew (by_no_crew (lowest_scarce table P d A) (filling table P 1 t ed A) l f) (none, finds_none alone t ed A rows f)

      go : Dec (lowest_scarce table P d A < 32) → Reason table P d t ed A (reason_of table P d t ed A)
      go (yes l) =
          is (Scarce (lowest_scarce table P d A)) (by_scarce (lowest_scarce table P d A) (filling table P 1 t ed A) l) (lowest_scarce_lem table P d A l)
      go (no n) = one (omega arith) (none_scarce table P d A fair.wide (omega arith)) (either (filling table P 1 t ed A).found)

-- ---- the question for one crew, asked where an admitted and decided one for d crews finds none

module _ (table : Table) (P d t ed A allowance : ℕ) (wide : P < 2 ^ 32) (stuck : Stuck table P d t ed A allowance) (one : Reply)
    (reply : NamedReply table P 1 t ed A allowance one) where
  some : 1 ≤ d
  some = (named_within table.rows P d t ed A stuck.admitted).0.some

  -- it is decided, and finds a crew exactly if there is one
  single : (one.verdict ≡ Crews → (crew : List ℕ) × CrewList table P 1 t ed A crew) × ((crew : List ℕ) × CrewList table P 1 t ed A crew → one.verdict ≡ Crews)
  single =
      let crews = named-crews table P 1 t ed A allowance wide one reply (named-one table.rows P d t ed A stuck.admitted) in
      (λ v. (crews.0 v).1, λ x. crews.1 (omega (arith, one-crew-need table P d t ed A some, stuck.decided), x))

  pub overlap_is : NoneIs (reasons.Scarce table P d A) → one.verdict ≡ Crews → Reason table P d t ed A Overlap
  overlap_is none v = (none, single.0 v, stuck.blocks)

  pub no_crew_is : NoneIs (reasons.Scarce table P d A) → one.verdict ≢ Crews → Reason table P d t ed A NoCrew
  no_crew_is none n =
      let x = admitted_fair table P d t ed A wide stuck.admitted in
      (none, ⊎_elim (λ c. absurd (n (single.1 c))) (λ b. b) (decide (alone x.0) t ed A x.1))
