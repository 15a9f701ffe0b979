-- The question for a named absence: any two replies that are allowed for one input are equal, what each verdict says, what the allowance
-- may change, and that holdings outside P or past the count play no part. Exactness is what decides between `Crews` and `None`.
-- Assumes nothing.
use Rattle.std.specs.Prelude.{◌≡◌, refl, true, false, ◌⊎◌, ◌≢◌, ◌↔◌, List, ℕ, ◌^◌, ◌≤◌, ◌<◌, min, take, Err, Ok, Result}
use Rattle.std.proofs.Common.{sym, ap, ◌∙◌, subst, inl, inr, ⊎_elim, arith}
use Rattle.std.proofs.Math.Decide.{dec_le}
use Rattle.roster.specs.declared.Table.{Table}
use Rattle.roster.specs.declared.Refusal.{Refusal}
use Rattle.roster.specs.declared.Verdict.{Verdict}
use Rattle.roster.specs.declared.Verdict.TheVariants.{Undecided, Crews, None, Refused}
use Rattle.roster.specs.declared.Reply.{Reply}
use Rattle.roster.specs.Meaning.{CrewList, Blocks}
use Rattle.roster.specs.Refusals.{named_ruling}
use Rattle.roster.specs.Replies.{no_crews, Eight, reply_with}
use Rattle.roster.proofs.Laws.Rulings.{named_within}
use Rattle.roster.proofs.Laws.Same.{Agree, same_crew-list, same_blocks}
use Rattle.crews.specs.Filling.{Outcome, filling}
use Rattle.crews.specs.Named.{need_named, first_list, NamedReply}
use Rattle.crews.proofs.Laws.Exact.{Fair, finds_list, list-found, blocks_none, decide, crews-eight, crews-past}
use Rattle.crews.proofs.Laws.Sound.{none-at}
use Rattle.crews.proofs.Laws.Same.{same_filling}

-- an admitted question has what exactness needs
pub admitted_fair : (table : Table) (P d t ed A : ℕ) → P < 2 ^ 32 → named_ruling table.rows P d t ed A ≡ Ok tt
    → Fair table P d × (A < 2 ^ table.rows)
admitted_fair table P d t ed A wide e =
    let x = named_within table.rows P d t ed A e in
    let k = x.0 in
    (record { rows = k.rows; task = k.task; wide = wide; some = k.some; few = k.few }, x.1)

-- ---- every question is of one of four kinds, and each kind has one reply

pub data Kind (table : Table) (P d t ed A allowance : ℕ) : Type 0 where
  refused : (refusal : Refusal) → named_ruling table.rows P d t ed A ≡ Err refusal → Kind table P d t ed A allowance
  undecided : named_ruling table.rows P d t ed A ≡ Ok tt → allowance < need_named table P d t ed A → Kind table P d t ed A allowance
  crews : named_ruling table.rows P d t ed A ≡ Ok tt → need_named table P d t ed A ≤ allowance
      → (list : List ℕ) → CrewList table P d t ed A list → Kind table P d t ed A allowance
  none : named_ruling table.rows P d t ed A ≡ Ok tt → need_named table P d t ed A ≤ allowance → Blocks table P d t ed A
      → Kind table P d t ed A allowance

pub ruled : (x : Result Unit Refusal) → (x ≡ Ok tt) ⊎ ((refusal : Refusal) × (x ≡ Err refusal))
ruled (Ok tt) = inl refl
ruled (Err refusal) = inr (refusal, refl)

module _ (table : Table) (P d t ed A allowance : ℕ) where
  -- an absence has a list or blocks: `decide`
  pub kind_of : P < 2 ^ 32 → Kind table P d t ed A allowance
  kind_of wide =
      ⊎_elim (λ e. admitted e (dec_le (need_named table P d t ed A) allowance)) (λ x. refused x.0 x.1)
      (ruled (named_ruling table.rows P d t ed A))
    where
      admitted : named_ruling table.rows P d t ed A ≡ Ok tt → Dec (need_named table P d t ed A ≤ allowance) → Kind table P d t ed A allowance
      admitted e (no n) = undecided e (omega arith)
      admitted e (yes l) =
          let x = admitted_fair table P d t ed A wide e in
          ⊎_elim (λ c. crews e l c.0 c.1) (λ b. none e l b) (decide x.0 t ed A x.1)

  pub reply_for : Kind table P d t ed A allowance → Reply
  reply_for (refused refusal e) = reply_with no_crews 0 0 allowance (Refused refusal)
  reply_for (undecided e l) = reply_with no_crews 0 (need_named table P d t ed A) allowance Undecided
  reply_for (crews e l list c) = reply_with (first_list table P d t ed A) 0 (need_named table P d t ed A) allowance Crews
  reply_for (none e l b) = reply_with no_crews 0 (need_named table P d t ed A) allowance None

  replied : (r : Reply) → NamedReply table P d t ed A allowance r → (k : Kind table P d t ed A allowance) → r ≡ reply_for k
  unfolding reply_for
  replied r a (refused refusal e) = a.refused refusal e
  replied r a (undecided e l) = a.undecided e l
  replied r a (crews e l list c) = a.crews e l list c
  replied r a (none e l b) = a.none e l b

  -- Any two replies that are allowed for one input are equal.
  pub named_same : P < 2 ^ 32 → (r q : Reply) → NamedReply table P d t ed A allowance r → NamedReply table P d t ed A allowance q → r ≡ q
  named_same wide r q a b = let k = kind_of wide in replied r a k ∙ sym (replied q b k)

-- ---- what filling found says which reply is allowed

module _ (table : Table) (P d t ed A allowance : ℕ) (wide : P < 2 ^ 32) (r : Reply) where
  -- The reply goes by `found`: a list exists exactly if filling finds one.
  pub allowed_by : ((refusal : Refusal) → named_ruling table.rows P d t ed A ≡ Err refusal → r ≡ reply_with no_crews 0 0 allowance (Refused refusal))
      → (named_ruling table.rows P d t ed A ≡ Ok tt → allowance < need_named table P d t ed A
      → r ≡ reply_with no_crews 0 (need_named table P d t ed A) allowance Undecided)
      → (named_ruling table.rows P d t ed A ≡ Ok tt → need_named table P d t ed A ≤ allowance → (filling table P d t ed A).found ≡ true
      → r ≡ reply_with (first_list table P d t ed A) 0 (need_named table P d t ed A) allowance Crews)
      → (named_ruling table.rows P d t ed A ≡ Ok tt → need_named table P d t ed A ≤ allowance → (filling table P d t ed A).found ≡ false
      → r ≡ reply_with no_crews 0 (need_named table P d t ed A) allowance None)
      → NamedReply table P d t ed A allowance r
  allowed_by refuses over complete exhausted =
      record {
        refused = refuses;
        undecided = over;
        crews = λ e l list c. let f = admitted_fair table P d t ed A wide e in complete e l (list-found f.0 t ed A f.1 list c);
        none = λ e l b. let f = admitted_fair table P d t ed A wide e in exhausted e l (blocks_none f.0 t ed A b);
      }

-- ---- what each verdict says

abbrev verdict_for : {table : Table} {P d t ed A allowance : ℕ} → Kind table P d t ed A allowance → Verdict
verdict_for (refused refusal e) = Refused refusal
verdict_for (undecided e l) = Undecided
verdict_for (crews e l list c) = Crews
verdict_for (none e l b) = None

module _ (table : Table) (P d t ed A allowance : ℕ) (wide : P < 2 ^ 32) (r : Reply) (a : NamedReply table P d t ed A allowance r) where
  abbrev need : ℕ
  need = need_named table P d t ed A

  verdict : (k : Kind table P d t ed A allowance) → r.verdict ≡ verdict_for k
  verdict (refused refusal e) = ap (λ (q : Reply). q.verdict) (a.refused refusal e)
  verdict (undecided e l) = ap (λ (q : Reply). q.verdict) (a.undecided e l)
  verdict (crews e l list c) = ap (λ (q : Reply). q.verdict) (a.crews e l list c)
  verdict (none e l b) = ap (λ (q : Reply). q.verdict) (a.none e l b)

  -- the kind that a verdict tells
  told : (v : Verdict) → r.verdict ≡ v → (k : Kind table P d t ed A allowance) × (verdict_for k ≡ v)
  told v e = let k = kind_of table P d t ed A allowance wide in (k, sym (verdict k) ∙ e)

  pub named_refused : (refusal : Refusal) → (r.verdict ≡ Refused refusal) ↔ (named_ruling table.rows P d t ed A ≡ Err refusal)
  named_refused refusal = (λ v. let x = told (Refused refusal) v in go x.0 x.1, λ e. verdict (refused refusal e))
    where
      go : (k : Kind table P d t ed A allowance) → verdict_for k ≡ Refused refusal → named_ruling table.rows P d t ed A ≡ Err refusal
      go (refused other e) v = cc
      go (undecided e l) v = let z : ◌≡◌ {A = ℕ} 0 1 = cc in absurd (omega arith)
      go (crews e l list c) v = let z : ◌≡◌ {A = ℕ} 0 1 = cc in absurd (omega arith)
      go (none e l b) v = let z : ◌≡◌ {A = ℕ} 0 1 = cc in absurd (omega arith)

  module _ (ok : named_ruling table.rows P d t ed A ≡ Ok tt) where
    -- "undecided, exactly if allowance < need"
    pub named_undecided : (r.verdict ≡ Undecided) ↔ (allowance < need)
    named_undecided = (λ v. let x = told Undecided v in go x.0 x.1, λ l. verdict (undecided ok l))
      where
        go : (k : Kind table P d t ed A allowance) → verdict_for k ≡ Undecided → allowance < need
        go (refused other e) v = let z : ◌≡◌ {A = ℕ} 0 1 = cc in absurd (omega arith)
        go (undecided e l) v = l
        go (crews e l list c) v = let z : ◌≡◌ {A = ℕ} 0 1 = cc in absurd (omega arith)
        go (none e l b) v = let z : ◌≡◌ {A = ℕ} 0 1 = cc in absurd (omega arith)

    -- crews exactly if the allowance reaches and there is a list
    pub named-crews : (r.verdict ≡ Crews) ↔ ((need ≤ allowance) × ((list : List ℕ) × CrewList table P d t ed A list))
    named-crews = (λ v. let x = told Crews v in go x.0 x.1, λ x. verdict (crews ok x.0 x.1.0 x.1.1))
      where
        go : (k : Kind table P d t ed A allowance) → verdict_for k ≡ Crews → (need ≤ allowance) × ((list : List ℕ) × CrewList table P d t ed A list)
        go (refused other e) v = let z : ◌≡◌ {A = ℕ} 0 1 = cc in absurd (omega arith)
        go (undecided e l) v = let z : ◌≡◌ {A = ℕ} 0 1 = cc in absurd (omega arith)
        go (crews e l list c) v = (l, (list, c))
        go (none e l b) v = let z : ◌≡◌ {A = ℕ} 0 1 = cc in absurd (omega arith)

    -- none exactly if the allowance reaches and the absence blocks
    pub named_none : (r.verdict ≡ None) ↔ ((need ≤ allowance) × Blocks table P d t ed A)
    named_none = (λ v. let x = told None v in go x.0 x.1, λ x. verdict (none ok x.0 x.1))
      where
        go : (k : Kind table P d t ed A allowance) → verdict_for k ≡ None → (need ≤ allowance) × Blocks table P d t ed A
        go (refused other e) v = let z : ◌≡◌ {A = ℕ} 0 1 = cc in absurd (omega arith)
        go (undecided e l) v = let z : ◌≡◌ {A = ℕ} 0 1 = cc in absurd (omega arith)
        go (crews e l list c) v = let z : ◌≡◌ {A = ℕ} 0 1 = cc in absurd (omega arith)
        go (none e l b) v = (l, b)

    -- the need, or the allowance where that is less
    pub named-units : r.units ≡ min need allowance
    named-units = go (kind_of table P d t ed A allowance wide)
      where
        go : Kind table P d t ed A allowance → r.units ≡ min need allowance
        go (refused other e) = let z : ◌≡◌ {A = ℕ} 0 1 = cc in absurd (omega arith)
        go (undecided e l) = omega (arith, ap (λ (q : Reply). q.units) (a.undecided e l))
        go (crews e l list c) = omega (arith, ap (λ (q : Reply). q.units) (a.crews e l list c))
        go (none e l b) = omega (arith, ap (λ (q : Reply). q.units) (a.none e l b))

    -- the crews replied are a crew list for the absence
    pub named-list : r.verdict ≡ Crews → CrewList table P d t ed A (take d r.crews)
    named-list v =
        let x = named-crews.0 v in
        let f = admitted_fair table P d t ed A wide ok in
        let e = ap (λ (q : Reply). q.crews) (a.crews ok x.0 x.1.0 x.1.1) in
        subst (λ (l : List ℕ). CrewList table P d t ed A (take d l)) (sym e)
        (finds_list f.0 t ed A (list-found f.0 t ed A f.1 x.1.0 x.1.1))

  -- "all 0" wherever no crews are replied
  pub named-empty : r.verdict ≢ Crews → r.crews ≡ no_crews
  named-empty n = go (kind_of table P d t ed A allowance wide)
    where
      go : Kind table P d t ed A allowance → r.crews ≡ no_crews
      go (refused other e) = ap (λ (q : Reply). q.crews) (a.refused other e)
      go (undecided e l) = ap (λ (q : Reply). q.crews) (a.undecided e l)
      go (crews e l list c) = absurd (n (verdict (crews e l list c)))
      go (none e l b) = ap (λ (q : Reply). q.crews) (a.none e l b)

  -- "Crews are eight sets; those past d are 0."
  pub named-eight : Eight d r.crews
  named-eight = go (kind_of table P d t ed A allowance wide)
    where
      empty : r.verdict ≢ Crews → Eight d r.crews
      empty n = subst (Eight d) (sym (named-empty n)) (record { many = refl; past = λ j h. none-at j })

      go : Kind table P d t ed A allowance → Eight d r.crews
      go (refused other e) = empty (λ v. let w = verdict (refused other e) in let z : ◌≡◌ {A = ℕ} 0 1 = cc in omega arith)
      go (undecided e l) = empty (λ v. let w = verdict (undecided e l) in let z : ◌≡◌ {A = ℕ} 0 1 = cc in omega arith)
      go (crews e l list c) =
          subst (Eight d) (sym (ap (λ (q : Reply). q.crews) (a.crews e l list c)))
          (record { many = crews-eight table P d t ed A; past = λ j h. crews-past table P d t ed A j h })
      go (none e l b) = empty (λ v. let w = verdict (none e l b) in let z : ◌≡◌ {A = ℕ} 0 1 = cc in omega arith)

  -- and there is no blocker
  pub named_blocker : r.blocker ≡ 0
  named_blocker = go (kind_of table P d t ed A allowance wide)
    where
      go : Kind table P d t ed A allowance → r.blocker ≡ 0
      go (refused other e) = ap (λ (q : Reply). q.blocker) (a.refused other e)
      go (undecided e l) = ap (λ (q : Reply). q.blocker) (a.undecided e l)
      go (crews e l list c) = ap (λ (q : Reply). q.blocker) (a.crews e l list c)
      go (none e l b) = ap (λ (q : Reply). q.blocker) (a.none e l b)

  -- A larger allowance never alters a decided reply.
  pub named_larger : r.verdict ≢ Undecided → (more : ℕ) → allowance ≤ more → (q : Reply) → NamedReply table P d t ed A more q → r ≡ q
  named_larger n more h q b = go (kind_of table P d t ed A allowance wide)
    where
      go : Kind table P d t ed A allowance → r ≡ q
      go (refused other e) = a.refused other e ∙ sym (b.refused other e)
      go (undecided e l) = absurd (n (verdict (undecided e l)))
      go (crews e l list c) = a.crews e l list c ∙ sym (b.crews e (omega arith) list c)
      go (none e l k) = a.none e l k ∙ sym (b.none e (omega arith) k)

-- ---- Holdings outside P play no part, nor do those past the count.

-- what is allowed for the one table is allowed for the other
named_to : (table other : Table) (P d t ed A allowance : ℕ) → Agree table other P → (r : Reply) → NamedReply table P d t ed A allowance r
    → NamedReply other P d t ed A allowance r
named_to table other P d t ed A allowance same r a =
    record {
      refused = λ refusal e. a.refused refusal (rows ∙ e);
      undecided = λ e l. a.undecided (rows ∙ e) (omega (arith, need)) ∙ ap (λ (o : Outcome). reply_with no_crews 0 o.need allowance Undecided) fill;
      crews = λ e l list c.
          a.crews (rows ∙ e) (omega (arith, need)) list ((same_crew-list table other P d t ed A list same).1 c)
          ∙ ap (λ (o : Outcome). reply_with o.crews 0 o.need allowance Crews) fill;
      none = λ e l b.
          a.none (rows ∙ e) (omega (arith, need)) ((same_blocks table other P d t ed A same).1 b)
          ∙ ap (λ (o : Outcome). reply_with no_crews 0 o.need allowance None) fill;
    }
  where
    rows : named_ruling table.rows P d t ed A ≡ named_ruling other.rows P d t ed A
    rows = ap (λ (n : ℕ). named_ruling n P d t ed A) same.count

    fill : filling table P d t ed A ≡ filling other P d t ed A
    fill = same_filling table other P same d t ed A

    need : (filling table P d t ed A).need ≡ (filling other P d t ed A).need
    need = ap (λ (o : Outcome). o.need) fill

-- Tables that agree within P below the count get equal replies.
pub named_agree : (table other : Table) (P d t ed A allowance : ℕ) → P < 2 ^ 32 → Agree table other P → (r q : Reply)
    → NamedReply table P d t ed A allowance r → NamedReply other P d t ed A allowance q → r ≡ q
named_agree table other P d t ed A allowance wide same r q a b =
    named_same other P d t ed A allowance wide r q (named_to table other P d t ed A allowance same r a) b
