-- The demands over accounts, for all replies that the contracts allow: what a reply tells, with no word of merging but in the need and in the
-- ranks that order blockers; and that both searches, and larger allowances, tell the same. Assumes nothing.
use Rattle.std.specs.Prelude.{◌≡◌, refl, ◌↔◌, ◌≢◌, Bool, true, false, List, map, ℕ, ◌^◌, ◌≤◌, ◌<◌, min, leb, take, Err, Ok, Result}
use Rattle.std.proofs.Common.{sym, ap, ◌∙◌, subst, inl, inr, ⊎_elim, arith, leb-true, le-leb}
use Rattle.std.proofs.lemmas.Bool.{lt-leb}
use Rattle.sets.specs.Sets.{Has}
use Rattle.roster.specs.declared.Refusal.{Refusal}
use Rattle.roster.specs.declared.Refusal.TheVariants.{Rows, Absence}
use Rattle.roster.specs.declared.Verdict.TheVariants.{Yes, No, Undecided, Crews, None, Refused}
use Rattle.roster.specs.declared.Reply.{Reply}
use Rattle.roster.specs.Limits.{row_limit}
use Rattle.roster.specs.Refusals.{refused_if, policy_ruling, named_ruling}
use Rattle.roster.specs.Replies.{no_crews, reply_with}
use Rattle.roster.proofs.Laws.Rulings.{or_else, named-after_policy, policy_nobody, policy_rows, named-rows, policy_few, past-rows_iff}
use Rattle.crews.specs.Named.{need_named, NamedReply}
use Rattle.crews.proofs.Laws.Named as named
use Rattle.absences.specs.declared.Way.{Way}
use Rattle.absences.specs.declared.Way.TheVariants.{Full, Skipping}
use Rattle.absences.specs.Asked.{need_policy}
use Rattle.absences.specs.Asked as tables
use Rattle.absences.proofs.Laws.Demands as policy
use Rattle.accounts.specs.declared.Accounts.{Accounts}
use Rattle.accounts.specs.Persons.{persons, merged}
use Rattle.accounts.specs.Meaning.{PersonCrews, PersonsBlock, FirstPersonsBlock, accounts_of, AccountSet, AccountCrews, AccountsHold, SmallestBlock}
use Rattle.accounts.proofs.Laws.Rulings.{many_refused, ManyOrFew, many-or_few}
use Rattle.accounts.proofs.Laws.Merged.{persons_few, crews_of_persons, blocks_of_persons, holds_of_persons, first_of_persons}
use Rattle.accounts.proofs.Laws.Accounts.{persons_of, persons_lt, nobody, person-set, to_accounts, accounts_hold, first_smallest}
use Rattle.questions.specs.Asked.{PolicyAsked, NamedAsked}
use Rattle.questions.specs.Laws.Behind.{behind_both, behind_same}

never : {A : Type 0} → ◌≡◌ {A = ℕ} 0 1 → A
never e = absurd (omega arith)

-- ---- demand 2: the policy question

-- 1 to 5 and 25 as they are of a table, by rows
abbrev pub Admits : Accounts → (P s d t ed : ℕ) → Type 0
Admits a P s d t ed = policy_ruling a.rows P s d t ed ≡ Ok tt

-- what a reply tells whoever reads it
pub record Tells (way : Way) (a : Accounts) (P s d t ed allowance : ℕ) (r : Reply) : Type 0 where
  -- "Refusals: none new"
  pub refused : (refusal : Refusal) → (r.verdict ≡ Refused refusal) ↔ (policy_ruling a.rows P s d t ed ≡ Err refusal)
  -- "undecided, exactly if allowance < need"
  pub undecided : (r.verdict ≡ Undecided) ↔ (Admits a P s d t ed × (allowance < need_policy way (merged a) P s d t ed))
  -- else yes exactly if no accounts of at most s persons block
  pub yes : (r.verdict ≡ Yes) ↔ (Admits a P s d t ed × (need_policy way (merged a) P s d t ed ≤ allowance) × AccountsHold a P s d t ed)
  -- and no exactly if some do
  pub no : (r.verdict ≡ No) ↔ (Admits a P s d t ed × (need_policy way (merged a) P s d t ed ≤ allowance) × (AccountsHold a P s d t ed → ⊥))
  -- with yes come crews of persons with nobody away, and their accounts are crews of accounts
  pub crews : r.verdict ≡ Yes
      → PersonCrews a P d t ed 0 (take d r.crews) × AccountCrews a P d t ed 0 (map (accounts_of a) (take d r.crews))
  -- with no the first set of persons that blocks; its accounts block, and none of fewer persons do
  pub blocker : r.verdict ≡ No → FirstPersonsBlock a P s d t ed r.blocker × SmallestBlock a P s d t ed (accounts_of a r.blocker)
  -- the units: none, all that was allowed, or the need
  pub unspent : (refusal : Refusal) → r.verdict ≡ Refused refusal → r.units ≡ 0
  pub spent : r.verdict ≡ Undecided → r.units ≡ allowance
  pub units : r.verdict ≢ Undecided → Admits a P s d t ed → r.units ≡ need_policy way (merged a) P s d t ed

module _ (way : Way) (a : Accounts) (P s d t ed allowance : ℕ) (wide : P < 2 ^ 32) (r : Reply) (k : PolicyAsked way a P s d t ed allowance r) where
  -- too many rows: all that is told is the refusal
  many_tell : row_limit < a.rows → r ≡ reply_with no_crews 0 0 0 (Refused Rows) → Tells way a P s d t ed allowance r
  many_tell l e =
      let v : r.verdict ≡ Refused Rows = ap Reply.verdict e in
      let ruled = (policy_rows a.rows P s d t ed).1 l in
      record {
        refused = λ refusal. (λ q. cc, λ q. cc);
        undecided = (λ q. never (cc), λ q. never (cc));
        yes = (λ q. never (cc), λ q. never (cc));
        no = (λ q. never (cc), λ q. never (cc));
        crews = λ q. never (cc);
        blocker = λ q. never (cc);
        unspent = λ refusal q. ap Reply.units e;
        spent = λ q. never (cc);
        units = λ n q. never (cc);
      }

  -- else what is told of the merged table
  few_tell : a.rows ≤ row_limit → tables.Tells way (merged a) P s d t ed allowance r → Tells way a P s d t ed allowance r
  few_tell l tells =
      let ruled = policy_few (persons a) a.rows P s d t ed (persons_few a) l in
      let hold = holds_of_persons a P s d t ed in
      let accounts = accounts_hold a P s d t ed in
      record {
        refused = λ refusal. (λ q. sym ruled ∙ (tells.refused refusal).0 q, λ q. (tells.refused refusal).1 (ruled ∙ q));
        undecided = (
          λ q. let x = tells.undecided.0 q in (sym ruled ∙ x.0, x.1),
          λ x. tells.undecided.1 (ruled ∙ x.0, x.1),
        );
        yes = (
          λ q. let x = tells.yes.0 q in (sym ruled ∙ x.0, x.1, accounts.0 (hold.0 x.2)),
          λ x. tells.yes.1 (ruled ∙ x.0, x.1, hold.1 (accounts.1 x.2)),
        );
        no = (
          λ q. let x = tells.no.0 q in (sym ruled ∙ x.0, x.1, λ h. x.2 (hold.1 (accounts.1 h))),
          λ x. tells.no.1 (ruled ∙ x.0, x.1, λ h. x.2 (accounts.0 (hold.0 h))),
        );
        crews = λ q.
            let c = (crews_of_persons a P d t ed 0 (take d r.crews)).0 (tells.crews q).1 in
            (c, rw (sym (nobody a)) (to_accounts a P d t ed 0 (take d r.crews) c));
        blocker = λ q. let f = first_of_persons a P s d t ed r.blocker (tells.blocker q) in (f, first_smallest a P s d t ed r.blocker f);
        unspent = tells.unspent;
        spent = tells.spent;
        units = λ n e. tells.units n (ruled ∙ e);
      }

  pub policy_told : Tells way a P s d t ed allowance r
  policy_told = go (many-or_few a)
    where
      go : ManyOrFew a → Tells way a P s d t ed allowance r
      go (inl (l, e)) = many_tell l (k.refused Rows e)
      go (inr (l, e)) = few_tell l (policy.policy_exactly way (merged a) P s d t ed wide allowance r (k.admitted e))

  -- "yes" in so many words: whichever accounts of at most s persons are away, there are crews
  pub yes_with-crews : r.verdict ≡ Yes → (away : ℕ) → AccountSet a s away → (crews : List ℕ) × AccountCrews a P d t ed away crews
  yes_with-crews v away w = go (many-or_few a)
    where
      go : ManyOrFew a → (crews : List ℕ) × AccountCrews a P d t ed away crews
      go (inl (l, e)) = let u = ap Reply.verdict (k.refused Rows e) in never (cc)
      go (inr (l, e)) =
          let set = person-set a s away w in
          let list = ((policy.policy_yes way (merged a) P s d t ed wide allowance r (k.admitted e)).0 v).2 (persons_of a away) (record { rows = persons_lt a away; few = omega (arith, set.1, w.few) }) in
          let crews = to_accounts a P d t ed (persons_of a away) list.0 ((crews_of_persons a P d t ed (persons_of a away) list.0).0 list.1) in
          (map (accounts_of a) list.0, subst (λ (x : ℕ). AccountCrews a P d t ed x (map (accounts_of a) list.0)) set.0 crews)

  -- "refused 1" speaks of rows, however few the persons are
  pub policy_refused_rows : (r.verdict ≡ Refused Rows) ↔ (row_limit < a.rows)
  policy_refused_rows =
      let told = policy_told.refused Rows in
      let rows = policy_rows a.rows P s d t ed in
      (λ v. rows.0 (told.0 v), λ l. told.1 (rows.1 l))

-- ---- demand 3

module _ (a : Accounts) (P s d t ed : ℕ) (wide : P < 2 ^ 32) where
  -- both searches give the same verdict, crews and blocker whenever both decide
  pub searches_alike : (x y : ℕ) (r q : Reply) → PolicyAsked Full a P s d t ed x r → PolicyAsked Skipping a P s d t ed y q
      → r.verdict ≢ Undecided → q.verdict ≢ Undecided → (r.verdict ≡ q.verdict) × (r.crews ≡ q.crews) × (r.blocker ≡ q.blocker)
  searches_alike x y r q k m dr dq =
      ⊎_elim
      (λ e. (ap Reply.verdict e, ap Reply.crews e, ap Reply.blocker e))
      (λ h. policy.demand_3_same (merged a) P s d t ed wide x y r q h.0 h.1 dr dq)
      (behind_both _ _ _ r q k m)

  -- the skipping one decides whenever the other does, with no more units
  pub skipping_decides : (x : ℕ) (r q : Reply) → PolicyAsked Full a P s d t ed x r → PolicyAsked Skipping a P s d t ed x q
      → r.verdict ≢ Undecided → (q.verdict ≢ Undecided) × (q.units ≤ r.units)
  skipping_decides x r q k m dr =
      ⊎_elim
      (λ e. (λ u. dr (ap Reply.verdict e ∙ u), omega (arith, ap Reply.units e)))
      (λ h. policy.demand_3_decides (merged a) P s d t ed wide x r q h.0 h.1 dr)
      (behind_both _ _ _ r q k m)

  -- a larger allowance never alters a decided reply
  pub larger_policy : (way : Way) (x y : ℕ) (r q : Reply) → x ≤ y → PolicyAsked way a P s d t ed x r → PolicyAsked way a P s d t ed y q
      → r.verdict ≢ Undecided → r ≡ q
  larger_policy way x y r q l k m dr =
      behind_same _ _ _ r q k m (λ h j. sym (policy.demand_3_larger (merged a) P s d t ed wide way x y r q l h j dr))

pub larger_named : (a : Accounts) (P d t ed A : ℕ) → P < 2 ^ 32 → (x y : ℕ) (r q : Reply) → x ≤ y
    → NamedAsked a P d t ed A x r → NamedAsked a P d t ed A y q → r.verdict ≢ Undecided → r ≡ q
larger_named a P d t ed A wide x y r q l k m dr =
    behind_same _ _ _ r q k m (λ h j. named.named_larger (merged a) P d t ed A x wide r h dr y l q j)

-- ---- demand 2: the named absence

-- 1, 2, 4, 5 and 25 as they are of a table, by rows; "6 now compares with the number of persons"
abbrev pub persons_ruling : Accounts → (P d t ed A : ℕ) → Result Unit Refusal
persons_ruling a P d t ed A = or_else (policy_ruling a.rows P 0 d t ed) (refused_if (leb (2 ^ persons a) A) Absence (Ok tt))

pub record NamedTells (a : Accounts) (P d t ed A allowance : ℕ) (r : Reply) : Type 0 where
  pub refused : (refusal : Refusal) → (r.verdict ≡ Refused refusal) ↔ (persons_ruling a P d t ed A ≡ Err refusal)
  pub undecided : (r.verdict ≡ Undecided) ↔ ((persons_ruling a P d t ed A ≡ Ok tt) × (allowance < need_named (merged a) P d t ed A))
  -- else crews exactly if there are crews of persons, none of them away
  pub crews : (r.verdict ≡ Crews)
      ↔ ((persons_ruling a P d t ed A ≡ Ok tt) × (need_named (merged a) P d t ed A ≤ allowance) × ((crews : List ℕ) × PersonCrews a P d t ed A crews))
  -- and none exactly if there are not
  pub none : (r.verdict ≡ None)
      ↔ ((persons_ruling a P d t ed A ≡ Ok tt) × (need_named (merged a) P d t ed A ≤ allowance) × PersonsBlock a P d t ed A)
  -- those replied are such crews
  pub list : r.verdict ≡ Crews → PersonCrews a P d t ed A (take d r.crews)
  pub units : persons_ruling a P d t ed A ≡ Ok tt → r.units ≡ min (need_named (merged a) P d t ed A) allowance
  pub unspent : (refusal : Refusal) → r.verdict ≡ Refused refusal → r.units ≡ 0

module _ (a : Accounts) (P d t ed A : ℕ) where
  -- with at most 64 rows the ruling is that of the merged table
  ruled : a.rows ≤ row_limit → named_ruling (persons a) P d t ed A ≡ persons_ruling a P d t ed A
  ruled l =
      named-after_policy (persons a) P d t ed A
      ∙ ap (λ (x : Result Unit Refusal). or_else x (refused_if (leb (2 ^ persons a) A) Absence (Ok tt))) (policy_few (persons a) a.rows P 0 d t ed (persons_few a) l)

  -- with more it is refusal 1
  ruled_many : row_limit < a.rows → persons_ruling a P d t ed A ≡ Err Rows
  ruled_many l = ap (λ (x : Result Unit Refusal). or_else x (refused_if (leb (2 ^ persons a) A) Absence (Ok tt))) ((policy_rows a.rows P 0 d t ed).1 l)

  -- what is admitted is admitted of the merged table
  pub persons_admitted : persons_ruling a P d t ed A ≡ Ok tt → named_ruling (persons a) P d t ed A ≡ Ok tt
  persons_admitted ok = go (many-or_few a)
    where
      go : ManyOrFew a → named_ruling (persons a) P d t ed A ≡ Ok tt
      go (inl (l, e)) = let many = ruled_many l in never (cc)
      go (inr (l, e)) = ruled l ∙ ok

  -- and a set of persons is, where the policy is
  pub admitted_persons : (s : ℕ) → policy_ruling a.rows P s d t ed ≡ Ok tt → A < 2 ^ persons a → persons_ruling a P d t ed A ≡ Ok tt
  admitted_persons s ok l =
      ap (λ (x : Result Unit Refusal). or_else x (refused_if (leb (2 ^ persons a) A) Absence (Ok tt))) (policy_nobody a.rows P s d t ed ok)
      ∙ ap (λ (b : Bool). refused_if b Absence (Ok tt)) (lt-leb (2 ^ persons a) A l)

module _ (a : Accounts) (P d t ed A allowance : ℕ) (wide : P < 2 ^ 32) (r : Reply) (k : NamedAsked a P d t ed A allowance r) where
  refused_told : (refusal : Refusal) → persons_ruling a P d t ed A ≡ Err refusal → r ≡ reply_with no_crews 0 0 0 (Refused refusal)
      → NamedTells a P d t ed A allowance r
  refused_told refusal ruled e =
      let v : r.verdict ≡ Refused refusal = ap Reply.verdict e in
      record {
        refused = λ other. (λ q. cc, λ q. cc);
        undecided = (λ q. never (cc), λ q. never (cc));
        crews = (λ q. never (cc), λ q. never (cc));
        none = (λ q. never (cc), λ q. never (cc));
        list = λ q. never (cc);
        units = λ q. never (cc);
        unspent = λ other q. ap Reply.units e;
      }

  admitted_told : a.rows ≤ row_limit → named_ruling (persons a) P d t ed A ≡ Ok tt → NamedReply (merged a) P d t ed A allowance r
      → NamedTells a P d t ed A allowance r
  admitted_told l ok m =
      let same = ruled a P d t ed A l in
      let refuses = named.named_refused (merged a) P d t ed A allowance wide r m in
      let undecided = named.named_undecided (merged a) P d t ed A allowance wide r m ok in
      let crews = named.named-crews (merged a) P d t ed A allowance wide r m ok in
      let none = named.named_none (merged a) P d t ed A allowance wide r m ok in
      let list = crews_of_persons a P d t ed A in
      let blocks = blocks_of_persons a P d t ed A in
      record {
        refused = λ refusal. (λ q. sym same ∙ (refuses refusal).0 q, λ q. (refuses refusal).1 (same ∙ q));
        undecided = (λ q. (sym same ∙ ok, undecided.0 q), λ x. undecided.1 x.1);
        crews = (
          λ q. let x = crews.0 q in (sym same ∙ ok, x.0, (x.1.0, (list x.1.0).0 x.1.1)),
          λ x. crews.1 (x.1, (x.2.0, (list x.2.0).1 x.2.1)),
        );
        none = (λ q. let x = none.0 q in (sym same ∙ ok, x.0, blocks.0 x.1), λ x. none.1 (x.1, blocks.1 x.2));
        list = λ q. (list (take d r.crews)).0 (named.named-list (merged a) P d t ed A allowance wide r m ok q);
        units = λ q. named.named-units (merged a) P d t ed A allowance wide r m ok;
        unspent = λ refusal q. let e = (refuses refusal).0 q in never (cc);
      }

  pub named-told : NamedTells a P d t ed A allowance r
  named-told = go (many-or_few a)
    where
      few : a.rows ≤ row_limit → NamedReply (merged a) P d t ed A allowance r → (x : Result Unit Refusal) → named_ruling (persons a) P d t ed A ≡ x
          → NamedTells a P d t ed A allowance r
      few l m (Ok tt) e = admitted_told l e m
      few l m (Err refusal) e = refused_told refusal (sym (ruled a P d t ed A l) ∙ e) (m.refused refusal e)

      go : ManyOrFew a → NamedTells a P d t ed A allowance r
      go (inl (l, e)) = refused_told Rows (ruled_many a P d t ed A l) (k.refused Rows e)
      go (inr (l, e)) = few l (k.admitted e) (named_ruling (persons a) P d t ed A) refl

  pub named_refused_rows : (r.verdict ≡ Refused Rows) ↔ (row_limit < a.rows)
  named_refused_rows = (there (many-or_few a), λ l. ap Reply.verdict (k.refused Rows (many_refused a l)))
    where
      there : ManyOrFew a → r.verdict ≡ Refused Rows → row_limit < a.rows
      there (inl (l, e)) v = l
      there (inr (l, e)) v =
          let m = (named.named_refused (merged a) P d t ed A allowance wide r (k.admitted e) Rows).0 v in
          absurd (omega (arith, (named-rows (persons a) P d t ed A).0 m, persons_few a))

  -- "6 now compares with the number of persons": where nothing else is amiss, exactly if the absence has a bit at or past it
  pub named_refused_absence : policy_ruling a.rows P 0 d t ed ≡ Ok tt → A < 2 ^ 64
      → (r.verdict ≡ Refused Absence) ↔ ((i : ℕ) × (persons a ≤ i) × Has A i)
  named_refused_absence ok narrow =
      let told = named-told.refused Absence in
      let past = past-rows_iff (persons a) A narrow in
      let here = ap (λ (x : Result Unit Refusal). or_else x (refused_if (leb (2 ^ persons a) A) Absence (Ok tt))) ok in (
        λ v. past.0 (go (leb (2 ^ persons a) A) refl (sym here ∙ told.0 v)),
        λ q. told.1 (here ∙ ap (λ (b : Bool). refused_if b Absence (Ok tt)) (le-leb (2 ^ persons a) A (past.1 q))),
      )
    where
      go : (b : Bool) → leb (2 ^ persons a) A ≡ b → refused_if b Absence (Ok tt) ≡ Err Absence → 2 ^ persons a ≤ A
      go true y e = leb-true (2 ^ persons a) A y
      go false y e = never (cc)
