-- What a reply to an admitted policy question is, as far as its line shows it. Assumes nothing.
use Rattle.std.specs.Prelude.{◌≡◌, refl, ◌≢◌, List, ℕ, ◌^◌, ◌≤◌, ◌<◌, length, get_or, take}
use Rattle.std.proofs.Common.{sym, ap, ◌∙◌, subst, lt_of_lt_of_le, arith, pow_mono, pow_pos, get_or-take}
use Rattle.std.proofs.Math.Decide.{dec_lt}
use Rattle.sets.specs.Sets.{bit, bit-none, some_member}
use Rattle.roster.specs.Limits.{crew_limit}
use Rattle.roster.specs.Replies.{no_crews, Eight}
use Rattle.roster.specs.Meaning.{CrewList}
use Rattle.roster.specs.declared.Table.{Table}
use Rattle.roster.specs.declared.Verdict.{Verdict}
use Rattle.roster.specs.declared.Verdict.TheVariants.{Yes, No, Undecided, Crews, None, Refused}
use Rattle.roster.specs.declared.Reply.{Reply}
use Rattle.crews.proofs.Laws.Sound.{none-at}
use Rattle.absences.specs.declared.Way.{Way}
use Rattle.absences.specs.Asked.{Admits, need_policy, PolicyReply, Tells}
use Rattle.absences.proofs.Laws.Decided.{Case, is_refused_lem, is_undecided, is_yes, is_no, admitted_fair, policy_case}
use Rattle.absences.proofs.Laws.Demands.{policy_exactly}
use Rattle.printed.specs.Laws.Lines.{never, Worded, says_yes, says_no, says_undecided}
use Rattle.printed.specs.Laws.Sets.{NoneBehind}

-- a reply that is printed: a verdict that has a word, sets of n rows, no crew behind an empty one, and no set but those that are written
pub record Shown (n : ℕ) (r : Reply) : Type 0 where
  pub word : Worded r.verdict
  pub eight : length r.crews ≡ crew_limit
  pub crews : (j : ℕ) → get_or r.crews j 0 < 2 ^ n
  pub behind : NoneBehind r.crews
  pub blocker : r.blocker < 2 ^ n
  pub no_crews_lem : r.verdict ≢ Yes → r.crews ≡ no_crews
  pub no_blocker : r.verdict ≢ No → r.blocker ≡ 0

-- ---- what an allowed reply shows

-- the crews of a list and the empty sets behind them, as a reply has them
module _ (table : Table) (P d t ed A : ℕ) (task : P ≢ 0) (crews : List ℕ) (list : CrewList table P d t ed A (take d crews)) (eight : Eight d crews) where
  list_at : (j : ℕ) → j < d → get_or (take d crews) j 0 ≡ get_or crews j 0
  list_at j l = get_or-take d crews j 0 l

  list-rows : (j : ℕ) → get_or crews j 0 < 2 ^ table.rows
  list-rows j = go (dec_lt j d)
    where
      go : Dec (j < d) → get_or crews j 0 < 2 ^ table.rows
      go (yes l) = subst (λ (crew : ℕ). crew < 2 ^ table.rows) (list_at j l) (list.rows j l)
      go (no n) = omega (arith, eight.past j (omega arith), pow_pos table.rows)

  -- a crew covers the task, so somebody is in it
  pub list_some : (j : ℕ) → j < d → get_or crews j 0 ≢ 0
  list_some j l e =
      let p = some_member P task in
      let u = list.whole j l p.0 p.1 in
      let z : get_or (take d crews) j 0 ≡ 0 = list_at j l ∙ e in
      omega (arith, bit-none u.0, ap (λ (m : ℕ). bit m u.0) z, u.1)

  list-behind : NoneBehind crews
  list-behind j k l e = go (dec_lt j d)
    where
      go : Dec (j < d) → get_or crews k 0 ≡ 0
      go (yes b) = absurd (list_some j b e)
      go (no n) = eight.past k (omega arith)

module _ (way : Way) (table : Table) (P s d t ed : ℕ) (wide : P < 2 ^ 32) (allowance : ℕ) (e : Admits table P s d t ed)
    (r : Reply) (a : PolicyReply way table P s d t ed allowance r) where
  tells : Tells way table P s d t ed allowance r
  tells = policy_exactly way table P s d t ed wide allowance r a

  worded : Worded r.verdict
  worded = go (policy_case (need_policy way table P s d t ed) table P s d t ed wide allowance)
    where
      go : Case (need_policy way table P s d t ed) table P s d t ed allowance → Worded r.verdict
      go (is_refused_lem refusal f) = never (cc)
      go (is_undecided f l) = subst Worded (sym (tells.undecided.1 (f, l))) says_undecided
      go (is_yes f l h) = subst Worded (sym (tells.yes.1 (f, l, h))) says_yes
      go (is_no f l A b) = subst Worded (sym (ap Reply.verdict (a.no f l A b))) says_no

  -- with yes there is a list with nobody absent, and each of its crews has somebody in it
  yes_list : r.verdict ≡ Yes → CrewList table P d t ed 0 (take d r.crews)
  yes_list q = (tells.crews q).1

  task : P ≢ 0
  task = (admitted_fair table P s d t ed wide e).task

  no_crew : r.verdict ≢ Yes → (j : ℕ) → get_or r.crews j 0 ≡ 0
  no_crew n j = ap (λ (l : List ℕ). get_or l j 0) (tells.no_crews_lem n) ∙ none-at j

  none : r.verdict ≢ Yes → ((j : ℕ) → get_or r.crews j 0 < 2 ^ table.rows) × NoneBehind r.crews
  none n = (λ j. omega (arith, no_crew n j, pow_pos table.rows), λ j k l z. no_crew n k)

  crews-shown : (v : Verdict) → Worded v → r.verdict ≡ v → ((j : ℕ) → get_or r.crews j 0 < 2 ^ table.rows) × NoneBehind r.crews
  crews-shown Yes says_yes q = (
    list-rows table P d t ed 0 task r.crews (yes_list q) tells.eight,
    list-behind table P d t ed 0 task r.crews (yes_list q) tells.eight,
  )
  crews-shown No says_no q = none (λ c. never (cc))
  crews-shown Undecided says_undecided q = none (λ c. never (cc))
  crews-shown Crews w q = elim w [ ]
  crews-shown None w q = elim w [ ]
  crews-shown (Refused _) w q = elim w [ ]

  blocker_shown : (v : Verdict) → Worded v → r.verdict ≡ v → r.blocker < 2 ^ table.rows
  blocker_shown Yes says_yes q = omega (arith, tells.no_blocker (λ c. never (cc)), pow_pos table.rows)
  blocker_shown No says_no q = (tells.blocker q).rows
  blocker_shown Undecided says_undecided q = omega (arith, tells.no_blocker (λ c. never (cc)), pow_pos table.rows)
  blocker_shown Crews w q = elim w [ ]
  blocker_shown None w q = elim w [ ]
  blocker_shown (Refused _) w q = elim w [ ]

  -- over n rows, of which the table has no more
  pub allowed_shown : (n : ℕ) → table.rows ≤ n → Shown n r
  allowed_shown n l = record {
    word = worded;
    eight = tells.eight.many;
    crews = λ j. lt_of_lt_of_le ((crews-shown r.verdict worded refl).0 j) (pow_mono l);
    behind = (crews-shown r.verdict worded refl).1;
    blocker = lt_of_lt_of_le (blocker_shown r.verdict worded refl) (pow_mono l);
    no_crews_lem = tells.no_crews_lem;
    no_blocker = tells.no_blocker;
  }
