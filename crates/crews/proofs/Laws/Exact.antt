-- Filling finds a crew list exactly if one exists, and what it finds is one: `sound` over a table, and `complete` at the rule before, which
-- finds one where filling does. So each absence either has a list or blocks, and where the policy holds each absence has one. Assumes nothing.
use Rattle.std.specs.Prelude.{◌≡◌, true, false, ◌⊎◌, ◌↔◌, List, ℕ, ◌^◌, ◌≤◌, ◌<◌, length, get_or, take}
use Rattle.std.proofs.Common.{sym, ◌∙◌, true≢false, inl, inr, ⊎_elim, arith}
use Rattle.sets.specs.Laws.Sums.{either}
use Rattle.roster.specs.declared.Table.{Table}
use Rattle.roster.specs.Limits.{crew_limit}
use Rattle.roster.specs.Meaning.{CrewList, Blocks, Absence, Holds}
use Rattle.crews.specs.Filling.{work_of, present, filling}
use Rattle.crews.proofs.Laws.Sound.{sound, eight}
pub use Rattle.crews.proofs.Laws.Fair.{Fair}
use Rattle.crews.proofs.Laws.Fair.{work_agrees}
use Rattle.crews.proofs.Laws.Before.{same_as_before, found_before_lem}

-- ---- exactness

module _ {table : Table} {P d : ℕ} (fair : Fair table P d) (t ed A : ℕ) where
  -- what it finds is a crew list
  pub finds_list : (filling table P d t ed A).found ≡ true → CrewList table P d t ed A (take d (filling table P d t ed A).crews)
  finds_list = sound table fair.rows A (work_of table P d t ed) fair.few (work_agrees table P d t ed fair.rows) ed (omega arith) _

  -- where A blocks it finds none
  pub blocks_none : Blocks table P d t ed A → (filling table P d t ed A).found ≡ false
  blocks_none b =
      ⊎_elim (λ e. absurd (b (take d (filling table P d t ed A).crews) (finds_list e))) (λ e. e) (either (filling table P d t ed A).found)

  module _ (rows : A < 2 ^ table.rows) where
    -- where a set of rows has a list it finds one
    pub list-found : (cs : List ℕ) → CrewList table P d t ed A cs → (filling table P d t ed A).found ≡ true
    list-found cs c = (same_as_before fair t ed A).found ∙ found_before_lem fair t ed A rows cs c

    -- where it finds none A blocks
    pub finds_none : (filling table P d t ed A).found ≡ false → Blocks table P d t ed A
    finds_none e cs c = true≢false (sym (list-found cs c) ∙ e)

    -- it finds a list exactly if there is one
    pub exactly : ((filling table P d t ed A).found ≡ true) ↔ ((cs : List ℕ) × CrewList table P d t ed A cs)
    exactly = (λ e. (take d (filling table P d t ed A).crews, finds_list e), λ x. list-found x.0 x.1)

    -- each set of rows either has a list or blocks
    pub decide : ((cs : List ℕ) × CrewList table P d t ed A cs) ⊎ Blocks table P d t ed A
    decide =
        ⊎_elim (λ e. inl (take d (filling table P d t ed A).crews, finds_list e)) (λ e. inr (finds_none e))
        (either (filling table P d t ed A).found)

-- where the policy holds, each absence that it allows has a list
pub holds_all : {table : Table} {P d : ℕ} → Fair table P d → (s t ed : ℕ) → Holds table P s d t ed → (A : ℕ) → Absence table s A
    → (cs : List ℕ) × CrewList table P d t ed A cs
holds_all fair s t ed h A a = ⊎_elim (λ x. x) (λ b. absurd (h A a b)) (decide fair t ed A a.rows)

-- ---- "Crews are eight sets; those past d are 0."

pub crews-eight : (table : Table) (P d t ed A : ℕ) → length (filling table P d t ed A).crews ≡ crew_limit
crews-eight table P d t ed A = (eight _ (work_of table P d t ed) (present table A)).many

pub crews-past : (table : Table) (P d t ed A j : ℕ) → d ≤ j → get_or (filling table P d t ed A).crews j 0 ≡ 0
crews-past table P d t ed A j h = (eight _ (work_of table P d t ed) (present table A)).past j h
