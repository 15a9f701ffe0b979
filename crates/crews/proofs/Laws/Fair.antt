-- The rule over a table: what an admitted question has of what filling needs, that the work is about the table, and that the crews of a
-- list are what the search looks for. Assumes nothing.
use Rattle.std.specs.Prelude.{refl, ◌≢◌, List, ℕ, ◌-◌, ◌^◌, ◌≤◌, ◌<◌, get_or}
use Rattle.std.proofs.Common.{ap, ◌∙◌, ⊎_elim, lt_of_lt_of_le, arith, pow_mono, pow_pos}
use Rattle.std.proofs.lemmas.Bool.{lt-leb}
use Rattle.sets.specs.Sets.{bit, Has, bit_below}
use Rattle.sets.proofs.Sets.{minus-sub, sub_lt}
use Rattle.sets.specs.Members.{hasb}
use Rattle.sets.specs.Laws.Tests.{to_n-hasb}
use Rattle.sets.proofs.Laws.Build.{set_of-bit}
use Rattle.roster.specs.declared.Table.{Table}
use Rattle.roster.specs.Limits.{row_limit, crew_limit}
use Rattle.roster.specs.Meaning.{CrewList}
use Rattle.crews.specs.Filling.{holds_of, work_of, work_before, present}
use Rattle.crews.proofs.Laws.Sound.{Agrees, present_in, in_present}
use Rattle.crews.proofs.Laws.Complete.{Ready, Solves, same_or_not}

-- what an admitted question has of what exactness needs
pub record Fair (table : Table) (P d : ℕ) : Type 0 where
  pub rows : table.rows ≤ row_limit
  pub task : P ≢ 0
  pub wide : P < 2 ^ 32
  pub some : 1 ≤ d
  pub few : d ≤ crew_limit

pub work_agrees : (table : Table) (P d t ed : ℕ) → table.rows ≤ row_limit → Agrees table (work_of table P d t ed)
work_agrees table P d t ed h =
    record {
      holds = λ u l. rw (lt-leb table.rows u l, holds_of);
      holders = λ p u l.
          set_of-bit row_limit (λ v. hasb (holds_of table P v) p) u (omega arith) ∙ to_n-hasb (holds_of table P u) p;
    }

module _ (table : Table) (P d : ℕ) (fair : Fair table P d) (t ed A : ℕ) where
  pub work_ready : Ready (work_before table P d t ed) (present table A)
  work_ready =
      record {
        plain = record { begins = λ f u. refl };
        few = fair.few;
        some = fair.task;
        wide = fair.wide;
        rows =
            sub_lt row_limit (present table A) (2 ^ table.rows - 1) (minus-sub row_limit (2 ^ table.rows - 1) A)
            (lt_of_lt_of_le (omega (arith, pow_pos table.rows)) (pow_mono fair.rows));
        holders = λ p u q h.
            (work_agrees table P d t ed fair.rows).holders p u (present_in table A u fair.rows q).0 ∙ h;
      }

  -- the crews of a list, each by its place
  pub list_solves : A < 2 ^ table.rows → (cs : List ℕ) → CrewList table P d t ed A cs
      → Solves (work_before table P d t ed) (present table A) (λ j. get_or cs j 0)
  list_solves a cs c =
      record {
        free = λ j u l q. in_present table A u fair.rows a (row j u l q) (omega (arith, c.present j l u));
        apart = λ i j u l m q r.
            ⊎_elim (λ e. e) (λ n. absurd (omega (arith, c.disjoint i j l m n u))) (same_or_not i j);
        small = λ j l. omega (arith, c.small j l);
        enough = λ j l. omega (arith, c.enough j l);
        whole = λ j l p q.
            let x = c.whole j l p q in
            (x.0, x.1, ap (λ (m : ℕ). bit m p) ((work_agrees table P d t ed fair.rows).holds x.0 (row j x.0 l x.1)) ∙ x.2);
      }
    where
      row : (j u : ℕ) → j < d → Has (get_or cs j 0) u → u < table.rows
      row j u l q = bit_below (get_or cs j 0) table.rows u (c.rows j l) q
