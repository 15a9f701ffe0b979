-- What the editions mean for each other: the first asks for nothing beside what 01 says, what the second admits the first admits too, and crews of
-- one are none under the second. Assumes nothing.
use Rattle.std.specs.Prelude.{◌≡◌, refl, ◌≢◌, ◌↔◌, List, ℕ, ◌^◌, ◌≤◌, ◌<◌, length, get_or}
use Rattle.std.proofs.Common.{arith, ne_eqb}
use Rattle.std.specs.Int.Count.{ones}
use Rattle.sets.specs.Sets.{Apart}
use Rattle.roster.specs.declared.Table.{Table}
use Rattle.roster.specs.Meaning.{Covers, least_members, CrewList, Blocks, Holds}

pub other_least : (ed : ℕ) → ed ≢ 2 → least_members ed ≡ 0
unfolding least_members
other_least ed n = rw (ne_eqb ed 2 n, least_members)

pub first-least : least_members 1 ≡ 0
unfolding least_members
first-least = refl

pub second_least : least_members 2 ≡ 2
unfolding least_members
second_least = refl

-- ---- the first edition

-- 01's crew list, word for word: `CrewList` without `enough`
pub record CrewListAnyMembers (table : Table) (P d t A : ℕ) (crews : List ℕ) : Type 0 where
  pub many : length crews ≡ d
  pub rows : (j : ℕ) → j < d → get_or crews j 0 < 2 ^ table.rows
  pub disjoint : (i j : ℕ) → i < d → j < d → i ≢ j → Apart (get_or crews i 0) (get_or crews j 0)
  pub present : (j : ℕ) → j < d → Apart (get_or crews j 0) A
  pub small : (j : ℕ) → j < d → ones (get_or crews j 0) ≤ t
  pub whole : (j : ℕ) → j < d → Covers table P (get_or crews j 0)

module _ (table : Table) (P d t A : ℕ) (crews : List ℕ) where
  -- an edition only takes lists away
  pub any_members : (ed : ℕ) → CrewList table P d t ed A crews → CrewListAnyMembers table P d t A crews
  any_members ed k = record {
    many = k.many;
    rows = k.rows;
    disjoint = k.disjoint;
    present = k.present;
    small = k.small;
    whole = k.whole;
  }

  -- "hospitals on the first edition stay there": its lists are 01's
  pub first_edition : CrewList table P d t 1 A crews ↔ CrewListAnyMembers table P d t A crews
  first_edition = (any_members 1, from)
    where
      from : CrewListAnyMembers table P d t A crews → CrewList table P d t 1 A crews
      from k = record {
        many = k.many;
        rows = k.rows;
        disjoint = k.disjoint;
        present = k.present;
        small = k.small;
        whole = k.whole;
        enough = λ j l. omega (arith, first-least);
      }

  -- so a list of any edition is one of the first
  pub list_of_first : (ed : ℕ) → CrewList table P d t ed A crews → CrewList table P d t 1 A crews
  list_of_first ed k = first_edition.1 (any_members ed k)

-- what blocks under the first edition blocks under any
pub first_blocks : (table : Table) (P d t ed A : ℕ) → Blocks table P d t 1 A → Blocks table P d t ed A
first_blocks table P d t ed A b crews k = b crews (list_of_first table P d t A crews ed k)

-- and a policy that holds under any edition holds under the first: a "yes" under the second is one under the first
pub holds-first : (table : Table) (P s d t ed : ℕ) → Holds table P s d t ed → Holds table P s d t 1
holds-first table P s d t ed h A a b = h A a (first_blocks table P d t ed A b)

-- ---- the second edition

-- "With t = 1 no crew exists": every absence blocks
pub single_none : (table : Table) (P d A : ℕ) → 1 ≤ d → Blocks table P d 1 2 A
single_none table P d A l crews k = omega (arith, second_least, k.small 0 (omega arith), k.enough 0 (omega arith))
