-- Accounts, their ruling and their persons, as one table: the definitions run on it.
use Rattle.std.specs.Prelude.{◌≡◌, refl, List, [], ◌∷◌, ◌++◌, map, ℕ, ◌-◌, length, replicate, Err, Ok, Result}
use Rattle.sets.specs.Sums.{sum_to, to_n}
use Rattle.sets.specs.Arrays.{tabulate}
use Rattle.roster.specs.declared.Refusal.TheVariants.{Rows}
use Rattle.roster.specs.Limits.{row_limit}
use Rattle.accounts.specs.declared.Accounts.{Accounts}
use Rattle.accounts.specs.declared.People.{People}
use Rattle.accounts.specs.Persons.{first, union_to, first_of, leads, count_of, person_of, held_by, number_of, people_of}
use Rattle.accounts.specs.Refusals.{accounts_ruling}
use Rattle.roster.specs.declared.Refusal.{Refusal}

-- ---- how the table is written

-- 64 numbers: these, and then 0
abbrev filled : List ℕ → List ℕ
filled l = l ++ replicate (row_limit - length l) 0

-- n rows; those listed have these holdings and these person numbers
abbrev pub accounts_with : (holdings persons : List ℕ) → ℕ → Accounts
accounts_with holdings persons n = record { holdings = filled holdings; persons = filled persons; rows = n }

-- n persons, holding this and with these numbers
abbrev pub people_with : (holdings numbers : List ℕ) → ℕ → People
people_with holdings numbers n = record { table = record { holdings = filled holdings; rows = n }; numbers = filled numbers }

pub record Example : Type 0 where
  pub accounts : Accounts
  pub ruling : Result Unit Refusal
  pub people : People

-- ---- the table

abbrev pub examples : List Example
examples =
    -- no rows
    record { accounts = accounts_with [] [] 0; ruling = Ok tt; people = people_with [] [] 0 }
    -- two rows, one person
    ∷ record { accounts = accounts_with (1 ∷ 2 ∷ []) (7 ∷ 7 ∷ []) 2; ruling = Ok tt; people = people_with (3 ∷ []) (7 ∷ []) 1 }
    -- in the order of first rows, not of person numbers
    ∷ record {
      accounts = accounts_with (1 ∷ 2 ∷ 2 ∷ 1 ∷ 3 ∷ []) (7 ∷ 9 ∷ 7 ∷ 9 ∷ 4 ∷ []) 5;
      ruling = Ok tt;
      people = people_with (3 ∷ 3 ∷ 3 ∷ []) (7 ∷ 9 ∷ 4 ∷ []) 3;
    }
    -- who holds nothing is a person too, and 0 is a number like any other
    ∷ record {
      accounts = accounts_with (0 ∷ 1 ∷ 0 ∷ 2 ∷ 3 ∷ []) (0 ∷ 2 ∷ 0 ∷ 2 ∷ 3 ∷ []) 5;
      ruling = Ok tt;
      people = people_with (0 ∷ 3 ∷ 3 ∷ []) (0 ∷ 2 ∷ 3 ∷ []) 3;
    }
    -- the largest number and the last permission; what two rows both hold is held once
    ∷ record {
      accounts = accounts_with (2147483649 ∷ 1 ∷ 1 ∷ []) (4294967295 ∷ 0 ∷ 4294967295 ∷ []) 3;
      ruling = Ok tt;
      people = people_with (2147483649 ∷ 1 ∷ []) (4294967295 ∷ 0 ∷ []) 2;
    }
    -- what stands past the count plays no part
    ∷ record { accounts = accounts_with (1 ∷ 2 ∷ 4 ∷ []) (5 ∷ 6 ∷ 5 ∷ []) 2; ruling = Ok tt; people = people_with (1 ∷ 2 ∷ []) (5 ∷ 6 ∷ []) 2 }
    -- 64 rows of two persons; one row more is refused, however few the persons are, and plays no part
    ∷ record { accounts = accounts_with (1 ∷ 2 ∷ 4 ∷ []) (5 ∷ []) 64; ruling = Ok tt; people = people_with (1 ∷ 6 ∷ []) (5 ∷ []) 2 }
    ∷ record { accounts = accounts_with (1 ∷ 2 ∷ 4 ∷ []) (5 ∷ []) 65; ruling = Err Rows; people = people_with (1 ∷ 6 ∷ []) (5 ∷ []) 2 }
    ∷ []

-- ---- the fact

pub examples_hold : (map (λ (e : Example). accounts_ruling e.accounts) examples ≡ map Example.ruling examples)
    × (map (λ (e : Example). people_of e.accounts) examples ≡ map Example.people examples)
unfolding first union_to first_of leads count_of person_of held_by number_of tabulate sum_to to_n accounts_ruling
examples_hold = (refl, refl)
