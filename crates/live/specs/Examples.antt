-- A day of calls, each with its answer, what the roster holds on the way, and what is replied when it is asked, as one table: the definitions run
-- on it. An answer is the place, or 100 and the number of the refusal.
use Rattle.std.specs.Prelude.{◌≡◌, refl, List, [], ◌∷◌, ◌++◌, map, ℕ, zero, suc, ◌+◌, ◌-◌, ◌^◌, length, replicate, get_or, Result, Ok, Err}
use Rattle.std.specs.Int.Count.{ones, ones_in, count_trailing_zeros}
use Rattle.sets.specs.Sets.{bit}
use Rattle.sets.specs.Sums.{sum_to, to_n}
use Rattle.sets.specs.Members.{cons?, members, filter, hasb, set_of}
use Rattle.sets.specs.Arrays.{tabulate}
use Rattle.roster.specs.declared.Table.{Table}
use Rattle.roster.specs.Meaning.{least_members, outweighsb, ahead, rank}
use Rattle.roster.specs.Refusals.{policy_ruling, named_ruling}
use Rattle.crews.specs.Filling.{place_of, close_of, closes_of, placed_of, pool_of, candidates, try_each, search}
use Rattle.absences.specs.declared.Way.TheVariants.{Full, Skipping}
use Rattle.absences.specs.Tried.{row_from, joins, listed, sizes_from, weighed}
use Rattle.absences.specs.Replied.{policy_reply_of}
use Rattle.absences.specs.Examples.{Example, policy, named, H, table_of as table_with, set_of_rows, yes_with, no_with, crews-with, none-with, ample}
use Rattle.absences.specs.Examples.{AllAllowed}
use Rattle.absences.proofs.Examples.{all_allowed}
use Rattle.live.specs.Changes.{Call, hire, leave, grant, revoke, first_from, told_of, empty, gathered_of, table_of}
use Rattle.live.specs.Numbers.{objection_number}
use Rattle.live.specs.declared.Roster.{Roster}
use Rattle.live.specs.declared.Objection.{Objection}

-- ---- how the table is written

pub record Turn : Type 0 where
  pub call : Call
  pub answer : ℕ

infix 68 ◌answers◌
abbrev pub ◌answers◌ : Call → ℕ → Turn
c answers n = record { call = c; answer = n }

abbrev pub said : Result ℕ Objection → ℕ
said (Ok place) = place
said (Err objection) = 100 + objection_number objection

-- what the calls answer one after the other, and the roster after them
abbrev pub told : Roster → List Turn → List ℕ
told r [] = []
told r (t ∷ rest) = said (told_of r t.call).outcome ∷ told (told_of r t.call).roster rest

abbrev pub ran : Roster → List Turn → Roster
ran r [] = r
ran r (t ∷ rest) = ran (told_of r t.call).roster rest

-- these numbers, and 0 up to n
abbrev pub filled_to : ℕ → List ℕ → List ℕ
filled_to n l = l ++ replicate (n - length l) 0

abbrev pub roster_with : ℕ → (staff holdings holders : List ℕ) → Roster
roster_with occupied staff holdings holders = record {
  occupied = occupied;
  staff = filled_to 64 staff;
  holdings = filled_to 64 holdings;
  holders = filled_to 32 holders;
}

-- a part of the day: the roster before it, the calls, the roster after it, and that roster's table with its staff numbers
pub record Part : Type 0 where
  pub before : Roster
  pub turns : List Turn
  pub after : Roster
  pub table : Table
  pub numbers : List ℕ

-- ---- the table

abbrev pub four : Roster
four = roster_with 15 (101 ∷ 102 ∷ 103 ∷ 104 ∷ []) (3 ∷ 1 ∷ 2 ∷ 3 ∷ []) (11 ∷ 13 ∷ [])

abbrev pub renewed : Roster
renewed = roster_with 15 (101 ∷ 205 ∷ 103 ∷ 104 ∷ []) (3 ∷ 0 ∷ 2 ∷ 3 ∷ []) (9 ∷ 13 ∷ [])

abbrev pub three : Roster
three = roster_with 14 (0 ∷ 205 ∷ 103 ∷ 104 ∷ []) (0 ∷ 1 ∷ 2 ∷ 3 ∷ []) (10 ∷ 12 ∷ [])

abbrev pub fewer : Roster
fewer = roster_with 14 (0 ∷ 205 ∷ 103 ∷ 104 ∷ []) (0 ∷ 1 ∷ 2 ∷ 2 ∷ []) (2 ∷ 12 ∷ [])

abbrev pub day : List Part
day =
    -- four are hired and get what H of the checked examples has
    record {
      before = empty;
      turns =
          hire 101 answers 0 ∷ hire 102 answers 1 ∷ hire 103 answers 2 ∷ hire 104 answers 3
          ∷ grant 101 0 answers 0 ∷ grant 101 1 answers 0 ∷ grant 102 0 answers 1 ∷ grant 103 1 answers 2 ∷ grant 104 0 answers 3
          ∷ grant 104 1 answers 3 ∷ [];
      after = four;
      table = H;
      numbers = filled_to 64 (101 ∷ 102 ∷ 103 ∷ 104 ∷ []);
    }
    -- each refusal, 21 before 22; what is held is granted again, what is not held is revoked; nothing moves
    ∷ record {
      before = four;
      turns =
          hire 102 answers 123 ∷ grant 101 32 answers 121 ∷ grant 999 32 answers 121 ∷ grant 999 5 answers 122 ∷ revoke 999 31 answers 122
          ∷ revoke 101 32 answers 121 ∷ leave 999 answers 122 ∷ grant 101 0 answers 0 ∷ revoke 102 1 answers 1 ∷ [];
      after = four;
      table = H;
      numbers = filled_to 64 (101 ∷ 102 ∷ 103 ∷ 104 ∷ []);
    }
    -- a place left is used again, with no holdings
    ∷ record {
      before = four;
      turns = leave 102 answers 1 ∷ hire 205 answers 1 ∷ [];
      after = renewed;
      table = table_with (3 ∷ 0 ∷ 2 ∷ 3 ∷ []);
      numbers = filled_to 64 (101 ∷ 205 ∷ 103 ∷ 104 ∷ []);
    }
    -- places are squeezed together in the table
    ∷ record {
      before = renewed;
      turns = grant 205 0 answers 1 ∷ leave 101 answers 0 ∷ [];
      after = three;
      table = table_with (1 ∷ 2 ∷ 3 ∷ []);
      numbers = filled_to 64 (205 ∷ 103 ∷ 104 ∷ []);
    }
    -- 0 is an ordinary staff number
    ∷ record {
      before = three;
      turns = hire 0 answers 0 ∷ leave 0 answers 0 ∷ leave 0 answers 122 ∷ revoke 104 0 answers 3 ∷ [];
      after = fewer;
      table = table_with (1 ∷ 2 ∷ 2 ∷ []);
      numbers = filled_to 64 (205 ∷ 103 ∷ 104 ∷ []);
    }
    ∷ []

-- what is asked on the way: sets speak of the table's rows
abbrev pub asked : List Example
asked =
    record { question = policy Skipping (table_of four) 3 1 2 2 1 ample; reply = yes_with ((0 ∷ []) ∷ (1 ∷ 2 ∷ []) ∷ []) 8 }
    ∷ record { question = policy Full (table_of four) 3 1 2 2 1 ample; reply = yes_with ((0 ∷ []) ∷ (1 ∷ 2 ∷ []) ∷ []) 19 }
    ∷ record { question = policy Skipping (table_of four) 3 2 2 2 1 ample; reply = no_with (0 ∷ 3 ∷ []) 11 }
    ∷ record { question = policy Skipping (table_of four) 3 1 2 2 2 ample; reply = no_with (0 ∷ []) 13 }
    ∷ record { question = policy Skipping (table_of three) 3 0 1 1 1 ample; reply = yes_with ((2 ∷ []) ∷ []) 3 }
    ∷ record { question = policy Skipping (table_of three) 3 0 1 2 1 ample; reply = yes_with ((0 ∷ 1 ∷ []) ∷ []) 3 }
    ∷ record { question = named (table_of three) 3 1 2 1 (set_of_rows (0 ∷ [])) ample; reply = crews-with ((2 ∷ []) ∷ []) 1 }
    ∷ record { question = named (table_of three) 3 2 2 1 (set_of_rows (2 ∷ [])) ample; reply = none-with 2 }
    ∷ []

-- 64 places full: 23 before 24, and the place that is left is used again
abbrev pub hires : ℕ → List Turn
hires zero = []
hires (suc n) = hires n ++ (hire n answers n ∷ [])

abbrev pub crowd : List Turn
crowd =
    hires 64
    ++ (hire 64 answers 124 ∷ hire 63 answers 123 ∷ leave 40 answers 40 ∷ hire 64 answers 40 ∷ grant 64 31 answers 40 ∷ hire 65 answers 124 ∷ [])

-- ---- the fact

pub examples_hold : (map (λ (p : Part). told p.before p.turns) day ≡ map (λ (p : Part). map Turn.answer p.turns) day)
    × (map (λ (p : Part). ran p.before p.turns) day ≡ map Part.after day)
    × (map (λ (p : Part). table_of p.after) day ≡ map Part.table day)
    × (map (λ (p : Part). gathered_of p.after.occupied p.after.staff) day ≡ map Part.numbers day)
    × AllAllowed asked
    × (told empty crowd ≡ map Turn.answer crowd)
    × (get_or (ran empty crowd).holders 31 0 ≡ 2 ^ 40)
unfolding bit sum_to to_n cons? members filter hasb set_of tabulate ones ones_in count_trailing_zeros ahead rank outweighsb least_members place_of close_of closes_of placed_of pool_of candidates try_each search row_from joins listed sizes_from weighed policy_ruling named_ruling policy_reply_of first_from told_of table_of
examples_hold = (refl, refl, refl, refl, all_allowed asked refl refl, refl, refl)
