-- 01, "The roster book": the number of each fault, and which numbers a book is refused with. Nothing here is proved: these are definitions.
use Rattle.std.specs.Prelude.{◌≡◌, ◌⊎◌, ℕ, ◌≤◌, Option, Some, None, Result, Ok, Err}
use Rattle.roster.specs.Refusals.{number_of}
use Rattle.book.specs.declared.Fault.{Fault}
use Rattle.book.specs.declared.Fault.TheVariants.{Short, Permissions, Code, Rows, Staff, Holdings, Policies, Task, Policy, Excess}
use Rattle.book.specs.declared.Starts.{Starts}
use Rattle.book.specs.declared.FaultAt.{FaultAt}

-- "**11** the book ends before it is whole; then for counts **12** permissions not 1 to 32, **14** rows above 64, **17** policies above 32;
-- for a code **13** not ascending; for a row **15** staff number not ascending, **16** a holding past the listed permissions; for a policy
-- **18** P past the listed permissions, then 2, 3, 4, 5 as above. Last, **19** bytes follow the policies". Request 08: "25, edition other than 1 or 2, after 5."
abbrev pub fault_number : Fault → ℕ
fault_number Short = 11
fault_number Permissions = 12
fault_number Code = 13
fault_number Rows = 14
fault_number Staff = 15
fault_number Holdings = 16
fault_number Policies = 17
fault_number Task = 18
fault_number (Policy refusal) = number_of refusal
fault_number Excess = 19

-- a number that a count or an entry is refused with once it is whole: one of 2 to 5 or of 12 to 18, or 25
abbrev pub EntryNumber : ℕ → Type 0
EntryNumber n = ((2 ≤ n) × (n ≤ 5)) ⊎ (((12 ≤ n) × (n ≤ 18)) ⊎ (n ≡ 25))

-- a number that a book is refused with: one of 2 to 5 or of 11 to 19, or 25. (1 and 6 are of questions: a fault can say them, no book has them.)
abbrev pub BookNumber : ℕ → Type 0
BookNumber n = ((2 ≤ n) × (n ≤ 5)) ⊎ (((11 ≤ n) × (n ≤ 19)) ⊎ (n ≡ 25))

-- the fault that a reply tells, without its place
abbrev pub fault_of : Result Starts FaultAt → Option Fault
fault_of (Ok starts) = None
fault_of (Err e) = Some e.fault
