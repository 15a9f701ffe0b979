-- What the writer's own functions look at: an entry by its index, and a section by its count and the looks at its entries. Nothing here is
-- proved: these are definitions.
use Rattle.std.specs.Prelude.{Bool, List, ◌∷◌, ℕ, zero, suc, ◌≤◌, get_or, Option, Some, None, Result, Ok, Err}
use Rattle.sets.specs.Arrays.{tabulate}
use Rattle.roster.specs.Limits.{row_limit}
use Rattle.roster.specs.declared.Policy.{Policy}
use Rattle.book.specs.Layout.{permission_limit, policy_limit}
use Rattle.book.specs.Reading.{Kind, not_above, codes, rows_of, policies_of}
use Rattle.book.specs.Inner.Steps.{count_amiss_in}
use Rattle.book.specs.declared.Fault.{Fault}
use Rattle.book.specs.declared.Row.{Row}
use Rattle.book.specs.declared.Section.{Section}
use Rattle.book.specs.declared.Section.TheVariants.{Permissions, Rows, Policies}
use Rattle.values.specs.Values.{nobody, unasked, policy_for}
use Rattle.values.specs.Writing.{first_of}
use Rattle.values.specs.declared.Values.{Values}
use Rattle.book.specs.declared.Amiss.{Amiss}

-- how many entries of a section there is room for, and how many are meant
abbrev pub limit_in : Section → ℕ
limit_in Permissions = permission_limit
limit_in Rows = row_limit
limit_in Policies = policy_limit

abbrev pub count_of : Values → Section → ℕ
count_of v Permissions = v.code_count
count_of v Rows = v.row_count
count_of v Policies = v.policy_count

-- no more are meant than there is room for
abbrev pub Counted : Values → Type 0
Counted v = (section : Section) → count_of v section ≤ limit_in section

-- an entry by its index
abbrev pub code_in : Values → ℕ → ℕ
code_in v i = get_or v.codes i 0

abbrev pub row_in : Values → ℕ → Row
row_in v i = get_or v.rows i nobody

-- a policy as it stands in memory, and the one that is meant
abbrev pub policy_given : Values → ℕ → Policy
policy_given v i = get_or v.policies i unasked

abbrev pub policy_in : Values → ℕ → Policy
policy_in v i = policy_for v.form (policy_given v i)

-- the one before, which the first has not
abbrev pub prior_to : {A : Type 0} → (ℕ → A) → ℕ → Option A
prior_to f zero = None
prior_to f (suc i) = Some (f i)

-- the number that an entry starts with: a code, a staff number, P
abbrev pub lead_of : Values → Section → ℕ → ℕ
lead_of v Permissions i = code_in v i
lead_of v Rows i = (row_in v i).staff
lead_of v Policies i = (policy_in v i).task

-- it is not above that of the entry before
abbrev pub stays_at : Values → Section → ℕ → Bool
stays_at v section i = not_above (prior_to (lead_of v section) i) (lead_of v section i)

-- what is amiss with an entry of a kind, beside the one before it
abbrev pub look_with : {A : Type 0} → Kind A → ℕ → (ℕ → A) → ℕ → Result Unit Amiss
look_with kind listed f i = kind.faults listed (prior_to f i) (f i)

abbrev pub look_at : Values → Section → ℕ → Result Unit Amiss
look_at v Permissions = look_with codes 0 (code_in v)
look_at v Rows = look_with (rows_of v.form) v.code_count (row_in v)
look_at v Policies = look_with (policies_of v.form) v.code_count (policy_in v)

-- all looks at a section: at its count, then at its entries
abbrev pub entry_looks : Values → Section → List (Result Unit Amiss)
entry_looks v section = tabulate (count_of v section) (look_at v section)

abbrev pub section_looks : Values → Section → List (Result Unit Amiss)
section_looks v section = count_amiss_in section (count_of v section) ∷ entry_looks v section

-- what is told of a fault that is there or not
abbrev pub told : Option Fault → Result Unit Fault
told None = Ok tt
told (Some f) = Err f

abbrev pub first_look : List (Result Unit Amiss) → Result Unit Fault
first_look l = told (first_of l)
