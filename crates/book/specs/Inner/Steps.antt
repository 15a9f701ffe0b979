-- The reader's own steps, by the section's name: what its functions answer. Reading is what they come to. Nothing here is proved: these are
-- definitions.
use Rattle.std.specs.Prelude.{Bool, List, ℕ, ◌+◌, ◌*◌, ltb, length, Option, Some, None, Result, Ok}
use Rattle.roster.specs.Limits.{row_limit}
use Rattle.roster.specs.Refusals.{made}
use Rattle.book.specs.Layout.{policy_limit}
use Rattle.book.specs.Reading.{Look, number, not_above, prior, codes, rows_of, policies_of, width, entry_at, amiss_if, fault_if, count_at, entry_look, in_turn, section_looks, past, first_fault}
use Rattle.book.specs.declared.Form.{Form}
use Rattle.book.specs.declared.Section.{Section}
use Rattle.book.specs.declared.Section.TheVariants.{Permissions, Rows, Policies}
use Rattle.book.specs.declared.Fault.{Fault}
use Rattle.book.specs.declared.Fault.TheVariants as fault
use Rattle.book.specs.declared.Amiss.{Amiss}
use Rattle.book.specs.declared.FaultAt.{FaultAt}
use Rattle.book.specs.declared.Cursor.{Cursor}
use Rattle.roster.specs.declared.Refusal.{Refusal}
use Rattle.roster.specs.declared.Policy.{Policy}

abbrev pub width_in : Form → Section → ℕ
width_in form Permissions = width codes
width_in form Rows = width (rows_of form)
width_in form Policies = width (policies_of form)

-- the number that an entry starts with: a code, a staff number, P
abbrev pub lead_in : Section → List ℕ → ℕ → ℕ
lead_in Permissions book at = number 2 book at
lead_in Rows book at = number 4 book at
lead_in Policies book at = number 4 book at

-- it is not above that of the entry before
abbrev pub stays_in : Section → List ℕ → Cursor → Bool
stays_in section book c = not_above (prior (lead_in section book) c.before) (lead_in section book c.at)

-- the counts that are out of range, and their fault
abbrev pub out_in : Section → ℕ → Bool
out_in Permissions = codes.out_of_range
out_in Rows = ltb row_limit
out_in Policies = ltb policy_limit

abbrev pub count_fault_in : Section → Fault
count_fault_in Permissions = codes.count_fault
count_fault_in Rows = fault.Rows
count_fault_in Policies = fault.Policies

-- a count by itself, and one of the book
abbrev pub count_amiss_in : Section → ℕ → Result Unit Amiss
count_amiss_in section count = amiss_if (out_in section count) (count_fault_in section) 0 (Ok tt)

abbrev pub count_in : Section → List ℕ → ℕ → Look
count_in section book at =
    fault_if (ltb (length book) (at + 1)) fault.Short at
    (fault_if (out_in section (count_at book at)) (count_fault_in section) at
    (Ok tt))

-- what the policy makes that stands here
abbrev pub made_at : Form → List ℕ → ℕ → Result Policy Refusal
made_at form book at = made (entry_at (policies_of form) book at)

abbrev pub look_in : Form → Section → List ℕ → ℕ → Option ℕ → ℕ → Look
look_in form Permissions = entry_look codes
look_in form Rows = entry_look (rows_of form)
look_in form Policies = entry_look (policies_of form)

-- past an entry of this width
abbrev pub past_entry : Cursor → ℕ → Cursor
past_entry c wide = record { before = Some c.at; at = c.at + wide }

-- n entries from this cursor on
unfoldable pub step_from : (Option ℕ → ℕ → Look) → ℕ → Cursor → ℕ → Result ℕ FaultAt
step_from look wide c n =
    first_fault (c.at + wide * n) (in_turn look wide c.before c.at n)

abbrev pub start_at : ℕ → Cursor
start_at at = record { before = None; at = at }

-- a whole section
abbrev pub looks_in : Form → Section → List ℕ → ℕ → ℕ → List Look
looks_in form Permissions = section_looks codes
looks_in form Rows = section_looks (rows_of form)
looks_in form Policies = section_looks (policies_of form)

abbrev pub past_in : Form → Section → List ℕ → ℕ → ℕ
past_in form Permissions = past codes
past_in form Rows = past (rows_of form)
past_in form Policies = past (policies_of form)

unfoldable pub step_in : Form → Section → List ℕ → ℕ → ℕ → Result ℕ FaultAt
step_in form section book listed at =
    first_fault (past_in form section book at) (looks_in form section book listed at)
