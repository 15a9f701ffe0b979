-- The loop's invariant: the whole section comes to what is left of it from the cursor on. Assumes nothing.
use mathlib.Core.Path.{◌≡◌}
use mathlib.Core.List.{List}
use Prim.Native.Nat.{ℕ, ◌-◌}
use Rattle.std.specs.Prelude.{Result}
use Rattle.book.specs.Inner.Steps.{look_in, width_in, step_from, start_at}
use Rattle.book.specs.declared.Form.{Form}
use Rattle.book.specs.declared.Section.{Section}
use Rattle.book.specs.declared.Cursor.{Cursor}
use Rattle.book.specs.declared.FaultAt.{FaultAt}
use Rattle.book.proofs.Reader.entries.Given as goal

-- the entries from a cursor on
abbrev pub steps : List ℕ → Form → Section → ℕ → Cursor → ℕ → Result ℕ FaultAt
steps book form section listed = step_from (look_in form section book listed) (width_in form section)

abbrev pub invariant-loop-passed : goal.invariant-loop-passed
invariant-loop-passed l = (l.wide ≡ width_in l.self.form l.section) × (steps l.self.bytes.now l.self.form l.section l.listed (start_at l.at) l.count ≡ steps l.self.bytes.now l.self.form l.section l.listed l.cursor (l.count - l._passed))
