-- The numbers that the policy is made of are the fields that stand there. Assumes nothing.
use mathlib.Core.Path.{◌≡◌, ◌∙◌}
use mathlib.Core.List.{List}
use Prim.Native.Nat.{ℕ, ◌+◌}
use native.Mathlib.Nat.{add_assoc}
use lib.ListN.{get_or}
use Rattle.roster.specs.Refusals.{made_of}
use Rattle.book.specs.Reading.{number, fields_at, policies_of, entry_at}
use Rattle.book.specs.Inner.Steps.{made_at}
use Rattle.book.specs.declared.Form.{Form}
use Rattle.book.proofs.Numbers.{number_1}
use Rattle.book.proofs.Reader.policy_from.Goals as goal

-- a policy of the numbers that stand here is the policy that stands here
made_here : (form : Form) (book : List ℕ) (at : ℕ) {P s d t e : ℕ} → P ≡ number 4 book at → s ≡ get_or book (at + 4) 0 → d ≡ get_or book (at + 5) 0
    → t ≡ get_or book (at + 6) 0 → e ≡ (entry_at (policies_of form) book at).edition → made_of P s d t e ≡ made_at form book at
unfolding fields_at
made_here form book at eP es ed et ee = rw (eP, es, ed, et, ee) (simp (number_1, add_assoc))

pub returns : goal.returns
returns c = c.new.ensures.made
    ∙ made_here c.args.self.form _ _
    c.four-task.ensures
    (c.from-away.ensures ∙ c.byte.ensures)
    c.count_at-crews.ensures.0
    (c.from-size.ensures ∙ c.byte-2.ensures)
    c.edition_from-edition.ensures
