-- The byte after t, or the first edition where there is none. Assumes nothing.
use mathlib.Core.Path.{◌≡◌, sym, ap, ◌∙◌}
use mathlib.Core.List.{List}
use Prim.Native.Nat.{ℕ, ◌+◌}
use native.Mathlib.Nat.{add_assoc}
use lib.ListN.{get_or}
use Rattle.book.specs.Reading.{fields_at, policies_of, entry_at}
use Rattle.book.specs.declared.Form.{Form}
use Rattle.book.specs.declared.Form.TheVariants.{Editions}
use Rattle.book.proofs.Numbers.{number_1}
use Rattle.book.proofs.Reader.edition_from.Goals as goal

-- where it stands
edition_there : (book : List ℕ) (at : ℕ) → get_or book (at + 7) 0 ≡ (entry_at (policies_of Editions) book at).edition
unfolding fields_at
edition_there book at = simp (number_1, add_assoc)

pub returns-in-Editions : goal.returns-in-Editions
returns-in-Editions c = let a = c.args in
    c.from.ensures
    ∙ c.byte.ensures
    ∙ edition_there a.self.bytes.now a.at
    ∙ ap (λ (form : Form). (entry_at (policies_of form) a.self.bytes.now a.at).edition) (sym c.in-Editions.is)
