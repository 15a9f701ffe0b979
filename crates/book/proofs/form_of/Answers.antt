-- The first byte is 200 or 201, or it is neither. Assumes nothing.
use mathlib.Core.Path.{◌≡◌, sym, ap, ap₂, ◌∙◌}
use mathlib.Core.Logic.{◌≢◌}
use mathlib.Core.Bool.{Bool}
use Prim.Native.Nat.{ℕ}
use lib.Dec.{eqb}
use borrow.Author.Tests.{eq-eqb, ne_eqb}
use Rattle.book.specs.Reading.{form_by, form_of}
use Rattle.book.specs.declared.Form.TheVariants.{Old, Persons, Editions}
use Rattle.book.proofs.form_of.Goals as goal

-- the form by what the first byte is
module _ (first : ℕ) where
  persons : first ≡ 200 → Persons ≡ form_by (eqb first 200) (eqb first 201)
  persons e = sym (ap (λ (b : Bool). form_by b (eqb first 201)) (eq-eqb first 200 e))

  editions : first ≢ 200 → first ≡ 201 → Editions ≡ form_by (eqb first 200) (eqb first 201)
  editions n e = sym (ap₂ form_by (ne_eqb first 200 n) (eq-eqb first 201 e))

  old : first ≢ 200 → first ≢ 201 → Old ≡ form_by (eqb first 200) (eqb first 201)
  old n m = sym (ap₂ form_by (ne_eqb first 200 n) (ne_eqb first 201 m))

pub returns-then-first-eq-PERSONS-clause-reply : goal.returns-then-first-eq-PERSONS-clause-reply
unfolding form_of
returns-then-first-eq-PERSONS-clause-reply c =
    persons _ (sym c.count_at-first.ensures.0 ∙ c.if-first-eq-PERSONS.true)

pub returns-then-first-eq-EDITIONS-clause-reply : goal.returns-then-first-eq-EDITIONS-clause-reply
unfolding form_of
returns-then-first-eq-EDITIONS-clause-reply c =
    editions _ (λ e. c.if-first-eq-PERSONS.false (c.count_at-first.ensures.0 ∙ e)) (sym c.count_at-first.ensures.0 ∙ c.if-first-eq-EDITIONS.true)

pub returns-clause-reply : goal.returns-clause-reply
unfolding form_of
returns-clause-reply c =
    old _ (λ e. c.if-first-eq-PERSONS.false (c.count_at-first.ensures.0 ∙ e)) (λ e. c.if-first-eq-EDITIONS.false (c.count_at-first.ensures.0 ∙ e))
