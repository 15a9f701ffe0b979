-- The values of a book are no more than their arrays have. Assumes nothing.
use Rattle.std.specs.Prelude.{◌≡◌, ℕ, List, length}
use Rattle.std.proofs.Common.{sym, ap, subst, ⊎_elim, arith}
use Rattle.book.specs.Layout.{Contents, Admitted}
use Rattle.book.proofs.Laws.Books.{Good, Refused, reply, good_layout}
use Rattle.book.specs.Parts.{contents_of}
use Rattle.book.specs.Promises.{Bytes}
use Rattle.book.specs.Reading.{form_of, starts_of}
use Rattle.book.specs.declared.Form.{Form}
use Rattle.book.specs.declared.Section.TheVariants.{Permissions, Rows, Policies}
use Rattle.values.specs.Values.{contents_for, values_for, no_values, values_of}
use Rattle.values.specs.Inner.Looks.{Counted}
use Rattle.values.specs.Laws.Meant.{counted}
use Rattle.values.proofs.Laws.OfBook.{values_of_good, values_of_refused}
use Rattle.values.specs.declared.Values.{Values}

admitted_counted : (v : Values) (c : Contents) → contents_for v ≡ c → Admitted c → Counted v
admitted_counted v c e a Permissions = omega (arith, (counted v).codes, ap (λ (x : Contents). length x.codes) e, a.permissions)
admitted_counted v c e a Rows = omega (arith, (counted v).rows, ap (λ (x : Contents). length x.rows) e, a.rows)
admitted_counted v c e a Policies = omega (arith, (counted v).policies, ap (λ (x : Contents). length x.policies) e, a.policies)

none_counted : (form : Form) → Counted (no_values form)
unfolding values_for
none_counted form Permissions = omega arith
none_counted form Rows = omega arith
none_counted form Policies = omega arith

-- of any byte string, a refused one too
pub book_counted : (book : List ℕ) → Bytes book → Counted (values_of book)
book_counted book bytes = ⊎_elim good refused (reply book)
  where
    good : Good book → Counted (values_of book)
    good g =
        let starts = starts_of (form_of book) book in
        admitted_counted (values_of book) (contents_of book) (values_of_good book starts bytes g.reply) (good_layout book starts bytes g.reply).admitted

    refused : Refused book → Counted (values_of book)
    refused r = subst Counted (sym (values_of_refused book r.fault r.place r.reply)) (none_counted (form_of book))
