-- Requests 01, 04 and 08: the values of a book, all at once, in memory. Nothing here is proved: these are definitions, and they run.
use Rattle.std.specs.Prelude.{List, ℕ, length, get_or, Result, Ok, Err}
use Rattle.sets.specs.Arrays.{tabulate}
use Rattle.roster.specs.Limits.{row_limit}
use Rattle.roster.specs.declared.Policy.{Policy}
use Rattle.book.specs.Layout.{Contents, row_fields, policy_fields, form_has_persons, form_has_editions, permission_limit, policy_limit}
use Rattle.book.specs.Reading.{row_with, policy_with, form_of, read_of}
use Rattle.book.specs.Parts.{contents_of}
use Rattle.book.specs.Promises.{nothing}
use Rattle.book.specs.declared.Form.{Form}
use Rattle.book.specs.declared.Row.{Row}
use Rattle.values.specs.declared.Values.{Values}
use Rattle.book.specs.declared.Starts.{Starts}
use Rattle.book.specs.declared.FaultAt.{FaultAt}

-- what stands where no row and no policy is
abbrev pub nobody : Row
nobody = record { staff = 0; person = 0; holdings = 0 }

abbrev pub unasked : Policy
unasked = record { task = 0; away = 0; crews = 0; size = 0; edition = 0 }

-- "the fields it has and no others": the row and the policy that the fields of their form say
abbrev pub row_for : Form → Row → Row
row_for form row = row_with (form_has_persons form) (row_fields (form_has_persons form) row)

abbrev pub policy_for : Form → Policy → Policy
policy_for form p = policy_with (form_has_editions form) (policy_fields (form_has_editions form) p)

-- The values that are meant: as many as the count says, however many the arrays have room for. What stands past a count plays no part.
unfoldable pub contents_for : Values → Contents
contents_for v = record {
  form = v.form;
  codes = tabulate v.code_count (λ i. get_or v.codes i 0);
  rows = tabulate v.row_count (λ i. row_for v.form (get_or v.rows i nobody));
  policies = tabulate v.policy_count (λ i. policy_for v.form (get_or v.policies i unasked));
}

-- these contents in arrays, with nothing past them
unfoldable pub values_for : Contents → Values
values_for v = record {
  form = v.form;
  codes = tabulate permission_limit (λ i. get_or v.codes i 0);
  code_count = length v.codes;
  rows = tabulate row_limit (λ i. get_or v.rows i nobody);
  row_count = length v.rows;
  policies = tabulate policy_limit (λ i. get_or v.policies i unasked);
  policy_count = length v.policies;
}

-- nothing yet
abbrev pub no_values : Form → Values
no_values form = values_for (nothing form)

-- "a refused book has none" but its form
abbrev pub contents_by : List ℕ → Result Starts FaultAt → Contents
contents_by book (Ok starts) = contents_of book
contents_by book (Err e) = nothing (form_of book)

-- the values of these bytes
unfoldable pub values_of : List ℕ → Values
values_of book = values_for (contents_by book (read_of book))
