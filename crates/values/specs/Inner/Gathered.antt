-- What is put into an array where a book has a code, a row or a policy, and where it has none. Nothing here is proved: these are definitions.
use Rattle.std.specs.Prelude.{ℕ, Option, unwrap_or}
use Rattle.roster.specs.declared.Policy.{Policy}
use Rattle.book.specs.declared.Row.{Row}
use Rattle.values.specs.Values.{nobody, unasked}

abbrev pub code_or : Option ℕ → ℕ
code_or code = unwrap_or code 0

abbrev pub row_or : Option Row → Row
row_or row = unwrap_or row nobody

abbrev pub policy_or : Option Policy → Policy
policy_or p = unwrap_or p unasked
