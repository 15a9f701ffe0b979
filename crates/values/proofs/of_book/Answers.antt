-- Each list and each count is that of the book's parts. Assumes nothing.
use mathlib.Core.Path.{◌≡◌, refl, ap, ◌∙◌}
use mathlib.Core.List.{List}
use Prim.Native.Nat.{ℕ}
use Rattle.sets.specs.Arrays.{tabulate}
use Rattle.roster.specs.Limits.{row_limit}
use Rattle.roster.specs.declared.Policy.{Policy}
use Rattle.accounts.specs.declared.Accounts.{Accounts}
use Rattle.book.specs.Layout.{permission_limit, policy_limit}
use Rattle.book.specs.Reading.{read_of}
use Rattle.book.specs.Parts.{code_at, row_at, policy_in}
use Rattle.book.specs.declared.Form.{Form}
use Rattle.book.specs.declared.Row.{Row}
use Rattle.book.specs.declared.Starts.{Starts}
use Rattle.values.specs.Values.{contents_by, values_for, values_of}
use Rattle.values.specs.Inner.Gathered.{code_or, row_or, policy_or}
use Rattle.values.specs.declared.Values.{Values}
use Rattle.values.proofs.Parts.{book_parts, codes_are, rows_are, policies_are}
use Rattle.values.proofs.of_book.Goals as goal

-- values are their seven parts
all_of : {f f' : Form} {c c' : List ℕ} {k k' : ℕ} {r r' : List Row} {m m' : ℕ} {p p' : List Policy} {n n' : ℕ}
    → f ≡ f' → c ≡ c' → k ≡ k' → r ≡ r' → m ≡ m' → p ≡ p' → n ≡ n'
    → ◌≡◌ {A = Values}
    (record { form = f; codes = c; code_count = k; rows = r; row_count = m; policies = p; policy_count = n })
    (record { form = f'; codes = c'; code_count = k'; rows = r'; row_count = m'; policies = p'; policy_count = n' })
all_of ef ec ek er em ep en = rw (ef, ec, ek, er, em, ep, en)

pub returns : goal.returns
unfolding values_of values_for
returns c = let book = c.args.book.now in
    let v = contents_by book (read_of book) in
    let parts = book_parts book (λ i. (c.type_inv.book i).fits) in
    let at = c.starts_in-starts.ensures.reply in record {
      reply = all_of
          (c.form_of-form.ensures.reply ∙ parts.form)
          (c.all_codes-codes.ensures ∙ ap (λ (s : Starts). tabulate permission_limit (λ i. code_or (code_at book s i))) at ∙ codes_are v book parts)
          (c.code_count-code_count.ensures.reply ∙ parts.codes)
          (c.all_rows-rows.ensures ∙ ap (λ (s : Starts). tabulate row_limit (λ i. row_or (row_at book s i))) at ∙ rows_are v book parts)
          (ap (λ (a : Accounts). a.rows) (c.accounts_of-accounts.ensures.reply ∙ parts.accounts))
          (c.all_policies-policies.ensures ∙ ap (λ (s : Starts). tabulate policy_limit (λ i. policy_or (policy_in book s.policies i))) at ∙ policies_are v book parts)
          (c.policy_count-policy_count.ensures.reply ∙ parts.policies);
      kept = refl;
    }
