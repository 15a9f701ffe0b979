-- The parts of a book are the elements of its lists, so the arrays that are filled with them are those of its values. Assumes nothing.
use Rattle.std.specs.Prelude.{Result}
use mathlib.Core.Path.{◌≡◌, refl, sym, ap, ◌∙◌, fun_ext, subst}
use mathlib.Core.Logic.{◌⊎◌, inl, inr}
use mathlib.Core.List.{List, [], ◌∷◌}
use Prim.Native.Nat.{ℕ, zero, suc}
use lib.ListN.{get_or, get_elem?}
use Rattle.sets.specs.Arrays.{tabulate}
use Rattle.roster.specs.Limits.{row_limit}
use Rattle.roster.specs.declared.Policy.{Policy}
use Rattle.book.specs.Layout.{Contents, permission_limit, policy_limit}
use Rattle.book.specs.Reading.{form_of, read_of, starts_of}
use Rattle.book.specs.Parts.{starts_in, code_at, row_at, policy_in, policy_at}
use Rattle.book.specs.Promises.{Bytes, answered, PartsOf}
use Rattle.book.proofs.Laws.Books.{Good, Refused, reply, good_layout}
use Rattle.book.proofs.Laws.Parts.{layout_parts, refused_parts}
use Rattle.book.specs.declared.Row.{Row}
use Rattle.values.specs.Values.{nobody, unasked, contents_by}
use Rattle.values.specs.Inner.Gathered.{code_or, row_or, policy_or}
use Rattle.book.specs.declared.Starts.{Starts}
use Rattle.book.specs.declared.FaultAt.{FaultAt}

-- the values of a book have its parts, of a refused one too
pub book_parts : (book : List ℕ) → Bytes book → PartsOf (contents_by book (read_of book)) book
book_parts book bytes = go (reply book)
  where
    go : Good book ⊎ Refused book → PartsOf (contents_by book (read_of book)) book
    go (inl g) =
        subst (λ (r : Result Starts FaultAt). PartsOf (contents_by book r) book) (sym g.reply)
        (layout_parts _ book (good_layout book (starts_of (form_of book) book) bytes g.reply))
    go (inr r) = subst (λ (x : Result Starts FaultAt). PartsOf (contents_by book x) book) (sym r.reply) (refused_parts book r.fault r.place r.reply)

-- ---- an element of a list, or what stands where there is none

code_nth : (l : List ℕ) (i : ℕ) → code_or (answered (get_elem? l i)) ≡ get_or l i 0
code_nth [] i = refl
code_nth (x ∷ l) zero = refl
code_nth (x ∷ l) (suc i) = code_nth l i

row_nth : (l : List Row) (i : ℕ) → row_or (answered (get_elem? l i)) ≡ get_or l i nobody
row_nth [] i = refl
row_nth (x ∷ l) zero = refl
row_nth (x ∷ l) (suc i) = row_nth l i

policy_nth : (l : List Policy) (i : ℕ) → policy_or (answered (get_elem? l i)) ≡ get_or l i unasked
policy_nth [] i = refl
policy_nth (x ∷ l) zero = refl
policy_nth (x ∷ l) (suc i) = policy_nth l i

-- ---- the arrays

module _ (v : Contents) (book : List ℕ) (parts : PartsOf v book) where
  pub codes_are : tabulate permission_limit (λ i. code_or (code_at book (starts_in book) i)) ≡ tabulate permission_limit (λ i. get_or v.codes i 0)
  codes_are = ap (tabulate permission_limit) (fun_ext (λ i. ap code_or (parts.code i) ∙ code_nth v.codes i))

  pub rows_are : tabulate row_limit (λ i. row_or (row_at book (starts_in book) i)) ≡ tabulate row_limit (λ i. get_or v.rows i nobody)
  rows_are = ap (tabulate row_limit) (fun_ext (λ i. ap row_or (parts.row i) ∙ row_nth v.rows i))

  pub policies_are : tabulate policy_limit (λ i. policy_or (policy_in book (starts_in book).policies i)) ≡ tabulate policy_limit (λ i. get_or v.policies i unasked)
  unfolding policy_at
  policies_are = ap (tabulate policy_limit) (fun_ext (λ i. ap policy_or (parts.policy i) ∙ policy_nth v.policies i))
