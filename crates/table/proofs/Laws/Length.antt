-- No table of admitted values is longer than `longest`, and one is as long. Assumes nothing.
use Rattle.std.specs.Prelude.{◌≡◌, ℕ, zero, suc, ◌+◌, ◌-◌, ◌*◌, ◌^◌, ◌<◌, ◌≤◌, Bool, true, false, List, [], ◌∷◌, ◌++◌, map, length, refl, Result, None}
use Rattle.std.proofs.Common.{ap, ◌∙◌, ⊎_elim, mul-suc, length-append}
use native.Mathlib.Omega.{arith}
use Rattle.sets.specs.Arrays.{tabulate}
use Rattle.sets.specs.Mask.{bit}
use Rattle.roster.specs.Limits.{row_limit}
use Rattle.roster.specs.Refusals.{policy_ruling}
use Rattle.roster.proofs.Laws.Rulings.{policy_within}
use Rattle.roster.specs.declared.Policy.{Policy}
use Rattle.book.specs.Layout.{Contents, form_has_persons, form_has_editions, permission_limit, policy_limit, Each, PolicyFits, Admitted}
use Rattle.book.proofs.Laws.Books.{good_layout, reply}
use Rattle.book.proofs.Laws.Books as books
use Rattle.book.proofs.Laws.Values.{each, each_both}
use Rattle.book.specs.Parts.{contents_of}
use Rattle.book.specs.Promises.{Bytes}
use Rattle.book.specs.Reading.{form_of, starts_of}
use Rattle.book.specs.declared.Form.TheVariants.{Editions}
use Rattle.book.specs.declared.Row.{Row}
use Rattle.text.specs.Text.{quoted, comma, decimal_in, decimal, joined, marked}
use Rattle.text.specs.Cut.{ended}
use Rattle.text.proofs.Laws.Decimal.{decimal-length}
use Rattle.values.specs.Writing.{value_looks, first_of, fault_in}
use Rattle.lines.specs.Laws.Fits.{total, marked-length, bad_short}
use Rattle.table.specs.Table.{only_if, mark, marks, row_heading, row_cells, policy_heading, policy_cells, line_of, row_lines, policy_lines, table_text_of}
use Rattle.table.specs.Shown.{shown_by, shown_of, longest}
use Rattle.book.specs.declared.Starts.{Starts}
use Rattle.book.specs.declared.FaultAt.{FaultAt}

-- ---- cells, each with its comma

total-append : (a b : List (List ℕ)) → total (a ++ b) ≡ total a + total b
unfolding total
total-append [] b = omega arith
total-append (x ∷ a) b = omega (arith, total-append a b)

total_only : (there : Bool) (cell : List ℕ) → total (only_if there cell) ≤ 1 + length cell
unfolding total
total_only false cell = omega arith
total_only true cell = omega arith

mark-length : (digit : ℕ) → length (mark digit) ≤ 1
mark-length zero = omega arith
mark-length (suc n) = omega arith

total-tabulate : (n : ℕ) (f : ℕ → ℕ) → total (tabulate n (λ i. mark (f i))) ≤ 2 * n
unfolding total tabulate
total-tabulate zero f = omega arith
total-tabulate (suc n) f = omega (arith, mark-length (f 0), total-tabulate n (λ i. f (suc i)))

total-marks : (listed set : ℕ) → total (marks listed set) ≤ 2 * listed
unfolding marks
total-marks listed set = total-tabulate listed (λ i. bit set i)

total-codes : (codes : List ℕ) → Each (λ code. code < 2 ^ 16) codes → total (map decimal codes) ≤ 6 * length codes
unfolding total Each
total-codes [] h = omega arith
total-codes (code ∷ codes) (h, t) = omega (arith, decimal-length 4 code (omega arith), total-codes codes t)

-- ---- lines

line-length : (x : List ℕ) (l : List (List ℕ)) → length (line_of (x ∷ l)) ≡ length x + total l
unfolding joined
line-length x l = length-append x (marked comma comma l) ∙ ap (λ (n : ℕ). length x + n) (marked-length comma comma l)

ended-length : {A : Type 0} (most : ℕ) (f : A → List ℕ) (l : List A) → Each (λ x. length (f x) ≤ most) l → length (ended (map f l)) ≤ suc most * length l
unfolding ended Each
ended-length most f [] h = omega arith
ended-length most f (x ∷ l) (h, t) =
    omega (arith, length-append (f x) (10 ∷ ended (map f l)), ended-length most f l t, mul-suc (suc most) (length l))

ended-append-length : (a b : List (List ℕ)) → length (ended (a ++ b)) ≡ length (ended a) + length (ended b)
unfolding ended
ended-append-length [] b = omega arith
ended-append-length (x ∷ a) b =
    omega (arith, length-append x (10 ∷ ended (a ++ b)), length-append x (10 ∷ ended a), ended-append-length a b)

module _ (listed : ℕ) (few : listed ≤ permission_limit) where
  row-length : (persons : Bool) (row : Row) → (row.staff < 2 ^ 32) × (row.person < 2 ^ 32) → length (line_of (row_cells persons listed row)) ≤ 85
  row-length persons row (s, p) =
      omega (
        arith,
        line-length (decimal row.staff) (only_if persons (decimal row.person) ++ marks listed row.holdings),
        total-append (only_if persons (decimal row.person)) (marks listed row.holdings),
        total_only persons (decimal row.person),
        total-marks listed row.holdings,
        decimal-length 9 row.staff (omega arith),
        decimal-length 9 row.person (omega arith),
      )

  policy_length : (editions : Bool) (p : Policy) → PolicyFits listed p → length (line_of (policy_cells editions listed p)) ≤ 73
  unfolding total
  policy_length editions p f =
      let w = policy_within _ _ _ _ _ _ f.sound in
      omega (
        arith,
        line-length (decimal p.away) (decimal p.crews ∷ decimal p.size ∷ only_if editions (decimal p.edition) ++ marks listed p.task),
        total-append (only_if editions (decimal p.edition)) (marks listed p.task),
        total_only editions (decimal p.edition),
        total-marks listed p.task,
        decimal-length 1 p.away (omega (arith, w.away)),
        decimal-length 0 p.crews (omega (arith, w.few)),
        decimal-length 1 p.size (omega (arith, w.small)),
        decimal-length 0 p.edition (omega (arith, w.edition.1)),
      )

-- ---- the table

rows-length : (v : Contents) → Admitted v → length (ended (row_lines v)) ≤ 205 + 86 * length v.rows
unfolding row_lines ended total
rows-length v a =
    let persons = form_has_persons v.form in
    let head = only_if persons (quoted "person") in
    let rows = map (λ row. line_of (row_cells persons (length v.codes) row)) v.rows in
    omega (
      arith,
      length-append (line_of (row_heading persons v.codes)) (10 ∷ ended rows),
      line-length (quoted "staff") (head ++ map decimal v.codes),
      total-append head (map decimal v.codes),
      total_only persons (quoted "person"),
      total-codes v.codes a.codes,
      a.permissions,
      ended-length 85 (λ row. line_of (row_cells persons (length v.codes) row)) v.rows
          (each (row-length (length v.codes) a.permissions persons) v.rows (each_both _ _ v.rows a.staff a.persons)),
    )

policies-length : (v : Contents) → Admitted v → length (ended (policy_lines v)) ≤ 206 + 74 * length v.policies
unfolding policy_lines ended total
policies-length v a =
    let editions = form_has_editions v.form in
    let head = only_if editions (quoted "edition") in
    let policies = map (λ p. line_of (policy_cells editions (length v.codes) p)) v.policies in
    omega (
      arith,
      length-append (line_of (policy_heading editions v.codes)) (10 ∷ ended policies),
      line-length (quoted "s") (quoted "d" ∷ quoted "t" ∷ head ++ map decimal v.codes),
      total-append head (map decimal v.codes),
      total_only editions (quoted "edition"),
      total-codes v.codes a.codes,
      a.permissions,
      ended-length 73 (λ p. line_of (policy_cells editions (length v.codes) p)) v.policies
          (each (policy_length (length v.codes) a.permissions editions) v.policies a.sound),
    )

pub table_fits : (v : Contents) → Admitted v → length (table_text_of v) ≤ longest
unfolding table_text_of ended
table_fits v a =
    omega (
      arith,
      ended-append-length (row_lines v) ([] ∷ policy_lines v),
      rows-length v a,
      policies-length v a,
      a.rows,
      a.policies,
    )

-- ---- one that is as long: every number has as many digits as it may have, and every mark is there

abbrev pub widest : Contents
widest = record {
  form = Editions;
  codes = tabulate permission_limit (λ i. 65504 + i);
  rows = tabulate row_limit (λ i. record { staff = 4294967232 + i; person = 4294967295; holdings = 2 ^ 32 - 1 });
  policies = tabulate policy_limit (λ i. record { task = 2 ^ 32 - 1; away = 64; crews = 8; size = 64; edition = 2 });
}

-- the writer finds no fault with it
pub widest_sound : fault_in widest ≡ None
unfolding tabulate policy_ruling first_of value_looks
widest_sound = refl

pub longest_table : length (table_text_of widest) ≡ longest
unfolding tabulate bit decimal_in decimal marked joined ended marks row_lines policy_lines table_text_of
longest_table = refl

-- what is shown of any byte string fits
pub shown-fits : (book : List ℕ) → Bytes book → length (shown_of book) ≤ longest
unfolding shown_of shown_by
shown-fits book bytes = ⊎_elim good refused (reply book)
  where
    good : books.Good book → length (shown_of book) ≤ longest
    good g =
        let l = good_layout book (starts_of (form_of book) book) bytes g.reply in
        omega (arith, table_fits (contents_of book) l.admitted, ap (λ (r : Result Starts FaultAt). length (shown_by book r)) g.reply)

    refused : books.Refused book → length (shown_of book) ≤ longest
    refused r = omega (arith, bad_short book r.fault r.place r.reply, ap (λ (q : Result Starts FaultAt). length (shown_by book q)) r.reply)
