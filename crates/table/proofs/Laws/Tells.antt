-- The text tells the book: admitted values of one text are the same values, form and all. A text is cut at its newlines and a line at its commas in
-- one way only; the headings tell form and codes, the empty line where the policies begin, and no two numbers and no two sets are written alike.
-- Assumes nothing.
use Rattle.std.specs.Prelude.{◌≡◌, ℕ, zero, suc, ◌/◌, ◌%◌, ◌^◌, ◌<◌, ◌≤◌, Bool, true, false, ◌≢◌, List, [], ◌∷◌, ◌++◌, map, length, slice_index_or, refl, Ok}
use Rattle.std.proofs.Common.{sym, ap, ap₂, ◌∙◌, subst, arith, length-append}
use mathlib.Core.List.{Memᴰ, head-eq_of_cons-eq, tail-eq_of_cons-eq}
use Rattle.std.proofs.Math.Decide.{dec_lt}
use Rattle.sets.specs.Arrays.{tabulate}
use Rattle.sets.specs.Mask.{bit}
use Rattle.sets.specs.Laws.Arrays.{get_d_tabulate}
use Rattle.sets.specs.Laws.Digits.{bit_le, ext}
use Rattle.roster.specs.declared.Policy.{Policy}
use Rattle.book.specs.Layout.{Contents, form_has_persons, form_has_editions, bytes_of, OwnEdition, Each, PolicyFits, Admitted}
use Rattle.book.proofs.Laws.Books.{good_layout}
use Rattle.book.specs.Parts.{contents_of}
use Rattle.book.specs.Promises.{Bytes}
use Rattle.book.specs.Reading.{read_of}
use Rattle.book.specs.declared.Starts.{Starts}
use Rattle.book.specs.Laws.Values.{RowFits}
use Rattle.book.proofs.Laws.Values.{each-row-fits, each_both}
use Rattle.book.specs.declared.Form.{Form}
use Rattle.book.specs.declared.Form.TheVariants.{Old, Persons, Editions}
use Rattle.book.specs.declared.Row.{Row}
use Rattle.text.specs.Text.{quoted, newline, comma, dash, digit, decimal, joined, marked}
use Rattle.text.specs.Cut.{Every, Lacks, lines_of}
use Rattle.text.proofs.Laws.Decimal.{decimal-small, decimal_large}
use Rattle.text.specs.Laws.Every.{every_none, every_cons, every_first, every_rest, every_map, map_same}
use Rattle.text.specs.Laws.Marks.{over, lacks_over, lacks_none, lines_ended, joined_same, joined_lacks}
use Rattle.text.proofs.Laws.Numbers.{NoDigit, decimal_lacks, decimal_same}
use Rattle.table.specs.Table.{only_if, mark, marks, row_heading, row_cells, policy_heading, policy_cells, line_of, row_lines, policy_lines, table_text_of}

-- ---- what is in no cell: newlines, commas, dashes

pub record Clean (cell : List ℕ) : Type 0 where
  pub newlines : Lacks newline cell
  pub commas : Lacks comma cell
  pub dashes : Lacks dash cell

-- all bytes of a word lie above these marks
clean_word : (word : List ℕ) → over dash word ≡ true → Clean word
clean_word word e = record {
  newlines = lacks_over dash newline word (omega arith) e;
  commas = lacks_over dash comma word (omega arith) e;
  dashes = lacks_over dash dash word (omega arith) e;
}

clean_decimal : (n : ℕ) → Clean (decimal n)
clean_decimal n = record {
  newlines = decimal_lacks newline n (λ d l e. omega arith);
  commas = decimal_lacks comma n (λ d l e. omega arith);
  dashes = decimal_lacks dash n (λ d l e. omega arith);
}

clean_mark : (digit : ℕ) → Clean (mark digit)
unfolding over
clean_mark zero = clean_word [] refl
clean_mark (suc n) = clean_word (quoted "x") refl

every_append : (a b : List (List ℕ)) → Every Clean a → Every Clean b → Every Clean (a ++ b)
every_append [] b h k = k
every_append (x ∷ a) b h k = every_cons (every_first h) (every_append a b (every_rest h) k)

clean_only : (there : Bool) (cell : List ℕ) → Clean cell → Every Clean (only_if there cell)
clean_only false cell c = every_none Clean
clean_only true cell c = every_cons c (every_none Clean)

clean_tabulate : (n : ℕ) (f : ℕ → ℕ) → Every Clean (tabulate n (λ i. mark (f i)))
unfolding tabulate
clean_tabulate zero f = every_none Clean
clean_tabulate (suc n) f = every_cons (clean_mark (f 0)) (clean_tabulate n (λ i. f (suc i)))

clean_marks : (listed set : ℕ) → Every Clean (marks listed set)
unfolding marks
clean_marks listed set = clean_tabulate listed (λ i. bit set i)

clean_codes : (codes : List ℕ) → Every Clean (map decimal codes)
clean_codes codes = every_map decimal Clean codes (λ code m. clean_decimal code)

clean_row_heading : (persons : Bool) (codes : List ℕ) → Every Clean (row_heading persons codes)
unfolding over
clean_row_heading persons codes =
    every_cons (clean_word (quoted "staff") refl)
    (every_append (only_if persons (quoted "person")) (map decimal codes) (clean_only persons (quoted "person") (clean_word (quoted "person") refl)) (clean_codes codes))

clean_row : (persons : Bool) (listed : ℕ) (row : Row) → Every Clean (row_cells persons listed row)
clean_row persons listed row =
    every_cons (clean_decimal row.staff)
    (every_append (only_if persons (decimal row.person)) (marks listed row.holdings) (clean_only persons (decimal row.person) (clean_decimal row.person)) (clean_marks listed row.holdings))

clean_policy_heading : (editions : Bool) (codes : List ℕ) → Every Clean (policy_heading editions codes)
unfolding over
clean_policy_heading editions codes =
    every_cons (clean_word (quoted "s") refl)
    (every_cons (clean_word (quoted "d") refl)
    (every_cons (clean_word (quoted "t") refl)
    (every_append (only_if editions (quoted "edition")) (map decimal codes) (clean_only editions (quoted "edition") (clean_word (quoted "edition") refl)) (clean_codes codes))))

clean_policy : (editions : Bool) (listed : ℕ) (p : Policy) → Every Clean (policy_cells editions listed p)
clean_policy editions listed p =
    every_cons (clean_decimal p.away)
    (every_cons (clean_decimal p.crews)
    (every_cons (clean_decimal p.size)
    (every_append (only_if editions (decimal p.edition)) (marks listed p.task) (clean_only editions (decimal p.edition) (clean_decimal p.edition)) (clean_marks listed p.task))))

-- ---- a line is cut in one way

no_dash : (cell : List ℕ) → Clean cell → cell ≢ dash ∷ []
no_dash cell c e = c.dashes (subst (Memᴰ dash) (sym e) (Memᴰ.head refl))

line_same : (a b : List (List ℕ)) → Every Clean a → Every Clean b → line_of a ≡ line_of b → a ≡ b
line_same a b h k e =
    joined_same comma a b (λ q. omega arith) (λ x m. (h x m).commas) (λ x m. (k x m).commas) (λ x m. no_dash x (h x m)) (λ x m. no_dash x (k x m)) e

line_lacks : (cells : List (List ℕ)) → Every Clean cells → Lacks newline (line_of cells)
line_lacks cells h = joined_lacks newline comma cells (λ q. omega arith) (λ q. omega arith) (λ x m. (h x m).newlines)

-- ---- a text is cut in one way

rows_lack : (v : Contents) → Every (Lacks newline) (row_lines v)
unfolding row_lines
rows_lack v =
    let persons = form_has_persons v.form in
    every_cons (line_lacks (row_heading persons v.codes) (clean_row_heading persons v.codes))
    (every_map (λ row. line_of (row_cells persons (length v.codes) row)) (Lacks newline) v.rows
    (λ row m. line_lacks (row_cells persons (length v.codes) row) (clean_row persons (length v.codes) row)))

policies_lack : (v : Contents) → Every (Lacks newline) (policy_lines v)
unfolding policy_lines
policies_lack v =
    let editions = form_has_editions v.form in
    every_cons (line_lacks (policy_heading editions v.codes) (clean_policy_heading editions v.codes))
    (every_map (λ p. line_of (policy_cells editions (length v.codes) p)) (Lacks newline) v.policies
    (λ p m. line_lacks (policy_cells editions (length v.codes) p) (clean_policy editions (length v.codes) p)))

lines_of_text : (v : Contents) → lines_of (table_text_of v) ≡ row_lines v ++ ([] ∷ policy_lines v)
unfolding table_text_of
lines_of_text v =
    lines_ended (row_lines v ++ ([] ∷ policy_lines v)) (both (row_lines v) (rows_lack v))
  where
    both : (l : List (List ℕ)) → Every (Lacks newline) l → Every (Lacks newline) (l ++ ([] ∷ policy_lines v))
    both [] h = every_cons (lacks_none newline) (policies_lack v)
    both (x ∷ l) h = every_cons (every_first h) (both l (every_rest h))

-- ---- the empty line is the first that is empty

decimal_some : (n : ℕ) → 0 < length (decimal n)
decimal_some n = go (dec_lt n 10)
  where
    go : Dec (n < 10) → 0 < length (decimal n)
    go (yes l) = omega (arith, ap length (decimal-small n l))
    go (no m) = omega (arith, ap length (decimal_large n (omega arith)) ∙ length-append (decimal (n / 10)) (digit (n % 10) ∷ []))

line_some : (x : List ℕ) (l : List (List ℕ)) → 0 < length x → line_of (x ∷ l) ≢ []
unfolding joined
line_some x l h e = omega (arith, ap length e, length-append x (marked comma comma l))

rows_some : (v : Contents) → Every (λ line. line ≢ []) (row_lines v)
unfolding row_lines
rows_some v =
    let persons = form_has_persons v.form in
    every_cons (line_some (quoted "staff") _ (omega arith))
    (every_map (λ row. line_of (row_cells persons (length v.codes) row)) (λ line. line ≢ []) v.rows (λ row m. line_some (decimal row.staff) _ (decimal_some row.staff)))

at-empty : (a b x y : List (List ℕ)) → Every (λ line. line ≢ []) a → Every (λ line. line ≢ []) b → a ++ ([] ∷ x) ≡ b ++ ([] ∷ y) → (a ≡ b) × (x ≡ y)
at-empty [] [] x y h k e = (refl, tail-eq_of_cons-eq e)
at-empty [] (l ∷ b) x y h k e = absurd (k l (Memᴰ.head refl) (sym (head-eq_of_cons-eq e)))
at-empty (l ∷ a) [] x y h k e = absurd (h l (Memᴰ.head refl) (head-eq_of_cons-eq e))
at-empty (l ∷ a) (m ∷ b) x y h k e =
    let rest = at-empty a b x y (every_rest h) (every_rest k) (tail-eq_of_cons-eq e) in
    (ap₂ (λ (z : List ℕ) (s : List (List ℕ)). z ∷ s) (head-eq_of_cons-eq e) rest.0, rest.1)

-- ---- the headings tell form and codes

codes_same : (a b : List ℕ) → map decimal a ≡ map decimal b → a ≡ b
codes_same a b e = map_same decimal a b (λ x m y k. decimal_same x y) e

-- a column that is no code's is there in both or in neither
heading_same : (word : List ℕ) → ((n : ℕ) → decimal n ≢ word) → (p q : Bool) (a b : List ℕ)
    → only_if p word ++ map decimal a ≡ only_if q word ++ map decimal b → (p ≡ q) × (a ≡ b)
heading_same word apart false false a b e = (refl, codes_same a b e)
heading_same word apart true true a b e = (refl, codes_same a b (tail-eq_of_cons-eq e))
heading_same word apart false true [] b e = let z : ◌≡◌ {A = ℕ} 0 1 = cc in absurd (omega arith)
heading_same word apart false true (code ∷ a) b e = absurd (apart code (head-eq_of_cons-eq e))
heading_same word apart true false a [] e = let z : ◌≡◌ {A = ℕ} 0 1 = cc in absurd (omega arith)
heading_same word apart true false a (code ∷ b) e = absurd (apart code (sym (head-eq_of_cons-eq e)))

-- a number in decimal is no word that begins with a letter
no_number : (letter : ℕ) (word : List ℕ) → NoDigit letter → (n : ℕ) → decimal n ≢ letter ∷ word
no_number letter word none n e = decimal_lacks letter n none (subst (Memᴰ letter) (sym e) (Memᴰ.head refl))

row_heading_same : (p q : Bool) (a b : List ℕ) → line_of (row_heading p a) ≡ line_of (row_heading q b) → (p ≡ q) × (a ≡ b)
row_heading_same p q a b e =
    let cells = line_same (row_heading p a) (row_heading q b) (clean_row_heading p a) (clean_row_heading q b) e in
    heading_same (quoted "person") (no_number 112 (quoted "erson") (λ d l q. omega arith)) p q a b (tail-eq_of_cons-eq cells)

policy_heading_same : (p q : Bool) (a b : List ℕ) → line_of (policy_heading p a) ≡ line_of (policy_heading q b) → (p ≡ q) × (a ≡ b)
policy_heading_same p q a b e =
    let cells = line_same (policy_heading p a) (policy_heading q b) (clean_policy_heading p a) (clean_policy_heading q b) e in
    heading_same (quoted "edition") (no_number 101 (quoted "dition") (λ d l q. omega arith)) p q a b
    (tail-eq_of_cons-eq (tail-eq_of_cons-eq (tail-eq_of_cons-eq cells)))

form_same : (a b : Form) → form_has_persons a ≡ form_has_persons b → form_has_editions a ≡ form_has_editions b → a ≡ b
form_same Old Old p e = refl
form_same Old Persons p e = let z : ◌≡◌ {A = ℕ} 0 1 = cc in absurd (omega arith)
form_same Old Editions p e = let z : ◌≡◌ {A = ℕ} 0 1 = cc in absurd (omega arith)
form_same Persons Old p e = let z : ◌≡◌ {A = ℕ} 0 1 = cc in absurd (omega arith)
form_same Persons Persons p e = refl
form_same Persons Editions p e = let z : ◌≡◌ {A = ℕ} 0 1 = cc in absurd (omega arith)
form_same Editions Old p e = let z : ◌≡◌ {A = ℕ} 0 1 = cc in absurd (omega arith)
form_same Editions Persons p e = let z : ◌≡◌ {A = ℕ} 0 1 = cc in absurd (omega arith)
form_same Editions Editions p e = refl

-- ---- marks tell the set

mark_same : (p q : ℕ) → p ≤ 1 → q ≤ 1 → mark p ≡ mark q → p ≡ q
mark_same zero zero h k e = refl
mark_same zero (suc q) h k e = let z : ◌≡◌ {A = ℕ} 0 1 = cc in absurd (omega arith)
mark_same (suc p) zero h k e = let z : ◌≡◌ {A = ℕ} 0 1 = cc in absurd (omega arith)
mark_same (suc p) (suc q) h k e = omega arith

marks_same : (listed a b : ℕ) → a < 2 ^ listed → b < 2 ^ listed → marks listed a ≡ marks listed b → a ≡ b
unfolding marks
marks_same listed a b h k e =
    ext listed a b h k
    (λ i l. mark_same (bit a i) (bit b i) (bit_le a i) (bit_le b i)
    (sym (get_d_tabulate [] listed (λ i. mark (bit a i)) i l) ∙ ap (λ (c : List (List ℕ)). slice_index_or c i []) e ∙ get_d_tabulate [] listed (λ i. mark (bit b i)) i l))

-- ---- lines tell rows and policies

-- records by their fields
row_of_lem : {s s' p p' h h' : ℕ} → s ≡ s' → p ≡ p' → h ≡ h'
    → ◌≡◌ {A = Row} (record { staff = s; person = p; holdings = h }) (record { staff = s'; person = p'; holdings = h' })
row_of_lem a b c = rw (a, b, c)

policy_of : {p p' s s' d d' t t' e e' : ℕ} → p ≡ p' → s ≡ s' → d ≡ d' → t ≡ t' → e ≡ e'
    → ◌≡◌ {A = Policy} (record { task = p; away = s; crews = d; size = t; edition = e }) (record { task = p'; away = s'; crews = d'; size = t'; edition = e' })
policy_of a b c d e = rw (a, b, c, d, e)

contents_same : {f f' : Form} {c c' : List ℕ} {r r' : List Row} {p p' : List Policy} → f ≡ f' → c ≡ c' → r ≡ r' → p ≡ p'
    → ◌≡◌ {A = Contents} (record { form = f; codes = c; rows = r; policies = p }) (record { form = f'; codes = c'; rows = r'; policies = p' })
contents_same a b c d = rw (a, b, c, d)

row_same : (persons : Bool) (listed : ℕ) (x y : Row) → RowFits persons listed x → RowFits persons listed y
    → row_cells persons listed x ≡ row_cells persons listed y → x ≡ y
row_same false listed x y f g e =
    let staff : x.staff ≡ y.staff = decimal_same x.staff y.staff (head-eq_of_cons-eq e) in
    let own : x.person ≡ x.staff = f.own in
    let its : y.person ≡ y.staff = g.own in
    row_of_lem staff (own ∙ staff ∙ sym its) (marks_same listed x.holdings y.holdings f.holdings g.holdings (tail-eq_of_cons-eq e))
row_same true listed x y f g e =
    let rest = tail-eq_of_cons-eq e in
    row_of_lem (decimal_same x.staff y.staff (head-eq_of_cons-eq e)) (decimal_same x.person y.person (head-eq_of_cons-eq rest))
    (marks_same listed x.holdings y.holdings f.holdings g.holdings (tail-eq_of_cons-eq rest))

abbrev PolicyOwn : Bool → ℕ → Policy → Type 0
PolicyOwn editions listed p = PolicyFits listed p × OwnEdition editions p

policy_same : (editions : Bool) (listed : ℕ) (x y : Policy) → PolicyOwn editions listed x → PolicyOwn editions listed y
    → policy_cells editions listed x ≡ policy_cells editions listed y → x ≡ y
policy_same editions listed x y f g e =
    let second = tail-eq_of_cons-eq e in
    let third = tail-eq_of_cons-eq second in
    go editions f.1 g.1 (decimal_same x.away y.away (head-eq_of_cons-eq e)) (decimal_same x.crews y.crews (head-eq_of_cons-eq second))
    (decimal_same x.size y.size (head-eq_of_cons-eq third)) (tail-eq_of_cons-eq third)
  where
    task : marks listed x.task ≡ marks listed y.task → x.task ≡ y.task
    task = marks_same listed x.task y.task f.0.task g.0.task

    go : (editions : Bool) → OwnEdition editions x → OwnEdition editions y → x.away ≡ y.away → x.crews ≡ y.crews → x.size ≡ y.size
        → only_if editions (decimal x.edition) ++ marks listed x.task ≡ only_if editions (decimal y.edition) ++ marks listed y.task → x ≡ y
    go false o u s d t e = policy_of (task e) s d t (o ∙ sym u)
    go true o u s d t e =
        policy_of (task (tail-eq_of_cons-eq e)) s d t (decimal_same x.edition y.edition (head-eq_of_cons-eq e))

-- lists whose lines are alike are equal, where a line tells its item
all_same : {A : Type 0} (P : A → Type 0) (line : A → List ℕ) → ((x y : A) → P x → P y → line x ≡ line y → x ≡ y)
    → (l k : List A) → Each P l → Each P k → map line l ≡ map line k → l ≡ k
unfolding Each
all_same P line tells [] [] f g e = refl
all_same P line tells [] (y ∷ k) f g e = let z : ◌≡◌ {A = ℕ} 0 1 = cc in absurd (omega arith)
all_same P line tells (x ∷ l) [] f g e = let z : ◌≡◌ {A = ℕ} 0 1 = cc in absurd (omega arith)
all_same {A} P line tells (x ∷ l) (y ∷ k) f g e =
    ap₂ (λ (z : A) (s : List A). z ∷ s) (tells x y f.0 g.0 (head-eq_of_cons-eq e)) (all_same P line tells l k f.1 g.1 (tail-eq_of_cons-eq e))

rows_same : (persons : Bool) (listed : ℕ) (l k : List Row) → Each (RowFits persons listed) l → Each (RowFits persons listed) k
    → map (λ row. line_of (row_cells persons listed row)) l ≡ map (λ row. line_of (row_cells persons listed row)) k → l ≡ k
rows_same persons listed =
    all_same (RowFits persons listed) (λ row. line_of (row_cells persons listed row))
    (λ x y f g e. row_same persons listed x y f g (line_same (row_cells persons listed x) (row_cells persons listed y) (clean_row persons listed x) (clean_row persons listed y) e))

policies_same : (editions : Bool) (listed : ℕ) (l k : List Policy) → Each (PolicyOwn editions listed) l → Each (PolicyOwn editions listed) k
    → map (λ p. line_of (policy_cells editions listed p)) l ≡ map (λ p. line_of (policy_cells editions listed p)) k → l ≡ k
policies_same editions listed =
    all_same (PolicyOwn editions listed) (λ p. line_of (policy_cells editions listed p))
    (λ x y f g e. policy_same editions listed x y f g (line_same (policy_cells editions listed x) (policy_cells editions listed y) (clean_policy editions listed x) (clean_policy editions listed y) e))

-- ---- the whole

-- the rows of admitted values, and their policies, beside equal forms and equally many codes
module _ (a b : Contents) (h : Admitted a) (k : Admitted b) (form : a.form ≡ b.form) (codes : a.codes ≡ b.codes) where
  rows_told : map (λ row. line_of (row_cells (form_has_persons a.form) (length a.codes) row)) a.rows
      ≡ map (λ row. line_of (row_cells (form_has_persons b.form) (length b.codes) row)) b.rows → a.rows ≡ b.rows
  rows_told e =
      let persons = form_has_persons a.form in
      let listed = length a.codes in
      let of-a : Each (RowFits persons listed) a.rows = each-row-fits persons listed a.rows h.staff h.persons h.own h.holdings in
      let of-b : Each (RowFits (form_has_persons b.form) (length b.codes)) b.rows = each-row-fits _ _ b.rows k.staff k.persons k.own k.holdings in
      let here : Each (RowFits persons listed) b.rows =
      subst (λ (f : Form). Each (RowFits (form_has_persons f) listed) b.rows) (sym form) (subst (λ (c : List ℕ). Each (RowFits (form_has_persons b.form) (length c)) b.rows) (sym codes) of-b) in
      let back = ap₂ (λ (f : Form) (c : List ℕ). map (λ row. line_of (row_cells (form_has_persons f) (length c) row)) b.rows) (sym form) (sym codes) in
      rows_same persons listed a.rows b.rows of-a here (e ∙ back)

  policies-told : map (λ p. line_of (policy_cells (form_has_editions a.form) (length a.codes) p)) a.policies
      ≡ map (λ p. line_of (policy_cells (form_has_editions b.form) (length b.codes) p)) b.policies → a.policies ≡ b.policies
  policies-told e =
      let editions = form_has_editions a.form in
      let listed = length a.codes in
      let of-a : Each (PolicyOwn editions listed) a.policies = each_both _ _ a.policies h.sound h.editions in
      let of-b : Each (PolicyOwn (form_has_editions b.form) (length b.codes)) b.policies = each_both _ _ b.policies k.sound k.editions in
      let here : Each (PolicyOwn editions listed) b.policies =
      subst (λ (f : Form). Each (PolicyOwn (form_has_editions f) listed) b.policies) (sym form) (subst (λ (c : List ℕ). Each (PolicyOwn (form_has_editions b.form) (length c)) b.policies) (sym codes) of-b) in
      let back = ap₂ (λ (f : Form) (c : List ℕ). map (λ p. line_of (policy_cells (form_has_editions f) (length c) p)) b.policies) (sym form) (sym codes) in
      policies_same editions listed a.policies b.policies of-a here (e ∙ back)

pub text_tells : (a b : Contents) → Admitted a → Admitted b → table_text_of a ≡ table_text_of b → a ≡ b
unfolding row_lines policy_lines
text_tells a b h k e =
    let parts = at-empty (row_lines a) (row_lines b) (policy_lines a) (policy_lines b) (rows_some a) (rows_some b) (sym (lines_of_text a) ∙ ap lines_of e ∙ lines_of_text b) in
    let rows = row_heading_same (form_has_persons a.form) (form_has_persons b.form) a.codes b.codes (head-eq_of_cons-eq parts.0) in
    let policies = policy_heading_same (form_has_editions a.form) (form_has_editions b.form) a.codes b.codes (head-eq_of_cons-eq parts.1) in
    let form : a.form ≡ b.form = form_same a.form b.form rows.0 policies.0 in
    contents_same form rows.1 (rows_told a b h k form rows.1 (tail-eq_of_cons-eq parts.0)) (policies-told a b h k form rows.1 (tail-eq_of_cons-eq parts.1))

-- so good books of one table are one book, byte for byte
pub table_tells : (a b : List ℕ) (s t : Starts) → Bytes a → Bytes b → read_of a ≡ Ok s → read_of b ≡ Ok t
    → table_text_of (contents_of a) ≡ table_text_of (contents_of b) → a ≡ b
table_tells a b s t h k e f same =
    let of-a = good_layout a s h e in
    let of-b = good_layout b t k f in
    of-a.bytes ∙ ap bytes_of (text_tells (contents_of a) (contents_of b) of-a.admitted of-b.admitted same) ∙ sym of-b.bytes
