-- Laws of what is put: a table by its parts, and these by index. Assumes nothing.
use Rattle.std.proofs.Common.{◌≡◌, ℕ, suc, ◌+◌, ◌-◌, ◌/◌, ◌%◌, ◌<◌, ◌≤◌, Bool, true, false, List, [], ◌∷◌, ◌++◌, map, length, sym, refl, ap, ◌∙◌, ap₂, append_assoc, append-nil, arith}
use mathlib.Core.Path.{fun_ext}
use Rattle.sets.specs.Arrays.{tabulate}
use Rattle.sets.specs.Laws.Arrays.{length-tabulate}
use Rattle.sets.specs.Laws.Digits.{bit-zero, bit-suc}
use Rattle.roster.specs.declared.Policy.{Policy}
use Rattle.book.specs.Layout.{Contents, joined, form_has_persons, form_has_editions}
use Rattle.book.specs.declared.Form.{Form}
use Rattle.book.specs.declared.Form.TheVariants.{Old, Persons, Editions}
use Rattle.book.specs.declared.Row.{Row}
use Rattle.text.specs.Text.{quoted, newline, comma, decimal, marked}
use Rattle.text.specs.Text.{joined as Text·joined}
use Rattle.text.specs.Cut.{ended}
use Rattle.values.specs.Values.{row_for, policy_for, contents_for}
use Rattle.values.specs.Inner.Looks.{code_in, row_in, policy_given}
use Rattle.values.specs.Inner.Puts.{in_order}
use Rattle.values.specs.Laws.Order.{joined_order}
use Rattle.values.specs.declared.Values.{Values}
use Rattle.table.specs.Table.{only_if, mark, marks, row_heading, row_cells, policy_heading, policy_cells, line_of, row_lines, policy_lines, table_text_of}
use Rattle.table.specs.Inner.Puts.{further, line, code_cells, rows_text, policies_text}

-- ---- cells

-- cells one after the other
pub further-append : (a b : List (List ℕ)) → further (a ++ b) ≡ further a ++ further b
unfolding marked
further-append [] b = refl
further-append (x ∷ a) b =
    ap (λ (l : List ℕ). comma ∷ (x ++ l)) (further-append a b) ∙ ap (λ (l : List ℕ). comma ∷ l) (sym (append_assoc x (further a) (further b)))

-- the first mark, and the others, which are those of half the set
pub marks_next : (n set : ℕ) → marks (suc n) set ≡ mark (set % 2) ∷ marks n (set / 2)
unfolding marks tabulate
marks_next n set =
    ap₂ (λ (x : ℕ) (f : ℕ → List ℕ). mark x ∷ tabulate n f) (bit-zero set) (fun_ext (λ i. ap mark (bit-suc set i)))

pub marks_step : (n i set : ℕ) → i < n → further (marks (n - i) set) ≡ further (mark (set % 2) ∷ []) ++ further (marks (n - (i + 1)) (set / 2))
marks_step n i set l =
    let e : n - i ≡ suc (n - (i + 1)) = omega arith in
    ap (λ (k : ℕ). further (marks k set)) e
    ∙ ap further (marks_next (n - (i + 1)) set)
    ∙ further-append (mark (set % 2) ∷ []) (marks (n - (i + 1)) (set / 2))

pub marks_last : (n i set : ℕ) → n ≤ i → further (marks (n - i) set) ≡ []
unfolding marks tabulate marked
marks_last n i set l = let e : n - i ≡ 0 = omega arith in ap (λ (k : ℕ). further (marks k set)) e

-- a cell that is there, and one that is not
pub present : {there : Bool} {cell : List ℕ} → there ≡ true → comma ∷ cell ≡ further (only_if there cell)
unfolding marked
present {there} {cell} e = ap (λ (l : List ℕ). comma ∷ l) (sym (append-nil cell)) ∙ ap (λ (b : Bool). further (only_if b cell)) (sym e)

pub absent : {there : Bool} (cell : List ℕ) → there ≡ false → [] ≡ further (only_if there cell)
unfolding marked
absent {there} cell e = ap (λ (b : Bool). further (only_if b cell)) (sym e)

-- one cell more in front
next_cell : (x : List ℕ) (l : List (List ℕ)) (rest : List ℕ) → (comma ∷ x) ++ (further l ++ rest) ≡ further (x ∷ l) ++ rest
unfolding marked
next_cell x l rest = ap (λ (k : List ℕ). comma ∷ k) (sym (append_assoc x (further l) rest))

two_groups : (a b : List (List ℕ)) (rest : List ℕ) → further a ++ (further b ++ rest) ≡ further (a ++ b) ++ rest
two_groups a b rest = sym (append_assoc (further a) (further b) rest) ∙ ap (λ (l : List ℕ). l ++ rest) (sym (further-append a b))

-- a line by its first cell and the others
line-parts : (x : List ℕ) (l : List (List ℕ)) → x ++ (further l ++ (newline ∷ [])) ≡ line (x ∷ l)
unfolding Text·joined
line-parts x l = sym (append_assoc x (further l) (newline ∷ []))

pub row-parts : (x : List ℕ) (a b : List (List ℕ)) → x ++ (further a ++ (further b ++ (newline ∷ []))) ≡ line (x ∷ a ++ b)
row-parts x a b = ap (λ (l : List ℕ). x ++ l) (two_groups a b (newline ∷ [])) ∙ line-parts x (a ++ b)

pub policy_parts : (x y z : List ℕ) (a b : List (List ℕ))
    → x ++ ((comma ∷ y) ++ ((comma ∷ z) ++ (further a ++ (further b ++ (newline ∷ []))))) ≡ line (x ∷ y ∷ z ∷ a ++ b)
policy_parts x y z a b =
    ap (λ (l : List ℕ). x ++ ((comma ∷ y) ++ ((comma ∷ z) ++ l))) (two_groups a b (newline ∷ []))
    ∙ ap (λ (l : List ℕ). x ++ ((comma ∷ y) ++ l)) (next_cell z (a ++ b) (newline ∷ []))
    ∙ ap (λ (l : List ℕ). x ++ l) (next_cell y (z ∷ a ++ b) (newline ∷ []))
    ∙ line-parts x (y ∷ z ∷ a ++ b)

further-joined : {A : Type 0} (f : A → List ℕ) (l : List A) → further (map f l) ≡ joined (λ x. comma ∷ f x) l
unfolding marked joined
further-joined f [] = refl
further-joined f (x ∷ l) = ap (λ (k : List ℕ). comma ∷ (f x ++ k)) (further-joined f l)

-- the codes of a heading
pub codes_by_index : (v : Values) → code_cells v ≡ further (map decimal (contents_for v).codes)
unfolding contents_for
codes_by_index v =
    sym (further-joined decimal (tabulate v.code_count (code_in v)) ∙ joined_order (λ code. comma ∷ decimal code) (code_in v) v.code_count)

-- the headings
pub row_heading_lem : (persons : Bool) (v : Values)
    → quoted "staff" ++ (further (only_if persons (quoted "person")) ++ (code_cells v ++ (newline ∷ []))) ≡ line (row_heading persons (contents_for v).codes)
row_heading_lem persons v =
    let column = only_if persons (quoted "person") in
    ap (λ (l : List ℕ). quoted "staff" ++ (further column ++ (l ++ (newline ∷ [])))) (codes_by_index v)
    ∙ row-parts (quoted "staff") column (map decimal (contents_for v).codes)

pub policy_heading_lem : (editions : Bool) (v : Values)
    → quoted "s,d,t" ++ (further (only_if editions (quoted "edition")) ++ (code_cells v ++ (newline ∷ []))) ≡ line (policy_heading editions (contents_for v).codes)
policy_heading_lem editions v =
    let column = only_if editions (quoted "edition") in
    ap (λ (l : List ℕ). quoted "s,d,t" ++ (further column ++ (l ++ (newline ∷ [])))) (codes_by_index v)
    ∙ policy_parts (quoted "s") (quoted "d") (quoted "t") column (map decimal (contents_for v).codes)

-- ---- lines

ended-append : (a b : List (List ℕ)) → ended (a ++ b) ≡ ended a ++ ended b
unfolding ended
ended-append [] b = refl
ended-append (x ∷ a) b =
    ap (λ (l : List ℕ). x ++ (newline ∷ l)) (ended-append a b) ∙ sym (append_assoc x (newline ∷ ended a) (ended b))

ended-first : (x : List ℕ) (l : List (List ℕ)) → ended (x ∷ l) ≡ (x ++ (newline ∷ [])) ++ ended l
unfolding ended
ended-first x l = sym (append_assoc x (newline ∷ []) (ended l))

ended-joined : {A : Type 0} (f : A → List ℕ) (l : List A) → ended (map f l) ≡ joined (λ x. f x ++ (newline ∷ [])) l
unfolding ended joined
ended-joined f [] = refl
ended-joined f (x ∷ l) =
    ended-first (f x) (map f l) ∙ ap (λ (k : List ℕ). (f x ++ (newline ∷ [])) ++ k) (ended-joined f l)

-- the lines of a list are those of its indices
ended_order : {A : Type 0} (f : A → List ℕ) (g : ℕ → A) (n : ℕ) → ended (map f (tabulate n g)) ≡ in_order (λ i. f (g i) ++ (newline ∷ [])) 0 n
ended_order f g n = ended-joined f (tabulate n g) ∙ joined_order (λ x. f x ++ (newline ∷ [])) g n

-- the fields that a form has are the row's own, and the policy's
row_for_lem : (form : Form) (listed : ℕ) (row : Row) → row_cells (form_has_persons form) listed (row_for form row) ≡ row_cells (form_has_persons form) listed row
row_for_lem Old listed row = refl
row_for_lem Persons listed row = refl
row_for_lem Editions listed row = refl

policy_for_lem : (form : Form) (listed : ℕ) (p : Policy) → policy_cells (form_has_editions form) listed (policy_for form p) ≡ policy_cells (form_has_editions form) listed p
policy_for_lem Old listed p = refl
policy_for_lem Persons listed p = refl
policy_for_lem Editions listed p = refl

rows_by_index : (v : Values)
    → ended (map (λ row. line_of (row_cells (form_has_persons v.form) (length (contents_for v).codes) row)) (contents_for v).rows) ≡ rows_text (form_has_persons v.form) v
unfolding contents_for
rows_by_index v =
    let persons = form_has_persons v.form in
    ap (λ (n : ℕ). ended (map (λ row. line_of (row_cells persons n row)) (contents_for v).rows)) (length-tabulate v.code_count (code_in v))
    ∙ ended_order (λ row. line_of (row_cells persons v.code_count row)) (λ i. row_for v.form (row_in v i)) v.row_count
    ∙ ap (λ (f : ℕ → List ℕ). in_order f 0 v.row_count) (fun_ext (λ i. ap line (row_for_lem v.form v.code_count (row_in v i))))

policies_by_index : (v : Values)
    → ended (map (λ p. line_of (policy_cells (form_has_editions v.form) (length (contents_for v).codes) p)) (contents_for v).policies) ≡ policies_text (form_has_editions v.form) v
unfolding contents_for
policies_by_index v =
    let editions = form_has_editions v.form in
    ap (λ (n : ℕ). ended (map (λ p. line_of (policy_cells editions n p)) (contents_for v).policies)) (length-tabulate v.code_count (code_in v))
    ∙ ended_order (λ p. line_of (policy_cells editions v.code_count p)) (λ i. policy_for v.form (policy_given v i)) v.policy_count
    ∙ ap (λ (f : ℕ → List ℕ). in_order f 0 v.policy_count) (fun_ext (λ i. ap line (policy_for_lem v.form v.code_count (policy_given v i))))

-- ---- the table

text_halves : (c : Contents) → table_text_of c ≡ ended (row_lines c) ++ (newline ∷ ended (policy_lines c))
unfolding table_text_of ended
text_halves c = ended-append (row_lines c) ([] ∷ policy_lines c)

rows_half : (v : Values)
    → ended (row_lines (contents_for v)) ≡ line (row_heading (form_has_persons v.form) (contents_for v).codes) ++ rows_text (form_has_persons v.form) v
unfolding row_lines contents_for
rows_half v =
    ended-first (line_of (row_heading (form_has_persons v.form) (contents_for v).codes))
    (map (λ row. line_of (row_cells (form_has_persons v.form) (length (contents_for v).codes) row)) (contents_for v).rows)
    ∙ ap (λ (l : List ℕ). line (row_heading (form_has_persons v.form) (contents_for v).codes) ++ l) (rows_by_index v)

policies_half : (v : Values)
    → ended (policy_lines (contents_for v)) ≡ line (policy_heading (form_has_editions v.form) (contents_for v).codes) ++ policies_text (form_has_editions v.form) v
unfolding policy_lines contents_for
policies_half v =
    ended-first (line_of (policy_heading (form_has_editions v.form) (contents_for v).codes))
    (map (λ p. line_of (policy_cells (form_has_editions v.form) (length (contents_for v).codes) p)) (contents_for v).policies)
    ∙ ap (λ (l : List ℕ). line (policy_heading (form_has_editions v.form) (contents_for v).codes) ++ l) (policies_by_index v)

pub table_parts : (v : Values)
    → line (row_heading (form_has_persons v.form) (contents_for v).codes)
    ++ (rows_text (form_has_persons v.form) v
    ++ ((newline ∷ []) ++ (line (policy_heading (form_has_editions v.form) (contents_for v).codes) ++ policies_text (form_has_editions v.form) v)))
    ≡ table_text_of (contents_for v)
table_parts v =
    let codes = (contents_for v).codes in
    let first = row_heading (form_has_persons v.form) codes in
    let second = policy_heading (form_has_editions v.form) codes in
    sym
    (text_halves (contents_for v)
    ∙ ap₂ (λ (a b : List ℕ). a ++ (newline ∷ b)) (rows_half v) (policies_half v)
    ∙ append_assoc (line first) (rows_text (form_has_persons v.form) v) (newline ∷ (line second ++ policies_text (form_has_editions v.form) v)))
