-- The sheet of a book is one line for each of its policies, in order; that of a refused book is the line of its first fault. Assumes nothing.
use Rattle.std.specs.Prelude.{◌≡◌, refl, ◌⊎◌, ℕ, zero, suc, ◌+◌, length, Some}
use Rattle.std.proofs.Common.{sym, ap, ap₂, ◌∙◌, subst, inl, inr, ⊎_elim, arith}
use Rattle.std.proofs.Math.Option.{some}
use mathlib.Core.List.Memᴰ
use mathlib.Core.List.{List, [], ◌∷◌, ◌++◌, append_assoc, Memᴰ}
use Rattle.std.proofs.Math.ListN.{get_elem?}
use Rattle.roster.specs.declared.Policy.{Policy}
use Rattle.book.specs.Layout.{Contents, LayoutOf}
use Rattle.book.specs.Faults.{fault_number}
use Rattle.book.specs.Reading.{form_of, starts_of}
use Rattle.book.specs.Parts.{contents_of, policy_at}
use Rattle.book.specs.Promises.{Bytes, FirstFault, answered}
use Rattle.book.proofs.Laws.Books.{layout_good, first_fault_refused, reply, good_layout}
use Rattle.book.proofs.Laws.Parts.{layout_parts}
use Rattle.book.specs.declared.Fault.{Fault}
use Rattle.text.specs.Text.{newline}
use Rattle.text.specs.Cut.{Every, Lacks, lines_of, ended, HasLine}
use Rattle.text.specs.Laws.Every.{every_none, every_cons}
use Rattle.text.specs.Laws.Marks.{lines_ended}
use Rattle.lines.specs.Sheet.{numbers_in, reply_to, line_by, lines_from, sheet_by, sheet_of}
use Rattle.printed.specs.Words.{PolicyOf}
use Rattle.printed.specs.Laws.Lines.{line_text, bad_text, line_text_lem, bad_text_lem, line-one, bad_one}

-- the line of a policy of the book
abbrev pub line_at : List ℕ → ℕ → Policy → List ℕ
line_at book i p = line_text (numbers_in book) i (reply_to book p)

-- the lines of these policies, with the indices from i on
unfoldable pub lines_for : List ℕ → ℕ → List Policy → List (List ℕ)
lines_for book i [] = []
lines_for book i (p ∷ l) = line_at book i p ∷ lines_for book (suc i) l

lines_one : (book : List ℕ) (i : ℕ) (l : List Policy) → Every (Lacks newline) (lines_for book i l)
unfolding lines_for
lines_one book i [] = every_none (Lacks newline)
lines_one book i (p ∷ l) = every_cons (line-one (numbers_in book) i (reply_to book p)) (lines_one book (suc i) l)

-- where the policies from index i on are these, the lines from there on are theirs
lines_from_lem : (book : List ℕ) (i : ℕ) (l : List Policy) → ((j : ℕ) → policy_at book (i + j) ≡ answered (get_elem? l j))
    → lines_from book i (length l) ≡ ended (lines_for book i l)
unfolding lines_for lines_from line_by ended
lines_from_lem book i [] h = refl
lines_from_lem book i (p ∷ l) h =
    let here : policy_at book i ≡ Some p = ap (policy_at book) (omega arith) ∙ h 0 in
    let rest = lines_from_lem book (suc i) l (λ j. ap (policy_at book) (omega arith) ∙ h (suc j)) in
    ap₂ (λ (one more : List ℕ). one ++ more) (ap (line_by book i) here ∙ line_text_lem (numbers_in book) i (reply_to book p)) rest
    ∙ append_assoc (line_at book i p) (newline ∷ []) (ended (lines_for book (suc i) l))

-- ---- a good book: its lines are those of its policies

-- the sheet is these lines, each ended by its newline
pub sheet_whole : (v : Contents) (book : List ℕ) → LayoutOf v book → sheet_of book ≡ ended (lines_for book 0 v.policies)
unfolding sheet_of sheet_by
sheet_whole v book l =
    let parts = layout_parts v book l in
    ap (sheet_by book) (layout_good v book l)
    ∙ ap (lines_from book 0) parts.policies
    ∙ lines_from_lem book 0 v.policies (λ j. ap (policy_at book) (omega arith) ∙ parts.policy j)

pub sheet_lines : (v : Contents) (book : List ℕ) → LayoutOf v book → lines_of (sheet_of book) ≡ lines_for book 0 v.policies
sheet_lines v book l = ap lines_of (sheet_whole v book l) ∙ lines_ended (lines_for book 0 v.policies) (lines_one book 0 v.policies)

for_many : (book : List ℕ) (i : ℕ) (l : List Policy) → length (lines_for book i l) ≡ length l
unfolding lines_for
for_many book i [] = refl
for_many book i (p ∷ l) = ap suc (for_many book (suc i) l)

for_at : (book : List ℕ) (i : ℕ) (l : List Policy) (j : ℕ) (p : Policy) → get_elem? l j ≡ some p → get_elem? (lines_for book i l) j ≡ some (line_at book (i + j) p)
unfolding lines_for
for_at book i [] j p e = let z : ◌≡◌ {A = ℕ} 0 1 = cc in absurd (omega arith)
for_at book i (q ∷ l) zero p e = let same : q ≡ p = cc in ap₂ (λ (k : ℕ) (x : Policy). some (line_at book k x)) (omega arith) same
for_at book i (q ∷ l) (suc j) p e = for_at book (suc i) l j p e ∙ ap (λ (k : ℕ). some (line_at book k p)) (omega arith)

for_mem : (book : List ℕ) (i : ℕ) (l : List Policy) (line : List ℕ) → Memᴰ line (lines_for book i l)
    → (j : ℕ) × (p : Policy) × (get_elem? l j ≡ some p) × (line ≡ line_at book (i + j) p)
unfolding lines_for
for_mem book i [] line m = absurd (Memᴰ.not-nil m)
for_mem book i (p ∷ l) line m = ⊎_elim
    (λ e. (0, p, refl, e ∙ ap (λ (k : ℕ). line_at book k p) (omega arith)))
    (λ t. let r = for_mem book (suc i) l line t in (suc r.0, r.1, r.2, r.3 ∙ ap (λ (k : ℕ). line_at book k r.1) (omega arith)))
    (Memᴰ.cases_cons m)

-- as many lines as policies
pub sheet_many : (v : Contents) (book : List ℕ) → LayoutOf v book → length (lines_of (sheet_of book)) ≡ length v.policies
sheet_many v book l = ap length (sheet_lines v book l) ∙ for_many book 0 v.policies

-- line i is that of policy i
pub sheet_line : (book : List ℕ) (i : ℕ) (v : Contents) (p : Policy) → PolicyOf book i v p → get_elem? (lines_of (sheet_of book)) i ≡ some (line_at book i p)
sheet_line book i v p o =
    ap (λ (l : List (List ℕ)). get_elem? l i) (sheet_lines v book o.layout)
    ∙ for_at book 0 v.policies i p o.policy
    ∙ ap (λ (k : ℕ). some (line_at book k p)) (omega arith)

-- and there is no other line
pub sheet_found : (v : Contents) (book line : List ℕ) → LayoutOf v book → HasLine (sheet_of book) line
    → (i : ℕ) × (p : Policy) × PolicyOf book i v p × (line ≡ line_at book i p)
sheet_found v book line l m =
    let r = for_mem book 0 v.policies line (subst (Memᴰ line) (sheet_lines v book l) m) in
    (r.0, r.1, record { layout = l; policy = r.2 }, r.3 ∙ ap (λ (k : ℕ). line_at book k r.1) (omega arith))

-- ---- a refused book

-- "A refused book prints only one such line of `bad`, the number and the place": of its first fault
refused_whole : (book : List ℕ) (f : Fault) (at : ℕ) → FirstFault book f at → sheet_of book ≡ ended (bad_text (fault_number f) at ∷ [])
unfolding sheet_of sheet_by ended
refused_whole book f at h = ap (sheet_by book) (first_fault_refused book f at h) ∙ bad_text_lem (fault_number f) at

pub refused_lines : (book : List ℕ) (f : Fault) (at : ℕ) → FirstFault book f at → lines_of (sheet_of book) ≡ bad_text (fault_number f) at ∷ []
refused_lines book f at h =
    ap lines_of (refused_whole book f at h)
    ∙ lines_ended (bad_text (fault_number f) at ∷ []) (every_cons (bad_one (fault_number f) at) (every_none (Lacks newline)))

-- ---- every sheet

-- a string of bytes is the layout of some values, or it has a first fault
pub good_or_bad : (book : List ℕ) → Bytes book → ((v : Contents) × LayoutOf v book) ⊎ ((f : Fault) × (at : ℕ) × FirstFault book f at)
good_or_bad book bytes =
    ⊎_elim (λ g. inl (contents_of book, good_layout book (starts_of (form_of book) book) bytes g.reply)) (λ r. inr (r.fault, r.place, r.first)) (reply book)

-- the lines of a sheet, each ended by its newline, are the sheet
pub sheet_ended : (book : List ℕ) → Bytes book → sheet_of book ≡ ended (lines_of (sheet_of book))
sheet_ended book bytes =
    ⊎_elim
    (λ (v, l). sheet_whole v book l ∙ ap ended (sym (sheet_lines v book l)))
    (λ (f, at, h). refused_whole book f at h ∙ ap ended (sym (refused_lines book f at h)))
    (good_or_bad book bytes)
