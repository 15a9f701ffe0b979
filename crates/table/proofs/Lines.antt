-- What one turn of each loop writes, and what it leaves. Assumes nothing.
use Rattle.std.proofs.Common.{◌≡◌, ℕ, ◌-◌, ◌<◌, ◌≤◌, Option, Some, None, Bool, true, false, ◌||◌, ◌≢◌, List, [], ◌∷◌, ◌++◌, length, take, drop, sym, ap, ◌∙◌, subst, append_assoc, arith, length-drop, length-take}
use native.Mathlib.Decide.{dec_lt}
use Rattle.text.specs.Text.{comma, newline, dash, joined, marked, Appended}
use Rattle.text.specs.Cut.{ended}
use Rattle.text.specs.Laws.Appends.{none, ◌then◌, read_as}
use Rattle.table.specs.Understood.{cut, blank, under, fitted, parts}
use Rattle.table.specs.declared.Piece.{Piece}
use Rattle.table.specs.declared.Span.{Span}
use Rattle.table.specs.declared.Turn.{Turn}
use Rattle.table.specs.Inner.Fitting.{between, heading_of, Within, HeadingIn, IsPiece, kept_if, cell_if, cells_after, gap_if, rest_at, TakesLine}
use Rattle.table.specs.Laws.Cuts.{cut-past}
use Rattle.table.specs.Laws.Fits.{cells_from, cells_next, blank-line, heading_line, headed_line, ended-cons, ended_gap}

-- ---- the end of a line, and the gap before one

pub end_begun : (begun : Bool) → begun ≡ true → newline ∷ [] ≡ cells_after begun [] ++ (newline ∷ [])
unfolding cells_after marked
end_begun begun e = sym (ap (λ (b : Bool). cells_after b [] ++ (newline ∷ [])) e)

pub end_none : (begun : Bool) → begun ≡ false → dash ∷ newline ∷ [] ≡ cells_after begun [] ++ (newline ∷ [])
unfolding cells_after joined
end_none begun e = sym (ap (λ (b : Bool). cells_after b [] ++ (newline ∷ [])) e)

pub gap_begun : (begun : Bool) → begun ≡ true → newline ∷ [] ≡ ended (gap_if begun)
unfolding ended
gap_begun begun e = sym (ap (λ (b : Bool). ended (gap_if b)) e)

pub gap_none : (begun : Bool) → begun ≡ false → [] ≡ ended (gap_if begun)
unfolding ended
gap_none begun e = sym (ap (λ (b : Bool). ended (gap_if b)) e)

-- ---- a turn of the loop over the cells

pub turn : (heading line : List ℕ) (h c : ℕ) (begun kept after : Bool) (p q : Piece) (x y : List ℕ) → IsPiece heading h comma p → IsPiece line c comma q
    → x ≡ between h p.end heading → y ≡ between c q.end line → under x y ≡ kept_if kept y → after ≡ (begun || kept)
    → cells_from heading h line c begun ++ (newline ∷ []) ≡ cell_if kept begun y ++ (cells_from heading p.next line q.next after ++ (newline ∷ []))
turn heading line h c begun kept after p q x y is its e f u g =
    let there : under (between h p.end heading) (between c q.end line) ≡ kept_if kept (between c q.end line) =
    ap (λ (a : List ℕ). under a (between c q.end line)) (sym e) ∙ ap (under x) (sym f) ∙ u ∙ ap (kept_if kept) f in
    let rest : Bool → List ℕ = λ b. cells_from heading p.next line q.next b in
    ap (λ (l : List ℕ). l ++ (newline ∷ [])) (cells_next heading line h c begun kept p q is its there)
    ∙ ap (λ (l : List ℕ). (cell_if kept begun l ++ rest (begun || kept)) ++ (newline ∷ [])) (sym f)
    ∙ append_assoc (cell_if kept begun y) (rest (begun || kept)) (newline ∷ [])
    ∙ ap (λ (b : Bool). cell_if kept begun y ++ (rest b ++ (newline ∷ []))) (sym g)

-- ---- a turn of the loop over the lines

module _ (text old : List ℕ) (turn : Turn) (from to : ℕ) (line : List ℕ) (e : line ≡ between from to text) where
  is_so : {b : Bool} → blank line ≡ b → blank (between from to text) ≡ b
  is_so {b} f = subst (λ (l : List ℕ). blank l ≡ b) e f

  -- a line that is not blank is not empty
  some : blank line ≡ false → Within from to text → from < to
  unfolding blank
  some b within = go (dec_lt from to)
    where
      nothing : to - from ≡ 0 → true ≡ false
      nothing z = sym (ap (λ (n : ℕ). blank (take n (drop from text))) z) ∙ is_so b

      go : Dec (from < to) → from < to
      go (yes h) = h
      go (no n) = let f : true ≡ false = nothing (omega arith) in cc

  pub takes_blank : blank line ≡ true → TakesLine text (between from to text) old old turn (record { next = turn.next; begun = turn.begun; heading = None })
  takes_blank b = record {
    bytes = [];
    put = none old turn.next;
    rest = λ lines. ap ended (blank-line (gap_if turn.begun) (heading_of text turn.heading) (between from to text) lines (is_so b));
    heading = tt;
  }

  pub takes_heading : {mid new : List ℕ} {next end : ℕ} → blank line ≡ false → turn.heading ≡ None → Within from to text
      → Appended (ended (gap_if turn.begun)) old turn.next mid next → Appended (fitted line line ++ (newline ∷ [])) mid next new end
      → TakesLine text (between from to text) old new turn (record { next = end; begun = true; heading = Some (record { from = from; to = to }) })
  takes_heading b missing within g f =
      let empty : length (heading_of text turn.heading) ≡ 0 = ap (λ (h : Option Span). length (heading_of text h)) missing in
      record {
        bytes = ended (gap_if turn.begun) ++ (fitted (between from to text) (between from to text) ++ (newline ∷ []));
        put = g then read_as (ap (λ (l : List ℕ). fitted l l ++ (newline ∷ [])) e) f;
        rest = λ lines.
            ap ended (heading_line (gap_if turn.begun) (heading_of text turn.heading) (between from to text) lines (is_so b) empty)
            ∙ ended_gap turn.begun (fitted (between from to text) (between from to text)) (parts ([] ∷ []) (between from to text) lines);
        heading = (some b within, within.1);
      }

  pub takes_headed : {new heading : List ℕ} {end : ℕ} (s : Span) → turn.heading ≡ Some s → heading ≡ between s.from s.to text → blank line ≡ false
      → HeadingIn turn.heading text → Appended (fitted heading line ++ (newline ∷ [])) old turn.next new end
      → TakesLine text (between from to text) old new turn (record { next = end; begun = turn.begun; heading = turn.heading })
  takes_headed {new} {heading} s is h b within f =
      let there : heading_of text turn.heading ≡ between s.from s.to text = ap (heading_of text) is in
      let inside : HeadingIn (Some s) text = subst (λ (x : Option Span). HeadingIn x text) is within in
      let full : length (heading_of text turn.heading) ≢ 0 = λ z.
      omega (arith, ap length there, z, length-take (s.to - s.from) (drop s.from text), length-drop s.from text, inside.0, inside.1) in
      record {
        bytes = fitted (heading_of text turn.heading) (between from to text) ++ (newline ∷ []);
        put = read_as (ap (λ (l : List ℕ). fitted l line ++ (newline ∷ [])) (h ∙ sym there) ∙ ap (λ (l : List ℕ). fitted (heading_of text turn.heading) l ++ (newline ∷ [])) e) f;
        rest = λ lines.
            ap ended (headed_line (gap_if turn.begun) (heading_of text turn.heading) (between from to text) lines (is_so b) full)
            ∙ ended-cons (fitted (heading_of text turn.heading) (between from to text)) _;
        heading = within;
      }

pub rest_none : (text : List ℕ) (turn : Turn) (i : ℕ) → length text ≤ i → rest_at text turn (cut newline (drop i text)) ≡ []
unfolding parts ended
rest_none text turn i h = ap (rest_at text turn) (cut-past text i newline h)
