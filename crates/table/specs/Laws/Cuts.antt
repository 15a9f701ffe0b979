-- A text is cut at a mark: the piece that begins at a place, and what is cut behind it. Assumes nothing.
use Rattle.std.specs.Prelude.{◌≡◌, ℕ, suc, ◌+◌, ◌-◌, ◌<◌, ◌≤◌, ◌≢◌, List, [], ◌∷◌, ◌++◌, length, take, drop, slice_index, refl}
use Rattle.std.proofs.Common.{sym, ap, ◌∙◌, subst, append-nil, arith, eq-eqb, ne_eqb, take-append-drop, drop_of_length-le, length-drop, drop-cons, drop-drop, take-suc, get_or-drop}
use mathlib.Core.List.Memᴰ
use Rattle.std.proofs.Math.Decide.{ℕ_discrete}
use Rattle.text.specs.Cut.{Lacks, longer}
use Rattle.text.specs.Laws.Marks.{lacks_none, lacks_cons, lacks_append}
use Rattle.table.specs.Understood.{cut}
use Rattle.table.specs.declared.Piece.{Piece}
use Rattle.table.specs.Inner.Fitting.{between, first_of, others_of, IsPiece}

cut_at : (mark c : ℕ) (text : List ℕ) → c ≡ mark → cut mark (c ∷ text) ≡ [] ∷ cut mark text
unfolding cut
cut_at mark c text e = rw (eq-eqb c mark e, cut)

cut_on : (mark c : ℕ) (text : List ℕ) → c ≢ mark → cut mark (c ∷ text) ≡ longer c (cut mark text)
unfolding cut
cut_on mark c text n = rw (ne_eqb c mark n, cut)

-- a text up to its first mark is its first piece
pub cut-cons : (mark : ℕ) (piece text : List ℕ) → Lacks mark piece → cut mark (piece ++ (mark ∷ text)) ≡ piece ∷ cut mark text
unfolding longer
cut-cons mark [] text l = cut_at mark mark text refl
cut-cons mark (c ∷ piece) text l =
    cut_on mark c (piece ++ (mark ∷ text)) (λ e. l (Memᴰ.head (sym e)))
    ∙ ap (longer c) (cut-cons mark piece text (λ m. l (Memᴰ.tail m)))

-- a text without a mark is one piece
cut_only : (mark c : ℕ) (piece : List ℕ) → Lacks mark (c ∷ piece) → cut mark (c ∷ piece) ≡ (c ∷ piece) ∷ []
unfolding cut longer
cut_only mark c [] l = cut_on mark c [] (λ e. l (Memᴰ.head (sym e)))
cut_only mark c (d ∷ piece) l =
    cut_on mark c (d ∷ piece) (λ e. l (Memᴰ.head (sym e)))
    ∙ ap (longer c) (cut_only mark d piece (λ m. l (Memᴰ.tail m)))

-- ---- a piece by its places

split : (text : List ℕ) (at end : ℕ) → at ≤ end → drop at text ≡ between at end text ++ drop end text
split text at end h =
    let e : at + (end - at) ≡ end = omega arith in
    sym (take-append-drop (end - at) (drop at text))
    ∙ ap (λ (l : List ℕ). between at end text ++ l) (drop-drop (end - at) at text ∙ ap (λ (n : ℕ). drop n text) e)

-- nothing lacks any mark
pub lacks_begin : (text : List ℕ) (at mark : ℕ) → Lacks mark (between at at text)
lacks_begin text at mark =
    let e : 0 ≡ at - at = omega arith in
    subst (λ (n : ℕ). Lacks mark (take n (drop at text))) e (lacks_none mark)

-- one byte more that is no mark
pub lacks_more : (text : List ℕ) (at end mark : ℕ) → at ≤ end → end < length text → Lacks mark (between at end text) → slice_index text end ≢ mark
    → Lacks mark (between at (end + 1) text)
lacks_more text at end mark h k l n = subst (Lacks mark) (sym grown) (lacks_append mark (between at end text) (slice_index text end ∷ []) l one)
  where
    one : Lacks mark (slice_index text end ∷ [])
    one = lacks_cons mark (slice_index text end) [] (λ e. n (sym e)) (lacks_none mark)

    long : end + 1 - at ≡ suc (end - at)
    long = omega arith

    here : at + (end - at) ≡ end
    here = omega arith

    grown : between at (end + 1) text ≡ between at end text ++ (slice_index text end ∷ [])
    grown =
        ap (λ (m : ℕ). take m (drop at text)) long
        ∙ take-suc (drop at text) (end - at) 0 (omega (arith, length-drop at text))
        ∙ ap (λ (x : ℕ). between at end text ++ (x ∷ [])) (get_or-drop at text (end - at) 0 ∙ ap (λ (m : ℕ). slice_index text m) here)

first_is : (l : List (List ℕ)) (x : List ℕ) (k : List (List ℕ)) → l ≡ x ∷ k → (first_of l ≡ x) × (others_of l ≡ k)
unfolding first_of others_of
first_is l x k e = (ap first_of e, ap others_of e)

-- the piece ends at a mark
pub piece_marked : (text : List ℕ) (at end mark : ℕ) → at ≤ end → end < length text → Lacks mark (between at end text) → slice_index text end ≡ mark
    → IsPiece text at mark (record { end = end; next = end + 1 })
piece_marked text at end mark h k l e =
    let next : suc end ≡ end + 1 = omega arith in
    let parted = ap (cut mark) (split text at end h ∙ ap (λ (r : List ℕ). between at end text ++ r) (drop-cons text end 0 k ∙ ap (λ (x : ℕ). x ∷ drop (suc end) text) e)) in
    let whole = parted ∙ cut-cons mark (between at end text) (drop (suc end) text) l ∙ ap (λ (n : ℕ). between at end text ∷ cut mark (drop n text)) next in
    let p = first_is _ _ _ whole in
    record {
      begins = h;
      onward = omega arith;
      within = omega arith;
      moves = λ below. omega arith;
      first = p.0;
      others = p.1;
    }

only : (mark : ℕ) (piece : List ℕ) → Lacks mark piece → (first_of (cut mark piece) ≡ piece) × (others_of (cut mark piece) ≡ [])
unfolding cut first_of others_of
only mark [] l = (refl, refl)
only mark (c ∷ piece) l = first_is _ _ _ (cut_only mark c piece l)

nothing-cut : (mark : ℕ) → cut mark [] ≡ []
unfolding cut
nothing-cut mark = refl

-- the piece ends with the text
pub piece_last : (text : List ℕ) (at end mark : ℕ) → at ≤ end → end ≡ length text → Lacks mark (between at end text)
    → IsPiece text at mark (record { end = end; next = end })
piece_last text at end mark h k l =
    let past : drop end text ≡ [] = drop_of_length-le text {i = end} (omega arith) in
    let whole : drop at text ≡ between at end text = split text at end h ∙ ap (λ (r : List ℕ). between at end text ++ r) past ∙ append-nil (between at end text) in
    let p = only mark (between at end text) l in
    record {
      begins = h;
      onward = omega arith;
      within = omega arith;
      moves = λ below. omega arith;
      first = ap (λ (r : List ℕ). first_of (cut mark r)) whole ∙ p.0;
      others = ap (λ (r : List ℕ). others_of (cut mark r)) whole ∙ p.1 ∙ sym (ap (cut mark) past ∙ nothing-cut mark);
    }

-- ---- pieces one after the other

longer_some : (c : ℕ) (l : List (List ℕ)) → longer c l ≡ first_of (longer c l) ∷ others_of (longer c l)
unfolding longer first_of others_of
longer_some c [] = refl
longer_some c (x ∷ l) = refl

cut_some : (mark c : ℕ) (text : List ℕ) → cut mark (c ∷ text) ≡ first_of (cut mark (c ∷ text)) ∷ others_of (cut mark (c ∷ text))
unfolding first_of others_of
cut_some mark c text = go (ℕ_discrete c mark)
  where
    Some : List (List ℕ) → Type 0
    Some l = l ≡ first_of l ∷ others_of l

    none_first : Some ([] ∷ cut mark text)
    none_first = refl

    go : Dec (c ≡ mark) → Some (cut mark (c ∷ text))
    go (yes e) = subst Some (sym (cut_at mark c text e)) none_first
    go (no n) = subst Some (sym (cut_on mark c text n)) (longer_some c (cut mark text))

-- before the end there is a piece
pub cut_next : (text : List ℕ) (at mark : ℕ) (p : Piece) → at < length text → IsPiece text at mark p
    → cut mark (drop at text) ≡ between at p.end text ∷ cut mark (drop p.next text)
cut_next text at mark p h is =
    let some = subst (λ (l : List ℕ). cut mark l ≡ first_of (cut mark l) ∷ others_of (cut mark l)) (sym (drop-cons text at 0 h)) (cut_some mark (slice_index text at) (drop (suc at) text)) in
    let first = is.first in
    let others = is.others in
    cc

-- past the end there is none
pub cut-past : (text : List ℕ) (at mark : ℕ) → length text ≤ at → cut mark (drop at text) ≡ []
cut-past text at mark h = ap (cut mark) (drop_of_length-le text h) ∙ nothing-cut mark
