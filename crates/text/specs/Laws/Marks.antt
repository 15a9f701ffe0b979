-- A text is taken apart at a mark in one way only. Assumes nothing.
use Rattle.std.specs.Prelude.{◌≡◌, refl, Bool, true, false, ◌&&◌, ◌≢◌, ℕ, ◌≤◌, ltb}
use Rattle.std.proofs.Common.{sym, ap, ap₂, ◌∙◌, subst, ⊎_elim, arith, eq-eqb, ne_eqb, ltb-true}
use mathlib.Core.List.Memᴰ
use mathlib.Core.List.{List, [], ◌∷◌, ◌++◌, append-nil, Memᴰ, head-eq_of_cons-eq, tail-eq_of_cons-eq}
use Rattle.std.proofs.Math.Decide.{ℕ_discrete}
use Rattle.text.specs.Text.{space, newline, dash, marked, joined}
use Rattle.text.specs.Laws.Every.{every_none, every_cons, every_first, every_rest}
use Rattle.text.specs.Cut.{◌␣◌, Every, Lacks, longer, lines_of, ended}

-- ---- what lacks a mark

pub lacks_none : (mark : ℕ) → Lacks mark []
lacks_none mark m = Memᴰ.not-nil m

pub lacks_cons : (mark c : ℕ) (text : List ℕ) → mark ≢ c → Lacks mark text → Lacks mark (c ∷ text)
lacks_cons mark c text n l m = ⊎_elim n l (Memᴰ.cases_cons m)

pub lacks_append : (mark : ℕ) (a b : List ℕ) → Lacks mark a → Lacks mark b → Lacks mark (a ++ b)
lacks_append mark a b l k m = ⊎_elim l k (Memᴰ.append_cases a m)

-- a word, a space and what follows it
pub lacks_word : {a b : List ℕ} (mark : ℕ) → mark ≢ space → Lacks mark a → Lacks mark b → Lacks mark (a ␣ b)
lacks_word {a} {b} mark n l k = lacks_append mark a (space ∷ b) l (lacks_cons mark space b n k)

-- a text whose bytes all lie above a number has no mark up to that number: for words, by computing
unfoldable pub over : ℕ → List ℕ → Bool
over most [] = true
over most (c ∷ text) = ltb most c && over most text

pub lacks_over : (most mark : ℕ) (text : List ℕ) → mark ≤ most → over most text ≡ true → Lacks mark text
unfolding over
lacks_over most mark [] l e = lacks_none mark
lacks_over most mark (c ∷ text) l e = go (ltb most c) refl e (lacks_over most mark text l)
  where
    go : (b : Bool) → ltb most c ≡ b → (b && over most text) ≡ true → (over most text ≡ true → Lacks mark text) → Lacks mark (c ∷ text)
    go true p q ih = lacks_cons mark c text (λ m. omega (arith, ltb-true most c p)) (ih q)
    go false p q ih = let z : ◌≡◌ {A = ℕ} 0 1 = cc in absurd (omega arith)

-- ---- the first mark

-- what stands before the first mark is one, and what stands behind it
pub parted : (mark : ℕ) (a b x y : List ℕ) → Lacks mark a → Lacks mark b → a ++ (mark ∷ x) ≡ b ++ (mark ∷ y) → (a ≡ b) × (x ≡ y)
parted mark [] [] x y l k e = (refl, tail-eq_of_cons-eq e)
parted mark [] (c ∷ b) x y l k e = absurd (k (Memᴰ.head (head-eq_of_cons-eq e)))
parted mark (c ∷ a) [] x y l k e = absurd (l (Memᴰ.head (sym (head-eq_of_cons-eq e))))
parted mark (c ∷ a) (d ∷ b) x y l k e =
    let h = parted mark a b x y (λ m. l (Memᴰ.tail m)) (λ m. k (Memᴰ.tail m)) (tail-eq_of_cons-eq e) in
    let first : c ≡ d = head-eq_of_cons-eq e in
    let rest = h.0 in
    (cc, h.1)

-- a text with a mark is no text without it
pub unparted : (mark : ℕ) (a b x : List ℕ) → Lacks mark b → a ++ (mark ∷ x) ≡ b → ⊥
unparted mark [] b x k e = k (subst (Memᴰ mark) e (Memᴰ.head refl))
unparted mark (c ∷ a) [] x k e = let z : ◌≡◌ {A = ℕ} 0 1 = cc in omega arith
unparted mark (c ∷ a) (d ∷ b) x k e = unparted mark a b x (λ m. k (Memᴰ.tail m)) (tail-eq_of_cons-eq e)

-- ---- lines

lines_at : (c : ℕ) (text : List ℕ) → c ≡ newline → lines_of (c ∷ text) ≡ [] ∷ lines_of text
unfolding lines_of
lines_at c text e = rw (eq-eqb c newline e, lines_of)

lines_on : (c : ℕ) (text : List ℕ) → c ≢ newline → lines_of (c ∷ text) ≡ longer c (lines_of text)
unfolding lines_of
lines_on c text n = rw (ne_eqb c newline n, lines_of)

-- a text up to its first newline is its first line
pub lines_cons : (line text : List ℕ) → Lacks newline line → lines_of (line ++ (newline ∷ text)) ≡ line ∷ lines_of text
unfolding longer
lines_cons [] text l = lines_at newline text refl
lines_cons (c ∷ line) text l =
    lines_on c (line ++ (newline ∷ text)) (λ e. l (Memᴰ.head (sym e)))
    ∙ ap (longer c) (lines_cons line text (λ m. l (Memᴰ.tail m)))

-- lines that are ended by newlines, and have none inside, are the lines of the text
pub lines_ended : (lines : List (List ℕ)) → Every (Lacks newline) lines → lines_of (ended lines) ≡ lines
unfolding lines_of ended
lines_ended [] h = refl
lines_ended (line ∷ lines) h =
    lines_cons line (ended lines) (every_first h)
    ∙ ap (λ (l : List (List ℕ)). line ∷ l) (lines_ended lines (every_rest h))

-- no line of any text has a newline in it
pub lines_lack : (text : List ℕ) → Every (Lacks newline) (lines_of text)
unfolding lines_of longer
lines_lack [] = every_none (Lacks newline)
lines_lack (c ∷ text) = go (ℕ_discrete c newline) (lines_lack text)
  where
    front : (lines : List (List ℕ)) → c ≢ newline → Every (Lacks newline) lines → Every (Lacks newline) (longer c lines)
    front [] n h = every_cons (lacks_cons newline c [] (λ e. n (sym e)) (lacks_none newline)) h
    front (line ∷ lines) n h = every_cons (lacks_cons newline c line (λ e. n (sym e)) (every_first h)) (every_rest h)

    go : Dec (c ≡ newline) → Every (Lacks newline) (lines_of text) → Every (Lacks newline) (lines_of (c ∷ text))
    go (yes e) h = subst (Every (Lacks newline)) (sym (lines_at c text e)) (every_cons (lacks_none newline) h)
    go (no n) h = subst (Every (Lacks newline)) (sym (lines_on c text n)) (front (lines_of text) n h)

-- ---- joined lists

marked_same : (between : ℕ) (x y : List ℕ) (l k : List (List ℕ)) → Every (Lacks between) (x ∷ l) → Every (Lacks between) (y ∷ k)
    → x ++ marked between between l ≡ y ++ marked between between k → x ∷ l ≡ y ∷ k
unfolding marked
marked_same between x y [] [] f g e = ap (λ (z : List ℕ). z ∷ []) (sym (append-nil x) ∙ e ∙ append-nil y)
marked_same between x y [] (v ∷ k) f g e = absurd (unparted between y x (v ++ marked between between k) (every_first f) (sym e ∙ append-nil x))
marked_same between x y (u ∷ l) [] f g e = absurd (unparted between x y (u ++ marked between between l) (every_first g) (e ∙ append-nil y))
marked_same between x y (u ∷ l) (v ∷ k) f g e =
    let a = parted between x y _ _ (every_first f) (every_first g) e in
    ap₂ (λ (z : List ℕ) (s : List (List ℕ)). z ∷ s) a.0 (marked_same between u v l k (every_rest f) (every_rest g) a.1)

-- what is joined is no dash
joined_some : (between : ℕ) (x : List ℕ) (l : List (List ℕ)) → between ≢ dash → x ≢ dash ∷ [] → x ++ marked between between l ≡ dash ∷ [] → ⊥
unfolding marked
joined_some between x [] n d e = d (sym (append-nil x) ∙ e)
joined_some between x (u ∷ l) n d e =
    unparted between x (dash ∷ []) (u ++ marked between between l) (lacks_cons between dash [] n (lacks_none between)) e

-- what is joined by a mark that none of it has can be read back
pub joined_same : (between : ℕ) (l k : List (List ℕ)) → between ≢ dash → Every (Lacks between) l → Every (Lacks between) k
    → Every (λ x. x ≢ dash ∷ []) l → Every (λ x. x ≢ dash ∷ []) k → joined between l ≡ joined between k → l ≡ k
unfolding joined
joined_same between [] [] n f g p q e = refl
joined_same between [] (y ∷ k) n f g p q e = absurd (joined_some between y k n (every_first q) (sym e))
joined_same between (x ∷ l) [] n f g p q e = absurd (joined_some between x l n (every_first p) e)
joined_same between (x ∷ l) (y ∷ k) n f g p q e = marked_same between x y l k f g e

-- a mark that is not between the items, and in none of them, is not in the joined text
pub joined_lacks : (mark between : ℕ) (l : List (List ℕ)) → mark ≢ between → mark ≢ dash → Every (Lacks mark) l → Lacks mark (joined between l)
unfolding joined marked
joined_lacks mark between [] n d h = lacks_cons mark dash [] d (lacks_none mark)
joined_lacks mark between (x ∷ l) n d h = lacks_append mark x (marked between between l) (every_first h) (rest l (every_rest h))
  where
    rest : (l : List (List ℕ)) → Every (Lacks mark) l → Lacks mark (marked between between l)
    rest [] h = lacks_none mark
    rest (x ∷ l) h = lacks_cons mark between _ n (lacks_append mark x (marked between between l) (every_first h) (rest l (every_rest h)))
