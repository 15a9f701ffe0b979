-- A set of rows, and crews one after the other, can be read back where the rows' names are pairwise different. Assumes nothing.
use Rattle.std.specs.Prelude.{◌≡◌, refl, ◌≢◌, ℕ, zero, suc, ◌^◌, ◌≤◌, ◌<◌, length, get_or, take}
use Rattle.std.proofs.Math.Path.{sym}
use Rattle.std.proofs.Common.{ap, ◌∙◌, subst, lt_of_lt_of_le, arith, pow_mono, pow_pos, ext_get_or}
use mathlib.Core.List.{List, [], ◌∷◌, map, Memᴰ}
use Rattle.sets.specs.Sets.{bit_below, ext_all}
use Rattle.sets.proofs.Sets.{sub_of_has}
use Rattle.sets.specs.Members.{members}
use Rattle.sets.proofs.Laws.Members.{has_of_mem, mem_of_has, members-empty}
use Rattle.roster.specs.Limits.{row_limit}
use Rattle.text.specs.Text.{comma, slash, dash, decimal, joined}
use Rattle.text.specs.Cut.{Every, Lacks}
use Rattle.text.specs.Laws.Every.{every_none, every_cons, every_map, map_same}
use Rattle.text.specs.Laws.Marks.{joined_same}
use Rattle.text.proofs.Laws.Numbers.{decimal_lacks, decimal_no_dash, decimal_same}
use Rattle.lines.specs.Lines.{names, set_text, filled, crews_text}
use Rattle.printed.specs.Words.{Different}
use Rattle.printed.specs.Laws.Lines.{set_no_slash}

-- two sets with the same members are one
members_same : (w A B : ℕ) → A < 2 ^ w → B < 2 ^ w → members 0 w A ≡ members 0 w B → A ≡ B
members_same w A B a b e =
    let to = sub_of_has A B (λ i h. (has_of_mem w B i (subst (Memᴰ i) e (mem_of_has w A i (bit_below A w i a h) h))).1) in
    let from = sub_of_has B A (λ i h. (has_of_mem w A i (subst (Memᴰ i) (sym e) (mem_of_has w B i (bit_below B w i b h) h))).1) in
    ext_all A B (λ i. omega (arith, to i, from i))

module _ (n : ℕ) (few : n ≤ row_limit) (numbers : List ℕ) (different : Different n numbers) where
  wide : (A : ℕ) → A < 2 ^ n → A < 2 ^ row_limit
  wide A h = lt_of_lt_of_le h (pow_mono few)

  -- the names tell which rows they are of
  names_same : (A B : ℕ) → A < 2 ^ n → B < 2 ^ n → names numbers A ≡ names numbers B → A ≡ B
  unfolding names
  names_same A B a b e =
      members_same row_limit A B (wide A a) (wide B b)
      (map_same (λ row. decimal (get_or numbers row 0)) (members 0 row_limit A) (members 0 row_limit B)
      (λ u m w k same. different u w (row A u a m) (row B w b k) (decimal_same (get_or numbers u 0) (get_or numbers w 0) same)) e)
    where
      row : (C u : ℕ) → C < 2 ^ n → Memᴰ u (members 0 row_limit C) → u < n
      row C u c m = bit_below C n u c (has_of_mem row_limit C u m).1

  pub set_same : (A B : ℕ) → A < 2 ^ n → B < 2 ^ n → set_text numbers A ≡ set_text numbers B → A ≡ B
  unfolding names
  set_same A B a b e =
      names_same A B a b
      (joined_same comma (names numbers A) (names numbers B) (λ q. omega arith) (lacks A) (lacks B) (some A) (some B) e)
    where
      lacks : (C : ℕ) → Every (Lacks comma) (names numbers C)
      lacks C = every_map (λ row. decimal (get_or numbers row 0)) (Lacks comma) (members 0 row_limit C) (λ row m. decimal_lacks comma (get_or numbers row 0) (λ d l q. omega arith))

      some : (C : ℕ) → Every (λ x. x ≢ dash ∷ []) (names numbers C)
      some C = every_map (λ row. decimal (get_or numbers row 0)) (λ x. x ≢ dash ∷ []) (members 0 row_limit C) (λ row m. decimal_no_dash (get_or numbers row 0))

  -- only nobody is written `-`
  set_some : (A : ℕ) → A < 2 ^ n → A ≢ 0 → set_text numbers A ≢ dash ∷ []
  unfolding names joined
  set_some A a z e = z (set_same A 0 a (pow_pos n) (e ∙ sym (ap (λ (l : List ℕ). joined comma (map (λ row. decimal (get_or numbers row 0)) l)) (members-empty row_limit))))

  -- a crew that is written has somebody in it
  crews_some : (l : List ℕ) → ((j : ℕ) → get_or l j 0 < 2 ^ n) → Every (λ crew. (crew < 2 ^ n) × (crew ≢ 0)) (filled l)
  unfolding filled
  crews_some [] h = every_none (λ crew. (crew < 2 ^ n) × (crew ≢ 0))
  crews_some (zero ∷ l) h = every_none (λ crew. (crew < 2 ^ n) × (crew ≢ 0))
  crews_some (suc crew ∷ l) h = every_cons (h 0, λ e. omega arith) (crews_some l (λ j. h (suc j)))

  pub crews_same : (l k : List ℕ) → ((j : ℕ) → get_or l j 0 < 2 ^ n) → ((j : ℕ) → get_or k j 0 < 2 ^ n)
      → crews_text numbers l ≡ crews_text numbers k → filled l ≡ filled k
  crews_same l k f g e =
      let p = crews_some l f in
      let q = crews_some k g in
      map_same (set_text numbers) (filled l) (filled k) (λ A m B o. set_same A B (p A m).0 (q B o).0)
      (joined_same slash (map (set_text numbers) (filled l)) (map (set_text numbers) (filled k)) (λ z. omega arith)
      (every_map (set_text numbers) (Lacks slash) (filled l) (λ A m. set_no_slash numbers A))
      (every_map (set_text numbers) (Lacks slash) (filled k) (λ A m. set_no_slash numbers A))
      (every_map (set_text numbers) (λ x. x ≢ dash ∷ []) (filled l) (λ A m. set_some A (p A m).0 (p A m).1))
      (every_map (set_text numbers) (λ x. x ≢ dash ∷ []) (filled k) (λ A m. set_some A (q A m).0 (q A m).1)) e)

-- ---- the crews before the first that is empty

-- behind an empty set all are empty
abbrev pub NoneBehind : List ℕ → Type 0
NoneBehind l = (j k : ℕ) → j ≤ k → get_or l j 0 ≡ 0 → get_or l k 0 ≡ 0

filled_at : (l : List ℕ) → NoneBehind l → (j : ℕ) → get_or (filled l) j 0 ≡ get_or l j 0
unfolding filled
filled_at [] h j = refl
filled_at (zero ∷ l) h j = sym (h 0 j (omega arith) refl)
filled_at (suc crew ∷ l) h zero = refl
filled_at (suc crew ∷ l) h (suc j) = filled_at l (λ i k m. h (suc i) (suc k) (omega arith)) j

-- as many sets, with none behind an empty one, are told by those before the first empty one
pub filled_same : (l k : List ℕ) → length l ≡ length k → NoneBehind l → NoneBehind k → filled l ≡ filled k → l ≡ k
filled_same l k n f g e =
    ext_get_or 0 l k n (λ j m. sym (filled_at l f j) ∙ ap (λ (s : List ℕ). get_or s j 0) e ∙ filled_at k g j)

-- d sets that are not empty, and empty ones behind them
pub filled-take : (d : ℕ) (l : List ℕ) → d ≤ length l → ((j : ℕ) → j < d → get_or l j 0 ≢ 0) → ((j : ℕ) → d ≤ j → get_or l j 0 ≡ 0)
    → filled l ≡ take d l
unfolding filled
filled-take zero [] h f g = refl
filled-take zero (zero ∷ l) h f g = refl
filled-take zero (suc c ∷ l) h f g = absurd (omega (arith, g 0 (omega arith)))
filled-take (suc d) [] h f g = absurd (omega arith)
filled-take (suc d) (zero ∷ l) h f g = absurd (f 0 (omega arith) refl)
filled-take (suc d) (suc c ∷ l) h f g =
    ap (λ (s : List ℕ). suc c ∷ s) (filled-take d l (omega arith) (λ j m. f (suc j) (omega arith)) (λ j m. g (suc j) (omega arith)))
