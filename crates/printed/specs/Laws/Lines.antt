-- A line is four fields with a space between, and no field has a space or a newline in it: so the line can be taken apart again. Assumes nothing.
use Rattle.std.specs.Prelude.{◌≡◌, ◌≢◌, ℕ, ◌≤◌, length, get_or}
use Rattle.std.proofs.Math.Path.{refl}
use Rattle.std.proofs.Common.{sym, ap, subst, arith}
use mathlib.Core.List.{List, [], ◌∷◌, ◌++◌, map, append-nil, Memᴰ}
use Prim.Native.Char.{code}
use Rattle.sets.specs.Members.{members}
use Rattle.roster.specs.Limits.{row_limit}
use Rattle.roster.specs.declared.Verdict.{Verdict}
use Rattle.roster.specs.declared.Verdict.TheVariants.{Yes, No, Undecided, Crews, None, Refused}
use Rattle.roster.specs.declared.Reply.{Reply}
use Rattle.text.specs.Text.{quoted, space, newline, comma, slash, dash, decimal, marked, joined}
use Rattle.text.specs.Cut.{◌␣◌, Lacks}
use Rattle.text.specs.Laws.Every.{every_map}
use Rattle.text.specs.Laws.Marks.{parted, lacks_word, over, lacks_over, joined_lacks}
use Rattle.text.proofs.Laws.Numbers.{NoDigit, decimal_lacks, decimal_same}
use Rattle.lines.specs.Lines.{verdict_word, names, set_text, filled, sets_text, line_of, bad_line}

pub never : {A : Type 0} → ◌≡◌ {A = ℕ} 0 1 → A
never e = absurd (omega arith)

-- a line without its newline
abbrev pub line_text : List ℕ → ℕ → Reply → List ℕ
line_text numbers i r = decimal i ␣ verdict_word r.verdict ␣ decimal r.units ␣ sets_text numbers r r.verdict

abbrev pub bad_text : ℕ → ℕ → List ℕ
bad_text number place = quoted "bad" ␣ decimal number ␣ decimal place

pub line_text_lem : (numbers : List ℕ) (i : ℕ) (r : Reply) → line_of numbers i r ≡ line_text numbers i r ++ (newline ∷ [])
unfolding line_of joined marked
line_text_lem numbers i r = simp append-nil

pub bad_text_lem : (number place : ℕ) → bad_line number place ≡ bad_text number place ++ (newline ∷ [])
unfolding bad_line joined marked
bad_text_lem number place = simp append-nil

-- ---- what is in no set and in no word

set_lacks : (mark : ℕ) → NoDigit mark → mark ≢ comma → mark ≢ dash → (numbers : List ℕ) (A : ℕ) → Lacks mark (set_text numbers A)
unfolding names
set_lacks mark n c d numbers A =
    joined_lacks mark comma (names numbers A) c d
    (every_map (λ row. decimal (get_or numbers row 0)) (Lacks mark) (members 0 row_limit A) (λ row m. decimal_lacks mark (get_or numbers row 0) n))

-- no set has a slash, so that crews can be told apart
pub set_no_slash : (numbers : List ℕ) (A : ℕ) → Lacks slash (set_text numbers A)
set_no_slash = set_lacks slash (λ d l e. omega arith) (λ e. omega arith) (λ e. omega arith)

-- the space, and what comes before it among the bytes, as the newline does
module _ (mark : ℕ) (low : mark ≤ space) where
  number-blank : (n : ℕ) → Lacks mark (decimal n)
  number-blank n = decimal_lacks mark n (λ d l e. omega arith)

  dash-blank : Lacks mark (dash ∷ [])
  unfolding over
  dash-blank = lacks_over space mark (dash ∷ []) low refl

  word_blank : (v : Verdict) → Lacks mark (verdict_word v)
  unfolding verdict_word over
  word_blank Yes = lacks_over space mark (verdict_word Yes) low refl
  word_blank No = lacks_over space mark (verdict_word No) low refl
  word_blank Undecided = lacks_over space mark (verdict_word Undecided) low refl
  word_blank Crews = lacks_over space mark (verdict_word Crews) low refl
  word_blank None = lacks_over space mark (verdict_word None) low refl
  word_blank (Refused refusal) = lacks_over space mark (verdict_word (Refused refusal)) low refl

  set-blank : (numbers : List ℕ) (A : ℕ) → Lacks mark (set_text numbers A)
  set-blank = set_lacks mark (λ d l e. omega arith) (λ e. omega arith) (λ e. omega arith)

  sets_blank : (numbers : List ℕ) (r : Reply) (v : Verdict) → Lacks mark (sets_text numbers r v)
  unfolding sets_text
  sets_blank numbers r Yes =
      joined_lacks mark slash (map (set_text numbers) (filled r.crews)) (λ e. omega arith) (λ e. omega arith)
      (every_map (set_text numbers) (Lacks mark) (filled r.crews) (λ crew m. set-blank numbers crew))
  sets_blank numbers r No = set-blank numbers r.blocker
  sets_blank numbers r Undecided = dash-blank
  sets_blank numbers r Crews = dash-blank
  sets_blank numbers r None = dash-blank
  sets_blank numbers r (Refused refusal) = dash-blank

  bad_blank : Lacks mark (quoted "bad")
  unfolding over
  bad_blank = lacks_over space mark (quoted "bad") low refl

-- ---- a line has no newline in it

abbrev low : newline ≤ space
low = omega arith

field : {a b : List ℕ} → Lacks newline a → Lacks newline b → Lacks newline (a ␣ b)
field = lacks_word newline (λ e. omega arith)

pub line-one : (numbers : List ℕ) (i : ℕ) (r : Reply) → Lacks newline (line_text numbers i r)
line-one numbers i r =
    field (number-blank newline low i)
    (field (word_blank newline low r.verdict)
    (field (number-blank newline low r.units) (sets_blank newline low numbers r r.verdict)))

pub bad_one : (number place : ℕ) → Lacks newline (bad_text number place)
bad_one number place = field (bad_blank newline low) (field (number-blank newline low number) (number-blank newline low place))

-- ---- what stands before a space can be read back

-- no number is written `bad`
pub not_bad : (i : ℕ) (x y : List ℕ) → decimal i ␣ x ≡ quoted "bad" ␣ y → ⊥
not_bad i x y e =
    let same = (parted space (decimal i) (quoted "bad") x y (number-blank space (omega arith) i) (bad_blank space (omega arith)) e).0 in
    decimal_lacks (code "b") i (λ d l q. omega arith) (subst (Memᴰ (code "b")) (sym same) (Memᴰ.head refl))

pub number_parted : (m n : ℕ) (x y : List ℕ) → decimal m ␣ x ≡ decimal n ␣ y → (m ≡ n) × (x ≡ y)
number_parted m n x y e =
    let h = parted space (decimal m) (decimal n) x y (number-blank space (omega arith) m) (number-blank space (omega arith) n) e in
    (decimal_same m n h.0, h.1)

-- the line of a refused book tells number and place
pub bad_parted : (m n at to : ℕ) → bad_text m at ≡ bad_text n to → (m ≡ n) × (at ≡ to)
bad_parted m n at to e =
    let blank = bad_blank space (omega arith) in
    let h = number_parted m n (decimal at) (decimal to) (parted space (quoted "bad") (quoted "bad") _ _ blank blank e).1 in
    (h.0, decimal_same at to h.1)

-- the three verdicts that a policy's line can have
pub data Worded : Verdict → Type 0 where
  says_yes : Worded Yes
  says_no : Worded No
  says_undecided : Worded Undecided

word_same : (v w : Verdict) → Worded v → Worded w → verdict_word v ≡ verdict_word w → v ≡ w
unfolding verdict_word
word_same Yes Yes says_yes says_yes e = refl
word_same Yes No says_yes says_no e = absurd (omega (arith, ap length e))
word_same Yes Undecided says_yes says_undecided e = absurd (omega (arith, ap length e))
word_same No Yes says_no says_yes e = absurd (omega (arith, ap length e))
word_same No No says_no says_no e = refl
word_same No Undecided says_no says_undecided e = absurd (omega (arith, ap length e))
word_same Undecided Yes says_undecided says_yes e = absurd (omega (arith, ap length e))
word_same Undecided No says_undecided says_no e = absurd (omega (arith, ap length e))
word_same Undecided Undecided says_undecided says_undecided e = refl
word_same Yes Crews a b e = elim b [ ]
word_same Yes None a b e = elim b [ ]
word_same Yes (Refused _) a b e = elim b [ ]
word_same No Crews a b e = elim b [ ]
word_same No None a b e = elim b [ ]
word_same No (Refused _) a b e = elim b [ ]
word_same Undecided Crews a b e = elim b [ ]
word_same Undecided None a b e = elim b [ ]
word_same Undecided (Refused _) a b e = elim b [ ]
word_same Crews w a b e = elim a [ ]
word_same None w a b e = elim a [ ]
word_same (Refused _) w a b e = elim a [ ]

pub word_parted : (v w : Verdict) (x y : List ℕ) → Worded v → Worded w → verdict_word v ␣ x ≡ verdict_word w ␣ y → (v ≡ w) × (x ≡ y)
word_parted v w x y a b e =
    let h = parted space (verdict_word v) (verdict_word w) x y (word_blank space (omega arith) v) (word_blank space (omega arith) w) e in
    (word_same v w a b h.0, h.1)
