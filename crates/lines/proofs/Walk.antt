-- How a set's members and a reply's crews are written one after the other: what one turn of a loop writes, and what is left. Assumes nothing.
use mathlib.Core.Path.{◌≡◌, refl, ap, ◌∙◌}
use mathlib.Core.Logic.{◌≢◌}
use mathlib.Core.List.{List, [], ◌∷◌, ◌++◌, map}
use Prim.Native.Nat.{ℕ, zero, suc, ◌^◌, ◌≤◌, ◌<◌}
use native.Mathlib.Omega.{arith}
use lib.Bits.{bit_xor}
use lib.Count.{count_trailing_zeros}
use lib.ListN.{length, get_or, drop, drop_of_length-le}
use lib.Seq.{drop-cons}
use Rattle.sets.specs.Members.{members}
use Rattle.sets.proofs.Laws.Members.{members-empty, members-least}
use Rattle.text.specs.Text.{decimal, marked, joined}
use Rattle.lines.specs.Lines.{names, between_members, set_text, filled, between_crews}

-- ---- members

names_next : (numbers : List ℕ) (set : ℕ) → set < 2 ^ 64 → set ≢ 0
    → names numbers set ≡ decimal (get_or numbers (count_trailing_zeros 64 set) 0) ∷ names numbers (bit_xor set (2 ^ count_trailing_zeros 64 set))
unfolding names
names_next numbers set h n = ap (map (λ row. decimal (get_or numbers row 0))) (members-least 64 set h n)

pub names-none : (numbers : List ℕ) → names numbers 0 ≡ []
unfolding names
names-none numbers = ap (map (λ row. decimal (get_or numbers row 0))) (members-empty 64)

-- the first member after its mark, then the others; nothing where there is none
pub member_next : (numbers : List ℕ) (mark set row left : ℕ) → members 0 64 set ≡ row ∷ members 0 64 left
    → marked mark between_members (names numbers set) ≡ (mark ∷ decimal (get_or numbers row 0)) ++ marked between_members between_members (names numbers left)
unfolding names marked
member_next numbers mark set row left e = ap (λ (l : List ℕ). marked mark between_members (map (λ person. decimal (get_or numbers person 0)) l)) e

pub member_last : (numbers : List ℕ) (mark set : ℕ) → members 0 64 set ≡ [] → marked mark between_members (names numbers set) ≡ []
unfolding names marked
member_last numbers mark set e = ap (λ (l : List ℕ). marked mark between_members (map (λ person. decimal (get_or numbers person 0)) l)) e

-- ---- a mark and then the joined list is the list that begins with the mark

pub mark-joined : (mark between : ℕ) (l : List (List ℕ)) → length l ≢ 0 → mark ∷ joined between l ≡ marked mark between l
unfolding marked joined
mark-joined mark between [] n = absurd (n refl)
mark-joined mark between (x ∷ l) n = refl

pub some_names : (numbers : List ℕ) (set : ℕ) → set < 2 ^ 64 → set ≢ 0 → length (names numbers set) ≢ 0
some_names numbers set h n z = let e = ap length (names_next numbers set h n) in omega arith

-- ---- crews

-- what is to be written of the crews from j on
abbrev pub crews_from : List ℕ → List ℕ → ℕ → ℕ → List ℕ
crews_from numbers crews mark j = marked mark between_crews (map (set_text numbers) (filled (drop j crews)))

filled_next : (crew : ℕ) (l : List ℕ) → crew ≢ 0 → filled (crew ∷ l) ≡ crew ∷ filled l
unfolding filled
filled_next zero l n = absurd (n refl)
filled_next (suc crew) l n = refl

filled_stop : (crew : ℕ) (l : List ℕ) → crew ≡ 0 → filled (crew ∷ l) ≡ []
unfolding filled
filled_stop crew l e = ap (λ (x : ℕ). filled (x ∷ l)) e

-- a crew after its mark, then the others
pub crew_next : (numbers crews : List ℕ) (mark j : ℕ) → j < length crews → get_or crews j 0 < 2 ^ 64 → get_or crews j 0 ≢ 0
    → crews_from numbers crews mark j ≡ marked mark between_members (names numbers (get_or crews j 0)) ++ crews_from numbers crews between_crews (suc j)
unfolding marked
crew_next numbers crews mark j l h n =
    ap (λ (s : List ℕ). marked mark between_crews (map (set_text numbers) s)) (ap filled (drop-cons crews j 0 l) ∙ filled_next (get_or crews j 0) (drop (suc j) crews) n)
    ∙ ap (λ (s : List ℕ). s ++ crews_from numbers crews between_crews (suc j))
    (mark-joined mark between_members (names numbers (get_or crews j 0)) (some_names numbers (get_or crews j 0) h n))

-- an empty one is the end, and so is the end of the list
pub crew_stop : (numbers crews : List ℕ) (mark j : ℕ) → j < length crews → get_or crews j 0 ≡ 0 → crews_from numbers crews mark j ≡ []
unfolding marked
crew_stop numbers crews mark j l e =
    ap (λ (s : List ℕ). marked mark between_crews (map (set_text numbers) s)) (ap filled (drop-cons crews j 0 l) ∙ filled_stop (get_or crews j 0) (drop (suc j) crews) e)

pub crew_last : (numbers crews : List ℕ) (mark j : ℕ) → length crews ≤ j → crews_from numbers crews mark j ≡ []
unfolding marked filled
crew_last numbers crews mark j l =
    ap (λ (s : List ℕ). marked mark between_crews (map (set_text numbers) (filled s))) (drop_of_length-le crews l)
