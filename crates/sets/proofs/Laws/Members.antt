-- `members 0 w m`, the members of m as an ascending list: what it holds, how a loop that takes out the least member walks it, and its filters.
-- Each law is proved for `members k w m`, where digit 0 stands for k, by one digit at a time. Assumes nothing.
use Rattle.std.specs.Prelude.{◌≡◌, refl, Bool, true, false, ◌⊎◌, ◌≢◌, ℕ, zero, suc, ◌+◌, ◌-◌, ◌/◌, ◌%◌, ◌^◌, ◌≤◌, ◌<◌, min, length}
use Rattle.std.proofs.Common.{sym, ap, ap₂, ◌∙◌, subst, inl, inr, ⊎_elim, add-zero, arith}
use mathlib.Core.List.Memᴰ
use mathlib.Core.List.{List, [], ◌∷◌, Memᴰ}
use Rattle.std.specs.Int.Bits.{bit_and, bit_xor, xor_add_and, xor_zero_r, and_step}
use Rattle.std.specs.Int.Count.{ones, ones_in, count_trailing_zeros, under}
use Rattle.sets.specs.Mask.{bit, Has}
use Rattle.sets.specs.Laws.Digits.{bit_le, bit-zero, bit-suc, bit-and, bit-xor, bit-full}
use Rattle.sets.proofs.Laws.Sizes.{ones-width}
use Rattle.sets.specs.Sums.{to_n}
use Rattle.sets.specs.Members.{cons?, members, filter, hasb, set_of}
pub use Rattle.sets.specs.Members.{Ascends}
use Rattle.sets.specs.Laws.Sums.{either, to_n-true, to_n-false}
use Rattle.sets.specs.Laws.Tests.{to_n-hasb}
use Rattle.sets.proofs.Laws.Build.{set_of-bit}

-- ---- one digit

cons?_in : (b x a : ℕ) (l : List ℕ) → Memᴰ a (cons? b x l) → ((a ≡ x) × (0 < b)) ⊎ Memᴰ a l
unfolding cons?
cons?_in zero x a l m = inr m
cons?_in (suc b) x a l m = ⊎_elim (λ e. inl (e, omega arith)) (λ t. inr t) (Memᴰ.cases_cons m)

cons?_rest : (b x a : ℕ) (l : List ℕ) → Memᴰ a l → Memᴰ a (cons? b x l)
unfolding cons?
cons?_rest zero x a l m = m
cons?_rest (suc b) x a l m = Memᴰ.tail m

cons?_here : (b x a : ℕ) (l : List ℕ) → 0 < b → a ≡ x → Memᴰ a (cons? b x l)
unfolding cons?
cons?_here zero x a l h e = absurd (omega arith)
cons?_here (suc b) x a l h e = Memᴰ.head e

-- ---- what the list holds

members-none : (k w : ℕ) → members k w 0 ≡ []
unfolding members cons?
members-none k zero = refl
members-none k (suc w) = members-none (suc k) w

pub members-empty : (w : ℕ) → members 0 w 0 ≡ []
members-empty w = members-none 0 w

-- x = k + i for a digit i that is set
holds : (k w m x : ℕ) → Memᴰ x (members k w m) → (i : ℕ) × (i < w) × (x ≡ k + i) × (bit m i ≡ 1)
unfolding members
holds k zero m x h = absurd (Memᴰ.not-nil h)
holds k (suc w) m x h =
    ⊎_elim
    (λ p. (0, omega arith, omega (arith, p.0), omega (arith, p.1, bit-zero m, bit_le m 0)))
    (λ t. let r = holds (suc k) w (m / 2) x t in (suc r.0, omega (arith, r.1), omega (arith, r.2), bit-suc m r.0 ∙ r.3))
    (cons?_in (m % 2) k x (members (suc k) w (m / 2)) h)

held : (k w m i : ℕ) → i < w → Has m i → Memᴰ (k + i) (members k w m)
unfolding members
held k zero m i l e = absurd (omega arith)
held k (suc w) m zero l e = cons?_here (m % 2) k (k + 0) (members (suc k) w (m / 2)) (omega (arith, bit-zero m)) (omega arith)
held k (suc w) m (suc i) l e =
    cons?_rest (m % 2) k (k + suc i) (members (suc k) w (m / 2))
    (subst (λ (x : ℕ). Memᴰ x (members (suc k) w (m / 2))) (omega arith) (held (suc k) w (m / 2) i (omega arith) (sym (bit-suc m i) ∙ e)))

pub has_of_mem : (w m i : ℕ) → Memᴰ i (members 0 w m) → (i < w) × Has m i
has_of_mem w m i h =
    let r = holds 0 w m i h in
    let e : r.0 ≡ i = omega (arith, r.2) in
    (omega (arith, r.1), ap (bit m) (sym e) ∙ r.3)

pub mem_of_has : (w m i : ℕ) → i < w → Has m i → Memᴰ i (members 0 w m)
mem_of_has w m i l e = subst (λ (x : ℕ). Memᴰ x (members 0 w m)) (omega arith) (held 0 w m i l e)

-- the list depends on the digits below w only
pub members_ext : (k w a b : ℕ) → ((i : ℕ) → i < w → bit a i ≡ bit b i) → members k w a ≡ members k w b
unfolding members
members_ext k zero a b h = refl
members_ext k (suc w) a b h =
    ap₂ (λ (d : ℕ) (l : List ℕ). cons? d k l) (sym (bit-zero a) ∙ h 0 (omega arith) ∙ bit-zero b)
    (members_ext (suc k) w (a / 2) (b / 2) (λ i l. sym (bit-suc a i) ∙ h (suc i) (omega arith) ∙ bit-suc b i))

-- ---- in what order

ascends_down : (j k : ℕ) (l : List ℕ) → j ≤ k → Ascends k l → Ascends j l
ascends_down j k [] h a = tt
ascends_down j k (x ∷ l) h a = (omega (arith, a.0), a.1)

ascends_cons? : (b k : ℕ) (l : List ℕ) → Ascends (suc k) l → Ascends k (cons? b k l)
unfolding cons?
ascends_cons? zero k l a = ascends_down k (suc k) l (omega arith) a
ascends_cons? (suc b) k l a = (omega arith, a)

pub members_ascend : (k w m : ℕ) → Ascends k (members k w m)
unfolding members
members_ascend k zero m = tt
members_ascend k (suc w) m = ascends_cons? (m % 2) k (members (suc k) w (m / 2)) (members_ascend (suc k) w (m / 2))

-- as many as the set has
length-cons? : (b k : ℕ) (l : List ℕ) → b ≤ 1 → length (cons? b k l) ≡ b + length l
unfolding cons?
length-cons? zero k l h = omega arith
length-cons? (suc b) k l h = omega arith

members-length : (k w m : ℕ) → length (members k w m) ≡ ones_in w m
unfolding members ones_in
members-length k zero m = refl
members-length k (suc w) m = length-cons? (m % 2) k (members (suc k) w (m / 2)) (omega arith) ∙ ap (λ (x : ℕ). m % 2 + x) (members-length (suc k) w (m / 2))

pub length-members : (w m : ℕ) → m < 2 ^ w → length (members 0 w m) ≡ ones m
length-members w m h = members-length 0 w m ∙ ones-width w m h

-- ---- the walk by trailing zeros: the least member, then the rest

xor_half : (a b : ℕ) → bit_xor a b / 2 ≡ bit_xor (a / 2) (b / 2)
xor_half a b = omega (arith, xor_add_and a b, xor_add_and (a / 2) (b / 2), and_step a b)

xor_low : (a b : ℕ) → bit_xor a b % 2 ≡ (a % 2 + b % 2) % 2
xor_low a b = sym (bit-zero (bit_xor a b)) ∙ bit-xor a b 0 ∙ omega (arith, bit-zero a, bit-zero b)

walk : (k w m : ℕ) → m < 2 ^ w → m ≢ 0 → members k w m ≡ (k + count_trailing_zeros w m) ∷ members k w (bit_xor m (2 ^ count_trailing_zeros w m))
unfolding members count_trailing_zeros cons?
walk k zero m h n = absurd (n (omega arith))
walk k (suc w) m h n = go (m % 2) refl (walk (suc k) w (m / 2) (omega arith))
  where
    go : (d : ℕ) → m % 2 ≡ d
        → (m / 2 ≢ 0 → members (suc k) w (m / 2) ≡ (suc k + count_trailing_zeros w (m / 2)) ∷ members (suc k) w (bit_xor (m / 2) (2 ^ count_trailing_zeros w (m / 2))))
        → cons? d k (members (suc k) w (m / 2)) ≡ (k + under d (count_trailing_zeros w (m / 2))) ∷ members k (suc w) (bit_xor m (2 ^ under d (count_trailing_zeros w (m / 2))))
    go zero e ih =
        let t = count_trailing_zeros w (m / 2) in
        let low : 0 ≡ bit_xor m (2 ^ suc t) % 2 = sym (xor_low m (2 ^ suc t) ∙ omega arith) in
        let half : 2 ^ suc t / 2 ≡ 2 ^ t = omega arith in
        let rest : bit_xor (m / 2) (2 ^ t) ≡ bit_xor m (2 ^ suc t) / 2 = sym (xor_half m (2 ^ suc t) ∙ ap (bit_xor (m / 2)) half) in
        let first : suc k + t ≡ k + suc t = omega arith in
        ih (λ z. n (omega arith))
        ∙ ap₂ (λ (x : ℕ) (l : List ℕ). x ∷ l) first (ap₂ (λ (b x : ℕ). cons? b k (members (suc k) w x)) low rest)
    go (suc d) e ih =
        let low : 0 ≡ bit_xor m 1 % 2 = sym (xor_low m 1 ∙ omega arith) in
        let rest : m / 2 ≡ bit_xor m 1 / 2 = sym (xor_half m 1 ∙ xor_zero_r (m / 2)) in
        ap₂ (λ (x : ℕ) (l : List ℕ). x ∷ l) (sym (add-zero k)) (ap₂ (λ (b x : ℕ). cons? b k (members (suc k) w x)) low rest)

pub members-least : (w m : ℕ) → m < 2 ^ w → m ≢ 0 → members 0 w m ≡ count_trailing_zeros w m ∷ members 0 w (bit_xor m (2 ^ count_trailing_zeros w m))
members-least w m h n = walk 0 w m h n ∙ ap (λ (x : ℕ). x ∷ members 0 w (bit_xor m (2 ^ count_trailing_zeros w m))) (omega arith)

-- the first of the list is a member
pub members-first : (w m x : ℕ) (l : List ℕ) → members 0 w m ≡ x ∷ l → (x < w) × Has m x
members-first w m x l e = has_of_mem w m x (subst (λ (k : List ℕ). Memᴰ x k) (sym e) (Memᴰ.head refl))

-- ---- filters

pub filter_all : (l : List ℕ) → filter (λ x. true) l ≡ l
unfolding filter
filter_all [] = refl
filter_all (x ∷ l) = ap (λ (s : List ℕ). x ∷ s) (filter_all l)

pub filter_yes : (test : ℕ → Bool) (x : ℕ) (l : List ℕ) → test x ≡ true → filter test (x ∷ l) ≡ x ∷ filter test l
unfolding filter
filter_yes test x l e = rw (e, filter)

pub filter_no : (test : ℕ → Bool) (x : ℕ) (l : List ℕ) → test x ≡ false → filter test (x ∷ l) ≡ filter test l
unfolding filter
filter_no test x l e = rw (e, filter)

pub filter_ext : (f g : ℕ → Bool) (l : List ℕ) → ((x : ℕ) → Memᴰ x l → f x ≡ g x) → filter f l ≡ filter g l
unfolding filter
filter_ext f g [] h = refl
filter_ext f g (x ∷ l) h = go (either (g x)) (filter_ext f g l (λ y m. h y (Memᴰ.tail m)))
  where
    same : f x ≡ g x
    same = h x (Memᴰ.head refl)

    go : (g x ≡ true) ⊎ (g x ≡ false) → filter f l ≡ filter g l → filter f (x ∷ l) ≡ filter g (x ∷ l)
    go (inl y) e = filter_yes f x l (same ∙ y) ∙ ap (λ (s : List ℕ). x ∷ s) e ∙ sym (filter_yes g x l y)
    go (inr n) e = filter_no f x l (same ∙ n) ∙ e ∙ sym (filter_no g x l n)

filter-cons? : (test : ℕ → Bool) (d e x : ℕ) (l s : List ℕ) → e ≡ min (to_n (test x)) d → d ≤ 1 → filter test l ≡ s
    → filter test (cons? d x l) ≡ cons? e x s
unfolding cons?
filter-cons? test zero e x l s h b f = let z : 0 ≡ e = omega arith in f ∙ ap (λ (y : ℕ). cons? y x s) z
filter-cons? test (suc d) e x l s h b f = go (either (test x))
  where
    go : (test x ≡ true) ⊎ (test x ≡ false) → filter test (x ∷ l) ≡ cons? e x s
    go (inl y) =
        let o : 1 ≡ e = omega (arith, to_n-true (test x) y) in
        filter_yes test x l y ∙ ap (λ (t : List ℕ). x ∷ t) f ∙ ap (λ (n : ℕ). cons? n x s) o
    go (inr n) =
        let z : 0 ≡ e = omega (arith, to_n-false (test x) n) in
        filter_no test x l n ∙ f ∙ ap (λ (n : ℕ). cons? n x s) z

-- m has the digits of b that pass the test
filter_digits : (test : ℕ → Bool) (k w b m : ℕ) → ((i : ℕ) → i < w → bit m i ≡ min (to_n (test (k + i))) (bit b i))
    → filter test (members k w b) ≡ members k w m
unfolding members filter
filter_digits test k zero b m h = refl
filter_digits test k (suc w) b m h =
    filter-cons? test (b % 2) (m % 2) k (members (suc k) w (b / 2)) (members (suc k) w (m / 2))
    (let e : k + 0 ≡ k = add-zero k in omega (arith, h 0 (omega arith), bit-zero m, bit-zero b, ap (λ (x : ℕ). to_n (test x)) e)) (omega arith)
    (filter_digits test (suc k) w (b / 2) (m / 2)
    (λ i l.
    let e : k + suc i ≡ suc k + i = omega arith in
    sym (bit-suc m i) ∙ h (suc i) (omega arith) ∙ ap₂ min (ap (λ (x : ℕ). to_n (test x)) e) (bit-suc b i)))

pub filter-and : (w a b : ℕ) → filter (hasb a) (members 0 w b) ≡ members 0 w (bit_and a b)
filter-and w a b =
    filter_digits (hasb a) 0 w b (bit_and a b)
    (λ i l. let e : 0 + i ≡ i = omega arith in bit-and a b i ∙ ap (λ (x : ℕ). min x (bit b i)) (sym (to_n-hasb a i) ∙ ap (λ (x : ℕ). to_n (hasb a x)) (sym e)))

pub filter-members : (test : ℕ → Bool) (w b : ℕ) → filter test (members 0 w b) ≡ members 0 w (bit_and (set_of w test) b)
filter-members test w b =
    filter_digits test 0 w b (bit_and (set_of w test) b)
    (λ i l.
    let e : 0 + i ≡ i = omega arith in
    bit-and (set_of w test) b i ∙ ap (λ (x : ℕ). min x (bit b i)) (set_of-bit w test i l ∙ ap (λ (x : ℕ). to_n (test x)) (sym e)))

-- the numbers below w that pass the test
pub filter-below : (test : ℕ → Bool) (w : ℕ) → filter test (members 0 w (2 ^ w - 1)) ≡ members 0 w (set_of w test)
filter-below test w =
    filter-members test w (2 ^ w - 1)
    ∙ members_ext 0 w (bit_and (set_of w test) (2 ^ w - 1)) (set_of w test)
    (λ i l. omega (arith, bit-and (set_of w test) (2 ^ w - 1) i, bit-full w i l, bit_le (set_of w test) i))
