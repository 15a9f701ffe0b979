-- 01, "What crews and blockers are", in its words and its order. There is no search here: a reader who believes this page knows what a "yes"
-- and a "no" are worth. Nothing here is proved: these are definitions.
use Rattle.std.specs.Prelude.{◌≡◌, ◌⊎◌, ◌≢◌, Bool, true, false, not, ◌&&◌, ◌||◌, List, ℕ, ◌^◌, ◌≤◌, ◌<◌, eqb, ltb, length, get_or}
use Rattle.std.specs.Int.Bits.{bit_and}
use Rattle.std.specs.Int.Count.{ones}
use Rattle.sets.specs.Sets.{bit, Has, Sub, subb, Apart}
use Rattle.sets.specs.Sums.{sum_to, to_n}
use Rattle.roster.specs.declared.Table.{Table}

-- "Holdings outside P play no part": what counts of row u's holdings
abbrev pub held : Table → ℕ → ℕ → ℕ
held table P u = bit_and (get_or table.holdings u 0) P

-- "together holding all of P": each permission of P is held by some row of the crew
abbrev pub Covers : Table → ℕ → ℕ → Type 0
Covers table P crew = (p : ℕ) → Has P p → (u : ℕ) × Has crew u × Has (held table P u) p

-- How many members a crew has at least: "the firm's restore rule, second edition, requires two members in each crew". The first asks for none;
-- `ed` is the edition here and below.
unfoldable pub least_members : ℕ → ℕ
least_members ed = elim (eqb ed 2) [ true ↦ 2 | false ↦ 0 ]

-- "A crew list for absence A is d sets of rows, pairwise disjoint, none meeting A, each of at most t rows, each together holding all of P", and
-- each of as many rows as the edition requires.
pub record CrewList (table : Table) (P d t ed A : ℕ) (crews : List ℕ) : Type 0 where
  pub many : length crews ≡ d
  pub rows : (j : ℕ) → j < d → get_or crews j 0 < 2 ^ table.rows
  pub disjoint : (i j : ℕ) → i < d → j < d → i ≢ j → Apart (get_or crews i 0) (get_or crews j 0)
  pub present : (j : ℕ) → j < d → Apart (get_or crews j 0) A
  pub small : (j : ℕ) → j < d → ones (get_or crews j 0) ≤ t
  pub whole : (j : ℕ) → j < d → Covers table P (get_or crews j 0)
  pub enough : (j : ℕ) → j < d → least_members ed ≤ ones (get_or crews j 0)

-- "A blocks if no crew list for A exists."
abbrev pub Blocks : Table → ℕ → ℕ → ℕ → ℕ → ℕ → Type 0
Blocks table P d t ed A = (crews : List ℕ) → CrewList table P d t ed A crews → ⊥

-- a set of at most s rows
pub record Absence (table : Table) (s A : ℕ) : Type 0 where
  pub rows : A < 2 ^ table.rows
  pub few : ones A ≤ s

-- "The policy holds if no A of at most s rows blocks."
abbrev pub Holds : Table → ℕ → ℕ → ℕ → ℕ → ℕ → Type 0
Holds table P s d t ed = (A : ℕ) → Absence table s A → Blocks table P d t ed A → ⊥

-- "Row u outweighs row v if u's holdings within P include all of v's and either they are strictly more or they are equal and u < v."
abbrev pub Outweighs : Table → ℕ → ℕ → ℕ → Type 0
Outweighs table P u v =
    Sub (held table P v) (held table P u) × ((held table P u ≢ held table P v) ⊎ ((held table P u ≡ held table P v) × (u < v)))

-- the same as a mask test: what v holds within P and u holds too is all that v holds; and they differ, or u comes first
unfoldable pub outweighsb : Table → ℕ → ℕ → ℕ → Bool
outweighsb table P u v =
    subb (held table P v) (held table P u) && (not (eqb (held table P u) (held table P v)) || ltb u v)

-- "Rank orders rows by number of permissions within P, most first, then by row number, lowest first."
abbrev pub Ahead : Table → ℕ → ℕ → ℕ → Type 0
Ahead table P u v =
    (ones (held table P v) < ones (held table P u)) ⊎ ((ones (held table P u) ≡ ones (held table P v)) × (u < v))

-- the same as a test
unfoldable pub ahead : Table → ℕ → ℕ → ℕ → Bool
ahead table P u v =
    ltb (ones (held table P v)) (ones (held table P u))
    || (eqb (ones (held table P u)) (ones (held table P v)) && ltb u v)

-- v's rank: how many rows of the table are ahead of it
unfoldable pub rank : Table → ℕ → ℕ → ℕ
rank table P v = sum_to table.rows (λ u. to_n (ahead table P u v))

-- Of two sets of one size, A's list of ranks in ascending order, compared from the front, comes before B's: the lowest rank that just one
-- of them has is A's. (`lex_iff_ranks` shows that this is the order of those lists.)
abbrev pub Lex : (ℕ → ℕ) → ℕ → ℕ → Type 0
Lex rk A B = (x : ℕ) × (bit A x ≡ 1) × (bit B x ≡ 0) × ((y : ℕ) → rk y < rk x → bit A y ≡ bit B y)

-- "Order of absences. By size, ...; within a size, by the list of ranks in ascending order, compared from the front."
abbrev pub Earlier : Table → ℕ → ℕ → ℕ → Type 0
Earlier table P A B = (ones A < ones B) ⊎ ((ones A ≡ ones B) × Lex (rank table P) A B)

-- "An absence is *worth trying* if it contains every row that outweighs one of its members."
abbrev pub Worth : Table → ℕ → ℕ → Type 0
Worth table P A = (u v : ℕ) → u < table.rows → Has A v → Outweighs table P u v → Has A u

-- A is the first set of rows, in the order of absences, of those that are Q
pub record First (table : Table) (P : ℕ) (Q : ℕ → Type 0) (A : ℕ) : Type 0 where
  pub rows : A < 2 ^ table.rows
  pub is : Q A
  pub first : (B : ℕ) → B < 2 ^ table.rows → Q B → Earlier table P B A → ⊥

-- "the first blocking absence": the first of those of at most s rows that block
abbrev pub FirstBlocker : Table → ℕ → ℕ → ℕ → ℕ → ℕ → ℕ → Type 0
FirstBlocker table P s d t ed = First table P (λ A. (ones A ≤ s) × Blocks table P d t ed A)
