-- What is asked of persons, said of their accounts: a reader who believes this page needs no word of how persons are merged (`Laws/Merged` and
-- `Laws/Accounts` of proofs/ show that the merged table says the same). Nothing here is proved: these are definitions.
use Rattle.std.specs.Prelude.{◌≡◌, ◌↔◌, ◌≢◌, List, ℕ, ◌*◌, ◌^◌, ◌≤◌, ◌<◌, length, get_or}
use Rattle.std.specs.Int.Count.{ones}
use Rattle.sets.specs.Sets.{bit, Has, Apart}
use Rattle.sets.specs.Sums.{sum_to, to_n}
use Rattle.sets.specs.Arrays.{at}
use Rattle.sets.specs.Members.{set_of, hasb}
use Rattle.roster.specs.declared.Table.{Table}
use Rattle.roster.specs.Meaning.{least_members, First}
use Rattle.accounts.specs.declared.Accounts.{Accounts}
use Rattle.accounts.specs.Persons.{leads, rows_of, person, persons, merged}

-- ---- sets of persons

-- their accounts: the rows below the count whose person is one of them
unfoldable pub accounts_of : Accounts → ℕ → ℕ
accounts_of a crew = set_of (rows_of a) (λ u. hasb crew (person a u))

-- they hold all of P together: each permission of P is held by an account of one of them
abbrev pub Together : Accounts → ℕ → ℕ → Type 0
Together a P crew = (p : ℕ) → Has P p → (u : ℕ) × (u < rows_of a) × Has crew (person a u) × Has (at a.holdings u) p

-- a crew list of persons where the persons A are away, as `CrewList` of `roster` has it of rows
pub record PersonCrews (a : Accounts) (P d t ed A : ℕ) (crews : List ℕ) : Type 0 where
  pub many : length crews ≡ d
  pub are : (j : ℕ) → j < d → get_or crews j 0 < 2 ^ persons a
  pub disjoint : (i j : ℕ) → i < d → j < d → i ≢ j → Apart (get_or crews i 0) (get_or crews j 0)
  pub present : (j : ℕ) → j < d → Apart (get_or crews j 0) A
  pub small : (j : ℕ) → j < d → ones (get_or crews j 0) ≤ t
  pub whole : (j : ℕ) → j < d → Together a P (get_or crews j 0)
  pub enough : (j : ℕ) → j < d → least_members ed ≤ ones (get_or crews j 0)

abbrev pub PersonsBlock : Accounts → (P d t ed A : ℕ) → Type 0
PersonsBlock a P d t ed A = (crews : List ℕ) → PersonCrews a P d t ed A crews → ⊥

-- no set of at most s persons blocks
abbrev pub PersonsHold : Accounts → (P s d t ed : ℕ) → Type 0
PersonsHold a P s d t ed = (A : ℕ) → A < 2 ^ persons a → ones A ≤ s → PersonsBlock a P d t ed A → ⊥

-- the first set of at most s persons that blocks: by size, and then by the ranks of persons
abbrev pub FirstPersonsBlock : Accounts → (P s d t ed : ℕ) → ℕ → Type 0
FirstPersonsBlock a P s d t ed = First (merged a) P (λ A. (ones A ≤ s) × PersonsBlock a P d t ed A)

-- ---- the same with no number for a person at all: sets of accounts

-- a set of rows that has all accounts of whoever it has one of
abbrev pub ByPerson : Accounts → ℕ → Type 0
ByPerson a set = (u v : ℕ) → v < rows_of a → at a.persons u ≡ at a.persons v → Has set u → Has set v

-- how many persons such a set has: as many as it has first rows
unfoldable pub heads_in : Accounts → ℕ → ℕ
heads_in a set = sum_to (rows_of a) (λ u. to_n (leads (at a.persons) u) * bit set u)

-- a set of accounts that may be away or a crew
pub record AccountSet (a : Accounts) (most set : ℕ) : Type 0 where
  pub rows : set < 2 ^ rows_of a
  pub by_person : ByPerson a set
  pub few : heads_in a set ≤ most

-- crews are sets of accounts, each with all accounts of whoever is in it, of at most t persons and as many as the edition requires
pub record AccountCrews (a : Accounts) (P d t ed away : ℕ) (crews : List ℕ) : Type 0 where
  pub many : length crews ≡ d
  pub small : (j : ℕ) → j < d → AccountSet a t (get_or crews j 0)
  pub disjoint : (i j : ℕ) → i < d → j < d → i ≢ j → Apart (get_or crews i 0) (get_or crews j 0)
  pub present : (j : ℕ) → j < d → Apart (get_or crews j 0) away
  pub whole : (j : ℕ) → j < d → (p : ℕ) → Has P p → (u : ℕ) × Has (get_or crews j 0) u × Has (at a.holdings u) p
  pub enough : (j : ℕ) → j < d → least_members ed ≤ heads_in a (get_or crews j 0)

abbrev pub AccountsBlock : Accounts → (P d t ed away : ℕ) → Type 0
AccountsBlock a P d t ed away = (crews : List ℕ) → AccountCrews a P d t ed away crews → ⊥

-- no accounts of at most s persons block
abbrev pub AccountsHold : Accounts → (P s d t ed : ℕ) → Type 0
AccountsHold a P s d t ed = (away : ℕ) → AccountSet a s away → AccountsBlock a P d t ed away → ⊥

-- these accounts of at most s persons block, and none of fewer persons do
pub record SmallestBlock (a : Accounts) (P s d t ed away : ℕ) : Type 0 where
  pub is : AccountSet a s away
  pub blocks : AccountsBlock a P d t ed away
  pub smallest : (other : ℕ) → AccountSet a s other → AccountsBlock a P d t ed other → heads_in a away ≤ heads_in a other

-- ---- accounts beside each other

-- the rows as a table of their own, each a person: what was asked of before there were persons
abbrev pub row_by_row : Accounts → Table
row_by_row a = record { holdings = a.holdings; rows = a.rows }

-- no two rows below the count have one person number
abbrev pub Different : Accounts → Type 0
Different a = (u v : ℕ) → u < rows_of a → v < rows_of a → at a.persons u ≡ at a.persons v → u ≡ v

-- as many rows, the same holdings, and the same rows share a person number, whatever the numbers are
pub record Alike (a b : Accounts) : Type 0 where
  pub count : a.rows ≡ b.rows
  pub hold : (u : ℕ) → u < rows_of a → at a.holdings u ≡ at b.holdings u
  pub share : (u v : ℕ) → u < rows_of a → v < rows_of a → (at a.persons u ≡ at a.persons v) ↔ (at b.persons u ≡ at b.persons v)
