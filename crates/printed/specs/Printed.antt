-- What a printed sheet tells whoever holds it, and nothing else. A line begins with the index i of a policy, then comes a word. For any string of
-- bytes that the program was given: if its sheet has such a line, the string is a roster book, it has a policy i, and this holds of the persons whose
-- accounts its rows are. What crews of persons and absences that block are is said by the page accounts/specs/Meaning.antt, after
-- roster/specs/Meaning.antt, what a book is by book/specs/Layout.antt. Assumes nothing.
use Rattle.std.specs.Prelude.{◌≡◌, List, ℕ, ◌^◌, ◌≤◌, ◌<◌}
use Rattle.std.specs.Int.Count.{ones}
use Rattle.roster.specs.declared.Policy.{Policy}
use Rattle.accounts.specs.Persons.{persons}
use Rattle.accounts.specs.Meaning.{PersonCrews, PersonsBlock, FirstPersonsBlock}
use Rattle.accounts.proofs.Laws.Merged.{crews_of_persons, first_of_persons}
use Rattle.book.specs.Layout.{Contents}
use Rattle.book.specs.Promises.{Bytes, accounts_for}
use Rattle.text.specs.Text.{quoted, decimal}
use Rattle.text.specs.Cut.{◌␣◌, HasLine}
use Rattle.lines.specs.Sheet.{allowance, sheet_of}
use Rattle.printed.specs.Words.{PolicyOf, need_of, names_of}
use Rattle.printed.specs.Laws.Lines.{number_parted}
use Rattle.printed.specs.Laws.Said.{line_policy, yes_exactly, no_names, undecided_exactly}

module _ (book : List ℕ) (bytes : Bytes book) (i : ℕ) where
  -- `i yes ..`: whoever is away, as long as they are at most s, there are still d separate crews of at most t persons, and of at least as many as the
  -- policy's edition asks, each holding every permission of the task by some account of theirs, and nobody who is away is in one of them.
  pub printed_yes : (rest : List ℕ) → HasLine (sheet_of book) (decimal i ␣ quoted "yes" ␣ rest)
      → (v : Contents) × (p : Policy) × PolicyOf book i v p
      × ((A : ℕ) → A < 2 ^ persons (accounts_for v) → ones A ≤ p.away
      → (crews : List ℕ) × PersonCrews (accounts_for v) p.task p.crews p.size p.edition A crews)
  printed_yes rest line =
      let (v, p, o) = line_policy book bytes i _ line in
      let lists = ((yes_exactly book i v p o).0 (rest, line)).1 in (
        v,
        p,
        o,
        λ A wide few.
            let (crews, list) = lists A (record { rows = wide; few = few }) in
            (crews, (crews_of_persons (accounts_for v) p.task p.crews p.size p.edition A crews).0 list),
      )

  -- `i no u NAMES`: with exactly these persons away, who are at most s, there are no such crews; and they are the first such absence. NAMES are their
  -- person numbers in person order, the staff numbers of an old book, joined by commas; `-` where it takes nobody to be away.
  pub printed_no : (units : ℕ) (names : List ℕ) → HasLine (sheet_of book) (decimal i ␣ quoted "no" ␣ decimal units ␣ names)
      → (v : Contents) × (p : Policy) × PolicyOf book i v p
      × (A : ℕ) × (names ≡ names_of v A) × (A < 2 ^ persons (accounts_for v)) × (ones A ≤ p.away)
      × PersonsBlock (accounts_for v) p.task p.crews p.size p.edition A
      × FirstPersonsBlock (accounts_for v) p.task p.away p.crews p.size p.edition A
  printed_no units names line =
      let (v, p, o) = line_policy book bytes i _ line in
      let (A, blocker, said) = no_names book i v p o (decimal units ␣ names) line in
      let first = first_of_persons (accounts_for v) p.task p.away p.crews p.size p.edition A blocker in
      (v, p, o, A, (number_parted units (need_of v p) names (names_of v A) said).1, first.rows, first.is.0, first.is.1, first)

  -- `i undecided ..`: deciding it takes more than 1,000,000 units. It says neither yes nor no.
  pub printed_undecided : (rest : List ℕ) → HasLine (sheet_of book) (decimal i ␣ quoted "undecided" ␣ rest)
      → (v : Contents) × (p : Policy) × PolicyOf book i v p × (allowance < need_of v p)
  printed_undecided rest line =
      let (v, p, o) = line_policy book bytes i _ line in
      (v, p, o, (undecided_exactly book i v p o).0 (rest, line))
