-- No sheet is longer than `longest`: at most 32 lines, each of at most 726 bytes, since a line names each person at most once. Assumes nothing.
use Rattle.std.specs.Prelude.{◌≡◌, refl, Bool, ltb, get_or, take, Err, Ok, Result, Option, Some, None}
use Rattle.std.proofs.Common.{sym, ap, subst, ◌∙◌, ⊎_elim, lt_of_lt_of_le, length-take, pow_mono, get_or-take}
use mathlib.Core.List.{List, [], ◌∷◌, map}
use Rattle.std.proofs.Math.Bool.{true, false}
use Prim.Native.Nat.{ℕ, zero, suc, ◌+◌, ◌-◌, ◌*◌, ◌^◌, ◌≤◌, ◌<◌}
use native.Mathlib.Omega.{arith}
use Rattle.std.proofs.Math.Decide.{dec_lt}
use Rattle.std.specs.Int.Count.{ones}
use Rattle.std.proofs.Math.ListN.{length, length-append}
use Rattle.sets.specs.Sets.{bit, bit_le, bit-none, bit_below}
use Rattle.sets.proofs.Sets.{ones_bound, ones_pos}
use Rattle.sets.specs.Members.{members}
use Rattle.sets.proofs.Laws.Members.{length-members}
use Rattle.roster.specs.declared.Verdict.{Verdict}
use Rattle.roster.specs.declared.Verdict.TheVariants.{Yes, No, Undecided, Crews, None, Refused}
use Rattle.roster.specs.declared.Reply.{Reply}
use Rattle.roster.specs.declared.Table.{Table}
use Rattle.roster.specs.Meaning.{CrewList}
use Rattle.roster.specs.Replies.{no_crews, reply_with}
use Rattle.crews.specs.Named.{first_list}
use Rattle.sets.specs.Arrays.{tabulate}
use Rattle.sets.specs.Laws.Arrays.{at-tabulate, at-past}
use Rattle.crews.proofs.Laws.Exact.{crews-past}
use Rattle.absences.specs.Asked.{need_policy, PolicyReply}
use Rattle.absences.specs.Replied.{policy_reply_of}
use Rattle.absences.proofs.Laws.Decided.{Case, is_refused_lem, is_undecided, is_yes, is_no, admitted_fair, policy_case}
use Rattle.absences.proofs.Laws.Demands.{policy_allowed, holds-list}
use Rattle.roster.specs.Refusals.{number_of, policy_ruling, made_by}
use Rattle.roster.specs.declared.Refusal.{Refusal}
use Rattle.roster.specs.declared.Refusal.TheVariants as refusal
use Rattle.roster.specs.declared.Policy.{Policy}
use Rattle.accounts.specs.declared.Accounts.{Accounts}
use Rattle.accounts.specs.Persons.{where?, number_of as Persons·numberOf, persons, number, merged}
use Rattle.accounts.specs.Refusals.{accounts_ruling}
use Rattle.accounts.proofs.Laws.Merged.{at_numbers}
use Rattle.questions.specs.Replied.{behind, policy_answer_of}
use Rattle.book.specs.Layout.{form_has_persons}
use Rattle.book.specs.Faults.{fault_number}
use Rattle.book.specs.Promises.{Bytes}
use Rattle.book.specs.Reading.{fields_at, rows, policies_of, entry_at, form_of, starts_of, read_of, refused}
use Rattle.book.specs.Parts.{starts_in, row_place, row_from, row_by_number, row_or0, accounts_in, contents_of, policy_count_of, listed_by, policy_from, policy_place, policy_at}
use Rattle.book.specs.Laws.Codec.{number_fits}
use Rattle.book.proofs.Laws.Books.{reply, good_layout}
use Rattle.book.proofs.Laws.Books as books
use Rattle.book.proofs.Laws.Parts.{layout_parts}
use Rattle.book.proofs.Laws.Prefix.{prefix_reply}
use Rattle.book.proofs.Laws.Refused.{refused_place}
use Rattle.book.specs.declared.Fault.{Fault}
use Rattle.book.specs.declared.Fault.TheVariants.{Short, Permissions, Code, Rows, Staff, Holdings, Policies, Task, Policy as PolicyFault, Excess}
use Rattle.text.specs.Text.{decimal, marked, joined}
use Rattle.lines.specs.Lines.{verdict_word, names, between_members, set_text, filled, between_crews, crews_text, sets_text, line_of, bad_line}
use Rattle.lines.specs.Sheet.{allowance, way, numbers_in, reply_to, line_by, lines_from, sheet_by, sheet_of, longest}
use Rattle.text.proofs.Laws.Decimal.{decimal-length}
use Rattle.sets.proofs.Laws.Unions.{ones_of, Disjoint, disjoint_few}
use Rattle.book.specs.declared.Starts.{Starts}
use Rattle.book.specs.declared.FaultAt.{FaultAt}

-- ---- how long lists are written

-- the items, each with a mark
unfoldable pub total : List (List ℕ) → ℕ
total [] = 0
total (x ∷ l) = 1 + length x + total l

pub marked-length : (mark between : ℕ) (l : List (List ℕ)) → length (marked mark between l) ≡ total l
unfolding marked total
marked-length mark between [] = refl
marked-length mark between (x ∷ l) =
    omega (arith, length-append x (marked between between l), marked-length between between l)

-- a joined list lacks the first mark; an empty one is a dash
joined_length : (between most : ℕ) (l : List (List ℕ)) → total l ≤ suc most → 1 ≤ most → length (joined between l) ≤ most
unfolding joined total
joined_length between most [] h p = p
joined_length between most (x ∷ l) h p = omega (arith, length-append x (marked between between l), marked-length between between l)

-- ---- members and crews, where every number has 32 bits

module _ (numbers : List ℕ) (fits : (row : ℕ) → get_or numbers row 0 < 2 ^ 32) where
  named : (l : List ℕ) → total (map (λ row. decimal (get_or numbers row 0)) l) ≤ 11 * length l
  unfolding total
  named [] = omega arith
  named (row ∷ l) = omega (arith, named l, decimal-length 9 (get_or numbers row 0) (omega (arith, fits row)))

  names-total : (set : ℕ) → set < 2 ^ 64 → total (names numbers set) ≤ 11 * ones set
  unfolding names
  names-total set h = omega (arith, named (members 0 64 set), length-members 64 set h)

  few : (set : ℕ) → set < 2 ^ 64 → ones set ≤ 64
  few set h = ones_bound set 64 (λ i b. bit_below set 64 i h b)

  set-length : (set : ℕ) → set < 2 ^ 64 → length (set_text numbers set) ≤ 704
  set-length set h = joined_length between_members 704 (names numbers set) (omega (arith, names-total set h, few set h)) (omega arith)

  -- a crew after its mark
  crew-length : (crew : ℕ) → suc crew < 2 ^ 64 → 1 + length (set_text numbers (suc crew)) ≤ 11 * ones (suc crew)
  crew-length crew h =
      let n = ones_pos (suc crew) (omega arith) in
      let t = names-total (suc crew) h in
      omega (arith, joined_length between_members (11 * (ones (suc crew) - 1) + 10) (names numbers (suc crew)) (omega arith) (omega arith))

  crews-total : (crews : List ℕ) → ((j : ℕ) → get_or crews j 0 < 2 ^ 64) → total (map (set_text numbers) (filled crews)) ≤ 11 * ones_of crews
  unfolding total filled ones_of
  crews-total [] h = omega arith
  crews-total (zero ∷ l) h = omega arith
  crews-total (suc crew ∷ l) h = omega (arith, crew-length crew (h 0), crews-total l (λ j. h (suc j)))

  crews-length : (crews : List ℕ) → Disjoint crews → ((j : ℕ) → get_or crews j 0 < 2 ^ 64) → length (crews_text numbers crews) ≤ 704
  crews-length crews d h =
      joined_length between_crews 704 (map (set_text numbers) (filled crews)) (omega (arith, crews-total crews h, disjoint_few 64 crews d h)) (omega arith)

-- ---- a line

words : (v : Verdict) → length (verdict_word v) ≤ 9
unfolding verdict_word
words Yes = omega arith
words No = omega arith
words Undecided = omega arith
words Crews = omega arith
words None = omega arith
words (Refused refusal) = omega arith

line-length : (numbers : List ℕ) (index : ℕ) (reply : Reply) → index < 100 → reply.units < 10 ^ 7
    → length (sets_text numbers reply reply.verdict) ≤ 704 → length (line_of numbers index reply) ≤ 726
unfolding line_of joined marked
line-length numbers index reply i u s =
    simp length-append
    (omega (arith, decimal-length 1 index i, words reply.verdict, decimal-length 6 reply.units u))

-- ---- the line of a policy's reply

-- the crews of a list and the empty ones behind it
module _ (table : Table) (P d t ed A : ℕ) (rows : table.rows ≤ 64) (list : CrewList table P d t ed A (take d (first_list table P d t ed A))) where
  crews_disjoint : Disjoint (first_list table P d t ed A)
  crews_disjoint i j n u = go (dec_lt i d) (dec_lt j d)
    where
      l : List ℕ
      l = first_list table P d t ed A

      go : Dec (i < d) → Dec (j < d) → bit (get_or l i 0) u + bit (get_or l j 0) u ≤ 1
      go (yes a) (yes b) =
          omega (arith, list.disjoint i j a b n u, ap (λ (m : ℕ). bit m u) (get_or-take d l i 0 a), ap (λ (m : ℕ). bit m u) (get_or-take d l j 0 b))
      go (no a) b = omega (arith, ap (λ (m : ℕ). bit m u) (crews-past table P d t ed A i (omega arith)), bit-none u, bit_le (get_or l j 0) u)
      go (yes a) (no b) = omega (arith, ap (λ (m : ℕ). bit m u) (crews-past table P d t ed A j (omega arith)), bit-none u, bit_le (get_or l i 0) u)

  crews_wide : (j : ℕ) → get_or (first_list table P d t ed A) j 0 < 2 ^ 64
  crews_wide j = go (dec_lt j d)
    where
      l : List ℕ
      l = first_list table P d t ed A

      go : Dec (j < d) → get_or l j 0 < 2 ^ 64
      go (yes a) = omega (arith, lt_of_lt_of_le (list.rows j a) (pow_mono rows), get_or-take d l j 0 a)
      go (no a) = omega (arith, crews-past table P d t ed A j (omega arith))

module _ (numbers : List ℕ) (fits : (row : ℕ) → get_or numbers row 0 < 2 ^ 32) (index : ℕ) (early : index < 100) where
  reply_line : (table : Table) (P s d t ed : ℕ) → P < 2 ^ 32 → length (line_of numbers index (policy_reply_of way table P s d t ed allowance)) ≤ 726
  unfolding sets_text
  reply_line table P s d t ed wide = go (policy_case (need_policy way table P s d t ed) table P s d t ed wide allowance)
    where
      r : Reply
      r = policy_reply_of way table P s d t ed allowance

      may : PolicyReply way table P s d t ed allowance r
      may = policy_allowed way table P s d t ed wide allowance

      by : {q : Reply} → r ≡ q → q.units ≤ allowance → length (sets_text numbers q q.verdict) ≤ 704 → length (line_of numbers index r) ≤ 726
      by {q} e u l = subst (λ (x : Reply). length (line_of numbers index x) ≤ 726) (sym e) (line-length numbers index q early (omega arith) l)

      go : Case (need_policy way table P s d t ed) table P s d t ed allowance → length (line_of numbers index r) ≤ 726
      go (is_refused_lem refusal e) = by (may.refused refusal e) (omega arith) (omega arith)
      go (is_undecided e l) = by (may.undecided e l) (omega arith) (omega arith)
      go (is_yes e l h) =
          let fair = admitted_fair table P s d t ed wide e in
          let list = holds-list table P s d t ed fair h in
          by (may.yes e l h) l
          (crews-length numbers fits (first_list table P d t ed 0) (crews_disjoint table P d t ed 0 fair.rows list) (crews_wide table P d t ed 0 fair.rows list))
      go (is_no e l A f) =
          by (may.no e l A f) l
          (set-length numbers fits A (lt_of_lt_of_le f.rows (pow_mono (admitted_fair table P s d t ed wide e).rows)))

  -- and over accounts
  answer-line : (a : Accounts) (P s d t ed : ℕ) → P < 2 ^ 32 → length (line_of numbers index (policy_answer_of way a P s d t ed allowance)) ≤ 726
  unfolding sets_text
  answer-line a P s d t ed wide = go (accounts_ruling a)
    where
      go : (first : Result Unit Refusal) → length (line_of numbers index (behind first (policy_reply_of way (merged a) P s d t ed allowance))) ≤ 726
      go (Ok tt) = reply_line (merged a) P s d t ed wide
      go (Err refusal) = line-length numbers index (reply_with no_crews 0 0 0 (Refused refusal)) early (omega arith) (omega arith)

-- ---- the lines of a book

-- a person's number is that of one of his rows, or 0
number-fits_32 : (a : Accounts) → ((row : ℕ) → get_or a.persons row 0 < 2 ^ 32) → (i : ℕ) → number a i < 2 ^ 32
unfolding Persons·numberOf
number-fits_32 a h i = go (ltb i (persons a)) (h _)
  where
    go : (there : Bool) {x : ℕ} → x < 2 ^ 32 → where? there x < 2 ^ 32
    go true h = h
    go false h = omega arith

module _ (book : List ℕ) (bytes : Bytes book) where
  person-fits : (at : Option ℕ) → (row_or0 (row_from book at)).person < 2 ^ 32
  unfolding fields_at
  person-fits (Some a) = go (form_has_persons (form_of book))
    where
      go : (persons : Bool) → (entry_at (rows persons) book a).person < 2 ^ 32
      go false = number_fits 4 book a bytes
      go true = number_fits 4 book (a + 4) bytes
  person-fits None = omega arith

  persons-fit : (row : ℕ) → get_or (accounts_in book).persons row 0 < 2 ^ 32
  unfolding accounts_in
  persons-fit row = go (dec_lt row 64)
    where
      person : ℕ → ℕ
      person u = (row_or0 (row_by_number book u)).person

      go : Dec (row < 64) → get_or (tabulate 64 person) row 0 < 2 ^ 32
      go (yes l) = omega (arith, at-tabulate 64 person row l, person-fits (row_place book (starts_in book) row))
      go (no n) = omega (arith, at-past 64 person row (omega arith))

  -- a number that is printed is the person number of some row
  numbers_fit : (i : ℕ) → get_or (numbers_in book) i 0 < 2 ^ 32
  unfolding numbers_in
  numbers_fit i = omega (arith, at_numbers (accounts_in book) i, number-fits_32 (accounts_in book) persons-fit i)

  line-fits : (index : ℕ) → index < 100 → length (line_by book index (policy_at book index)) ≤ 726
  unfolding policy_at line_by reply_to fields_at
  line-fits index early = at (policy_place book (starts_in book).policies index)
    where
      made : (p : Policy) → p.task < 2 ^ 32 → (r : Result Unit Refusal) → length (line_by book index (listed_by (made_by r p))) ≤ 726
      made p wide (Ok tt) = answer-line (numbers_in book) numbers_fit index early (accounts_in book) p.task p.away p.crews p.size p.edition wide
      made p wide (Err refusal) = omega arith

      at : (place : Option ℕ) → length (line_by book index (policy_from book place)) ≤ 726
      at (Some a) =
          let p = entry_at (policies_of (form_of book)) book a in
          made p (number_fits 4 book a bytes) (policy_ruling 0 p.task p.away p.crews p.size p.edition)
      at None = omega arith

  lines_fit : (n index : ℕ) → index + n ≤ 100 → length (lines_from book index n) ≤ 726 * n
  unfolding lines_from
  lines_fit zero index h = omega arith
  lines_fit (suc n) index h =
      omega (
        arith,
        length-append (line_by book index (policy_at book index)) (lines_from book (suc index) n),
        line-fits index (omega arith),
        lines_fit n (suc index) (omega arith),
      )

-- ---- the line of a refused book: its first 1,093 bytes decide, and its place is none past them

place_early : (book : List ℕ) (f : Fault) (at : ℕ) → read_of book ≡ refused f at → at < 10000
place_early book f at e =
    omega (arith, refused_place (take 1093 book) f at (sym (prefix_reply book) ∙ e), length-take 1093 book)

refusal_few : (r : Refusal) → number_of r < 100
refusal_few refusal.Rows = omega arith
refusal_few refusal.Task = omega arith
refusal_few refusal.Away = omega arith
refusal_few refusal.Crews = omega arith
refusal_few refusal.Size = omega arith
refusal_few refusal.Absence = omega arith
refusal_few refusal.Edition = omega arith

fault_few : (f : Fault) → fault_number f < 100
fault_few Short = omega arith
fault_few Permissions = omega arith
fault_few Code = omega arith
fault_few Rows = omega arith
fault_few Staff = omega arith
fault_few Holdings = omega arith
fault_few Policies = omega arith
fault_few Task = omega arith
fault_few (PolicyFault refusal) = refusal_few refusal
fault_few Excess = omega arith

-- it has at most 12 bytes
pub bad_short : (book : List ℕ) (f : Fault) (at : ℕ) → read_of book ≡ refused f at → length (bad_line (fault_number f) at) ≤ 12
unfolding bad_line joined marked
bad_short book f at e =
    simp length-append (omega (arith, decimal-length 1 (fault_number f) (fault_few f), decimal-length 3 at (place_early book f at e)))

-- no sheet of a byte string is longer
pub sheet_fits : (book : List ℕ) → Bytes book → length (sheet_of book) ≤ longest
unfolding sheet_of sheet_by
sheet_fits book bytes = ⊎_elim good refused (reply book)
  where
    good : books.Good book → length (sheet_of book) ≤ longest
    good g =
        let l = good_layout book (starts_of (form_of book) book) bytes g.reply in
        let e : policy_count_of book ≡ length (contents_of book).policies = (layout_parts (contents_of book) book l).policies in
        let many : policy_count_of book ≤ 32 = omega (arith, l.admitted.policies) in
        omega (arith, lines_fit book bytes (policy_count_of book) 0 (omega arith), ap (λ (r : Result Starts FaultAt). length (sheet_by book r)) g.reply)

    refused : books.Refused book → length (sheet_of book) ≤ longest
    refused r =
        omega (arith, bad_short book r.fault r.place r.reply, ap (λ (q : Result Starts FaultAt). length (sheet_by book q)) r.reply)
