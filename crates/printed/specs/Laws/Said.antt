-- What a line of the sheet says of its policy: from the text to the reply, and from the reply to the meaning. Assumes nothing.
use Rattle.std.specs.Prelude.{◌≡◌, ◌↔◌, ℕ, ◌≤◌, ◌<◌, get_or, take}
use Rattle.std.proofs.Common.{sym, ◌∙◌, subst, ⊎_elim, arith}
use Rattle.std.proofs.Math.Path.{ap, ap₂}
use Rattle.std.proofs.Math.Option.{some}
use mathlib.Core.List.Memᴰ
use mathlib.Core.List.{List, map, Memᴰ}
use Rattle.std.proofs.Math.ListN.{get_elem?}
use Rattle.roster.specs.Meaning.{CrewList, Blocks, Absence, FirstBlocker}
use Rattle.roster.specs.declared.Policy.{Policy}
use Rattle.roster.specs.declared.Reply.{Reply}
use Rattle.roster.specs.declared.Verdict.{Verdict}
use Rattle.roster.specs.declared.Verdict.TheVariants.{Yes, No, Undecided}
use Rattle.crews.proofs.Laws.Exact.{Fair}
use Rattle.absences.specs.declared.Way.TheVariants.{Skipping}
use Rattle.absences.specs.Asked.{Admits, Tells}
use Rattle.absences.proofs.Laws.Decided.{admitted_fair}
use Rattle.absences.proofs.Laws.Demands.{policy_yes, policy_no}
use Rattle.book.specs.Layout.{Contents, LayoutOf}
use Rattle.book.specs.Faults.{fault_number}
use Rattle.book.specs.Promises.{Bytes, FirstFault}
use Rattle.book.specs.declared.Fault.{Fault}
use Rattle.text.specs.Text.{quoted, slash, decimal, joined}
use Rattle.text.specs.Cut.{◌␣◌, lines_of, HasLine}
use Rattle.text.specs.Laws.Every.{nth_in, every_at, map_ext}
use Rattle.lines.specs.Lines.{verdict_word, set_text, filled, sets_text}
use Rattle.lines.specs.Sheet.{allowance, numbers_in, reply_to, sheet_of}
use Rattle.printed.specs.Words.{PolicyOf, table_for, need_of, first_crews, Prints, names_of}
use Rattle.printed.specs.Laws.Lines.{never, bad_text, not_bad, bad_parted, number_parted, Worded, says_yes, says_no, says_undecided, word_parted}
use Rattle.printed.specs.Laws.Asked.{task_wide, policy_admitted, policy_reply, policy_tells}
use Rattle.printed.specs.Laws.Names.{set-names}
use Rattle.printed.specs.Laws.Shown.{Shown, allowed_shown, list_some}
use Rattle.printed.specs.Laws.Sets.{filled-take}
use Rattle.printed.specs.Laws.Sheets.{line_at, sheet_line, sheet_found, refused_lines, good_or_bad}

-- what stands behind the index: a word, the units and the sets
abbrev behind_word : List ℕ → Policy → Verdict → List ℕ
behind_word book p w = decimal (reply_to book p).units ␣ sets_text (numbers_in book) (reply_to book p) w

abbrev behind_index : List ℕ → Policy → List ℕ
behind_index book p = verdict_word (reply_to book p).verdict ␣ behind_word book p (reply_to book p).verdict

-- a line that begins with a number is that of the policy with this index, in the layout of some values
pub line_policy : (book : List ℕ) → Bytes book → (i : ℕ) (rest : List ℕ) → HasLine (sheet_of book) (decimal i ␣ rest)
    → (v : Contents) × (p : Policy) × PolicyOf book i v p
line_policy book bytes i rest m = ⊎_elim good refused (good_or_bad book bytes)
  where
    good : (v : Contents) × LayoutOf v book → (v : Contents) × (p : Policy) × PolicyOf book i v p
    good (v, l) =
        let (j, p, o, same) = sheet_found v book (decimal i ␣ rest) l m in
        (v, p, subst (λ (k : ℕ). PolicyOf book k v p) (sym (number_parted i j rest (behind_index book p) same).0) o)

    refused : (f : Fault) × (at : ℕ) × FirstFault book f at → (v : Contents) × (p : Policy) × PolicyOf book i v p
    refused (f, at, h) =
        absurd (not_bad i rest (decimal (fault_number f) ␣ decimal at) (Memᴰ.eq_of_singleton (subst (Memᴰ (decimal i ␣ rest)) (refused_lines book f at h) m)))

-- `bad n at` is printed exactly if the book's first fault has the number n, and this place
pub bad_exactly : (book : List ℕ) → Bytes book → (number place : ℕ)
    → HasLine (sheet_of book) (quoted "bad" ␣ decimal number ␣ decimal place) ↔ ((f : Fault) × (fault_number f ≡ number) × FirstFault book f place)
bad_exactly book bytes number place = (λ m. ⊎_elim (good m) (refused m) (good_or_bad book bytes), back)
  where
    good : HasLine (sheet_of book) (bad_text number place) → (v : Contents) × LayoutOf v book → (f : Fault) × (fault_number f ≡ number) × FirstFault book f place
    good m (v, l) =
        let (j, p, o, same) = sheet_found v book (bad_text number place) l m in
        absurd (not_bad j (behind_index book p) (decimal number ␣ decimal place) (sym same))

    refused : HasLine (sheet_of book) (bad_text number place) → (f : Fault) × (at : ℕ) × FirstFault book f at → (f : Fault) × (fault_number f ≡ number) × FirstFault book f place
    refused m (f, at, h) =
        let (n, p) = bad_parted number (fault_number f) place at
        (Memᴰ.eq_of_singleton (subst (Memᴰ (bad_text number place)) (refused_lines book f at h) m)) in
        (f, sym n, subst (FirstFault book f) (sym p) h)

    back : (f : Fault) × (fault_number f ≡ number) × FirstFault book f place → HasLine (sheet_of book) (bad_text number place)
    back (f, e, h) =
        subst (Memᴰ (bad_text number place)) (sym (refused_lines book f place h)) (Memᴰ.head (ap (λ (n : ℕ). bad_text n place) (sym e)))

module _ (book : List ℕ) (i : ℕ) (v : Contents) (p : Policy) (o : PolicyOf book i v p) where
  abbrev given : Reply
  given = reply_to book p

  abbrev admits : Admits (table_for v) p.task p.away p.crews p.size p.edition
  admits = policy_admitted book i v p o

  abbrev tells : Tells Skipping (table_for v) p.task p.away p.crews p.size p.edition allowance (reply_to book p)
  tells = policy_tells book i v p o

  abbrev fair : Fair (table_for v) p.task p.crews
  fair = admitted_fair (table_for v) p.task p.away p.crews p.size p.edition (task_wide book i v p o) (policy_admitted book i v p o)

  abbrev shown : Shown (table_for v).rows (reply_to book p)
  shown =
      allowed_shown Skipping (table_for v) p.task p.away p.crews p.size p.edition (task_wide book i v p o) allowance
      (policy_admitted book i v p o) (reply_to book p) (policy_reply book i v p o) (table_for v).rows (omega arith)

  -- ---- the word

  -- of a policy there is one line
  line_of : (rest : List ℕ) → HasLine (sheet_of book) (decimal i ␣ rest) → rest ≡ behind_index book p
  line_of rest m =
      let r = sheet_found v book (decimal i ␣ rest) o.layout m in
      let same = number_parted i r.0 rest (behind_index book r.1) r.3 in
      let one : some p ≡ some r.1 = sym o.policy ∙ ap (get_elem? v.policies) same.0 ∙ r.2.policy in
      let whose : r.1 ≡ p = cc in
      same.1 ∙ ap (behind_index book) whose

  -- its word is that of the verdict, and then come the units and the sets
  word_of : (w : Verdict) → Worded w → (rest : List ℕ) → HasLine (sheet_of book) (decimal i ␣ verdict_word w ␣ rest)
      → (given.verdict ≡ w) × (rest ≡ behind_word book p w)
  word_of w a rest m =
      let h = word_parted w given.verdict rest _ a shown.word (line_of (verdict_word w ␣ rest) m) in
      (sym h.0, h.1 ∙ ap (behind_word book p) (sym h.0))

  -- the word is printed exactly with the verdict
  word_printed : (w : Verdict) → Worded w → Prints book i (verdict_word w) ↔ (given.verdict ≡ w)
  word_printed w a = (λ x. (word_of w a x.0 x.1).0, λ e. (behind_word book p w, subst Line e here))
    where
      Line : Verdict → Type 0
      Line x = HasLine (sheet_of book) (decimal i ␣ verdict_word x ␣ behind_word book p x)

      here : Line given.verdict
      here = nth_in (lines_of (sheet_of book)) i (line_at book i p) (sheet_line book i v p o)

  -- "undecided, exactly if allowance < need"
  pub undecided_exactly : Prints book i (quoted "undecided") ↔ (allowance < need_of v p)
  unfolding verdict_word
  undecided_exactly =
      let said = word_printed Undecided says_undecided in
      (λ x. (tells.undecided.0 (said.0 x)).1, λ l. said.1 (tells.undecided.1 (admits, l)))

  -- else yes exactly if each absence of at most s leaves a crew list
  pub yes_exactly : Prints book i (quoted "yes")
      ↔ ((need_of v p ≤ allowance)
      × ((A : ℕ) → Absence (table_for v) p.away A → (crews : List ℕ) × CrewList (table_for v) p.task p.crews p.size p.edition A crews))
  unfolding verdict_word
  yes_exactly =
      let said = word_printed Yes says_yes in
      let exactly = policy_yes Skipping (table_for v) p.task p.away p.crews p.size p.edition (task_wide book i v p o) allowance given (policy_reply book i v p o) in
      (λ x. let h = exactly.0 (said.0 x) in (h.1, h.2), λ h. said.1 (exactly.1 (admits, h.0, h.1)))

  -- and no exactly if one of them leaves none
  pub no_exactly : Prints book i (quoted "no")
      ↔ ((need_of v p ≤ allowance) × ((A : ℕ) × Absence (table_for v) p.away A × Blocks (table_for v) p.task p.crews p.size p.edition A))
  unfolding verdict_word
  no_exactly =
      let said = word_printed No says_no in
      let exactly = policy_no Skipping (table_for v) p.task p.away p.crews p.size p.edition (task_wide book i v p o) allowance given (policy_reply book i v p o) in
      (λ x. let h = exactly.0 (said.0 x) in (h.1, h.2), λ h. said.1 (exactly.1 (admits, h.0, h.1)))

  -- ---- what stands behind the word

  -- with yes the crews that are written are the first list
  yes_filled : given.verdict ≡ Yes → filled given.crews ≡ first_crews v p
  yes_filled e =
      let list = tells.crews e in
      filled-take p.crews given.crews (omega (arith, tells.eight.many, fair.few))
      (list_some (table_for v) p.task p.crews p.size p.edition 0 fair.task given.crews list.1 tells.eight) tells.eight.past
      ∙ ap (take p.crews) list.0

  first-list : given.verdict ≡ Yes → CrewList (table_for v) p.task p.crews p.size p.edition 0 (first_crews v p)
  first-list e =
      let list = tells.crews e in
      subst (λ (l : List ℕ). CrewList (table_for v) p.task p.crews p.size p.edition 0 (take p.crews l)) list.0 list.1

  -- the units are the need, and exactly d crews stand between the slashes
  pub yes_crews : (rest : List ℕ) → HasLine (sheet_of book) (decimal i ␣ quoted "yes" ␣ rest)
      → (rest ≡ decimal (need_of v p) ␣ joined slash (map (names_of v) (first_crews v p)))
      × CrewList (table_for v) p.task p.crews p.size p.edition 0 (first_crews v p)
  unfolding verdict_word sets_text
  yes_crews rest m =
      let h = word_of Yes says_yes rest m in
      let list = first-list h.0 in
      let named = every_at (λ crew. set_text (numbers_in book) crew ≡ names_of v crew) (first_crews v p)
      (λ j l. set-names v book o.layout (get_or (first_crews v p) j 0)) in
      let crews = ap (map (set_text (numbers_in book))) (yes_filled h.0) ∙ map_ext (set_text (numbers_in book)) (names_of v) (first_crews v p) named in
      (h.1 ∙ ap₂ (λ (n : ℕ) (l : List (List ℕ)). decimal n ␣ joined slash l) (tells.units (λ c. never (cc)) admits) crews, list)

  -- with no the names are those of the first blocker
  pub no_names : (rest : List ℕ) → HasLine (sheet_of book) (decimal i ␣ quoted "no" ␣ rest)
      → (A : ℕ) × FirstBlocker (table_for v) p.task p.away p.crews p.size p.edition A × (rest ≡ decimal (need_of v p) ␣ names_of v A)
  unfolding verdict_word sets_text
  no_names rest m =
      let h = word_of No says_no rest m in
      let first = tells.blocker h.0 in
      let units = tells.units (λ c. never (cc)) admits in
      (given.blocker, first, h.1 ∙ ap₂ (λ (n : ℕ) (names : List ℕ). decimal n ␣ names) units (set-names v book o.layout given.blocker))

  -- with undecided the units are all that were allowed, and there is no set
  pub undecided_dash : (rest : List ℕ) → HasLine (sheet_of book) (decimal i ␣ quoted "undecided" ␣ rest) → rest ≡ decimal allowance ␣ quoted "-"
  unfolding verdict_word sets_text
  undecided_dash rest m =
      let h = word_of Undecided says_undecided rest m in
      h.1 ∙ ap (λ (n : ℕ). decimal n ␣ quoted "-") (tells.spent h.0)
