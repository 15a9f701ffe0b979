-- The sheet of an old book moves in nothing: each line is that of the reply over the table of its rows, with the staff numbers by row, as it was
-- before rows had person numbers. And values written in another form whose fields can say them have the same sheet. Assumes nothing.
use Rattle.std.specs.Prelude.{◌≡◌, refl, false, ◌≢◌, List, [], ◌∷◌, length, get_or}
use Rattle.std.proofs.Common.{sym, ap₂, ◌∙◌, arith}
use Rattle.std.proofs.Math.Path.{ap}
use Rattle.std.proofs.Math.Option.{Option, some}
use Prim.Native.Nat.{ℕ, ◌≤◌, ◌<◌}
use Rattle.std.proofs.Math.Decide.{dec_lt}
use Rattle.std.proofs.Math.ListN.{get_elem?}
use Rattle.sets.specs.Arrays.{tabulate}
use Rattle.sets.specs.Laws.Arrays.{length-tabulate, tabulated}
use Rattle.roster.specs.Limits.{row_limit}
use Rattle.roster.specs.declared.Policy.{Policy}
use Rattle.roster.specs.declared.Reply.{Reply}
use Rattle.absences.specs.declared.Way.TheVariants.{Skipping}
use Rattle.absences.specs.Replied.{policy_reply_of}
use Rattle.absences.proofs.Laws.Demands.{policy_allowed}
use Rattle.accounts.specs.Persons.{number}
use Rattle.accounts.specs.Meaning.{row_by_row}
use Rattle.accounts.proofs.Laws.Merged.{not_numbered, own-persons}
use Rattle.questions.specs.Laws.Replies.{policy_answered, policy_as_before}
use Rattle.book.specs.Layout.{Contents, bytes_of, Own, OwnEdition, form_has_persons, form_has_editions, Each, Admitted, LayoutOf}
use Rattle.book.specs.Parts.{row_or0}
use Rattle.book.specs.Promises.{answered, accounts_for}
use Rattle.book.proofs.Laws.Old.{old_different, older_edition}
use Rattle.book.proofs.Laws.Parts.{layout_parts}
use Rattle.book.proofs.Laws.View.{there, not_there}
use Rattle.book.specs.declared.Row.{Row}
use Rattle.book.specs.declared.Form.{Form}
use Rattle.book.specs.declared.Form.TheVariants.{Old, Persons, Editions}
use Rattle.text.specs.Cut.{lines_of}
use Rattle.lines.specs.Sheet.{allowance, numbers_in, reply_to, sheet_of}
use Rattle.lines.specs.Laws.Laid.{numbers_laid, sheet_laid}
use Rattle.printed.specs.Words.{PolicyOf}
use Rattle.printed.specs.Laws.Asked.{task_wide}
use Rattle.printed.specs.Laws.Lines.{line_text}
use Rattle.printed.specs.Laws.Names.{old_name}
use Rattle.printed.specs.Laws.Sheets.{sheet_line}

-- "staff numbers by row", and 0 past the last
abbrev pub staff_by : Contents → List ℕ
staff_by v = tabulate row_limit (λ u. (row_or0 (answered (get_elem? v.rows u))).staff)

-- the reply to a policy over the table of the rows, under the first edition
abbrev pub reply_before : Contents → Policy → Reply
reply_before v p = policy_reply_of Skipping (row_by_row (accounts_for v)) p.task p.away p.crews p.size 1 allowance

pub old_numbers : (v : Contents) (book : List ℕ) → LayoutOf v book → v.form ≡ Old → numbers_in book ≡ staff_by v
old_numbers v book l old =
    tabulated 0 row_limit staff (numbers_in book)
    (ap length (numbers_laid v book l) ∙ length-tabulate row_limit (number (accounts_for v)))
    (λ u h. go u (dec_lt u (length v.rows)))
  where
    staff : ℕ → ℕ
    staff u = (row_or0 (answered (get_elem? v.rows u))).staff

    none-past : (u : ℕ) → length v.rows ≤ u → get_or (numbers_in book) u 0 ≡ 0
    none-past u h =
        let own = own-persons (accounts_for v) (old_different v l.admitted old) in
        ap (λ (l : List ℕ). get_or l u 0) (numbers_laid v book l) ∙ not_numbered (accounts_for v) u (omega (arith, own, l.admitted.rows))

    go : (u : ℕ) → Dec (u < length v.rows) → get_or (numbers_in book) u 0 ≡ staff u
    go u (yes h) =
        let (row, e) = there v.rows u h in
        old_name v book l old u row e ∙ ap (λ (o : Option Row). (row_or0 (answered o)).staff) (sym e)
    go u (no n) =
        let h : length v.rows ≤ u = omega arith in
        none-past u h ∙ ap (λ (o : Option Row). (row_or0 (answered o)).staff) (sym (not_there v.rows u h))

never : Old ≢ Editions
never e = let z : ◌≡◌ {A = ℕ} 0 1 = cc in omega arith

module _ (book : List ℕ) (i : ℕ) (v : Contents) (p : Policy) (o : PolicyOf book i v p) (old : v.form ≡ Old) where
  pub old_reply : reply_to book p ≡ reply_before v p
  unfolding reply_to
  old_reply =
      let a = accounts_for v in
      let wide = task_wide book i v p o in
      let over : ℕ → Reply = λ ed. policy_reply_of Skipping (row_by_row a) p.task p.away p.crews p.size ed allowance in
      policy_as_before a (old_different v o.layout.admitted old) Skipping p.task p.away p.crews p.size p.edition allowance wide (reply_to book p) (over p.edition)
      (rw (layout_parts v book o.layout).accounts (policy_answered Skipping a p.task p.away p.crews p.size p.edition allowance wide))
      (policy_allowed Skipping (row_by_row a) p.task p.away p.crews p.size p.edition wide allowance)
      ∙ ap over (older_edition v o.layout.admitted (λ e. never (sym old ∙ e)) i p o.policy)

  -- line i of its sheet
  pub old-line : get_elem? (lines_of (sheet_of book)) i ≡ some (line_text (staff_by v) i (reply_before v p))
  old-line =
      sheet_line book i v p o
      ∙ ap₂ (λ (numbers : List ℕ) (r : Reply). some (line_text numbers i r)) (old_numbers v book o.layout old) old_reply

-- ---- values written in another form

abbrev pub as_form : Form → Contents → Contents
as_form form v = record { form = form; codes = v.codes; rows = v.rows; policies = v.policies }

-- the fields of that form can say them
abbrev pub CanSay : Form → Contents → Type 0
CanSay form v = Each (Own (form_has_persons form)) v.rows × Each (OwnEdition (form_has_editions form)) v.policies

any : {A : Type 0} (l : List A) → Each (λ x. Unit {0}) l
unfolding Each
any [] = tt
any (x ∷ l) = (tt, any l)

-- the newest form can say all values, and the one with persons those of every older book
pub newest_says : (v : Contents) → CanSay Editions v
newest_says v = (any v.rows, any v.policies)

pub persons_say : (v : Contents) → Admitted v → v.form ≢ Editions → CanSay Persons v
persons_say v a older = (any v.rows, go v.form older a.editions)
  where
    go : (f : Form) → f ≢ Editions → Each (OwnEdition (form_has_editions f)) v.policies → Each (OwnEdition false) v.policies
    go Old n e = e
    go Persons n e = e
    go Editions n e = absurd (n refl)

-- then they are those of a good book
pub upgraded : (form : Form) (v : Contents) → Admitted v → CanSay form v → LayoutOf (as_form form v) (bytes_of (as_form form v))
upgraded form v a (own, editions) = record {
  admitted = record {
    some = a.some;
    permissions = a.permissions;
    rows = a.rows;
    policies = a.policies;
    codes = a.codes;
    codes_ascend = a.codes_ascend;
    staff = a.staff;
    staff_ascends = a.staff_ascends;
    persons = a.persons;
    own = own;
    holdings = a.holdings;
    sound = a.sound;
    editions = editions;
  };
  bytes = refl;
}

-- whose sheet is the same: a row's person number stands for what it had before, its staff number, and the edition for the first
pub upgraded_sheet : (form : Form) (v : Contents) → Admitted v → CanSay form v → sheet_of (bytes_of (as_form form v)) ≡ sheet_of (bytes_of v)
upgraded_sheet form v a says =
    sheet_laid (as_form form v) (bytes_of (as_form form v)) (upgraded form v a says) ∙ sym (sheet_laid v (bytes_of v) (record { admitted = a; bytes = refl }))
