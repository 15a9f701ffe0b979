-- A line can be read back: over names that are pairwise different no two replies are written alike. Assumes nothing.
use Rattle.std.specs.Prelude.{◌≡◌, refl, ◌≢◌, List, [], ◌∷◌, ℕ, ◌^◌, ◌≤◌, ◌<◌}
use Rattle.std.proofs.Math.Path.{sym}
use Rattle.std.proofs.Common.{ap, ◌∙◌}
use Rattle.std.proofs.lemmas.List.{append_cancel_right}
use Rattle.roster.specs.Limits.{row_limit}
use Rattle.roster.specs.declared.Verdict.{Verdict}
use Rattle.roster.specs.declared.Verdict.TheVariants.{Yes, No, Undecided, Crews, None, Refused}
use Rattle.roster.specs.declared.Reply.{Reply}
use Rattle.accounts.specs.Persons.{persons}
use Rattle.accounts.proofs.Laws.Merged.{persons_few}
use Rattle.book.specs.Layout.{Contents, LayoutOf}
use Rattle.book.specs.Promises.{accounts_for}
use Rattle.text.specs.Text.{newline}
use Rattle.lines.specs.Lines.{sets_text, line_of}
use Rattle.lines.specs.Sheet.{numbers_in}
use Rattle.printed.specs.Words.{ReplyOver, names_of, Different}
use Rattle.printed.specs.Laws.Lines.{never, line_text, line_text_lem, Worded, says_yes, says_no, says_undecided, number_parted, word_parted}
use Rattle.printed.specs.Laws.Names.{set-names, names_different}
use Rattle.printed.specs.Laws.Sets.{set_same, crews_same, filled_same}
use Rattle.printed.specs.Laws.Shown.{Shown, allowed_shown}

module _ (n : ℕ) (few : n ≤ row_limit) (numbers : List ℕ) (different : Different n numbers) (r q : Reply) (a : Shown n r) (b : Shown n q) where
  -- what is not written is the same in both
  crewless : r.verdict ≢ Yes → q.verdict ≢ Yes → r.crews ≡ q.crews
  crewless e f = a.no_crews_lem e ∙ sym (b.no_crews_lem f)

  unblocked : r.verdict ≢ No → q.verdict ≢ No → r.blocker ≡ q.blocker
  unblocked e f = a.no_blocker e ∙ sym (b.no_blocker f)

  -- the sets that go with a word tell the crews and the blocker
  sets_same : (v : Verdict) → Worded v → r.verdict ≡ v → q.verdict ≡ v → sets_text numbers r v ≡ sets_text numbers q v
      → (r.crews ≡ q.crews) × (r.blocker ≡ q.blocker)
  unfolding sets_text
  sets_same Yes says_yes e f s = (
    filled_same r.crews q.crews (a.eight ∙ sym b.eight) a.behind b.behind
        (crews_same n few numbers different r.crews q.crews a.crews b.crews s),
    unblocked (λ c. never (cc)) (λ c. never (cc)),
  )
  sets_same No says_no e f s = (
    crewless (λ c. never (cc)) (λ c. never (cc)),
    set_same n few numbers different r.blocker q.blocker a.blocker b.blocker s,
  )
  sets_same Undecided says_undecided e f s =
      (crewless (λ c. never (cc)) (λ c. never (cc)), unblocked (λ c. never (cc)) (λ c. never (cc)))
  sets_same Crews w e f s = elim w [ ]
  sets_same None w e f s = elim w [ ]
  sets_same (Refused _) w e f s = elim w [ ]

  -- replies with the same line over the same names are the same reply, and have the same index
  pub shown_same : (i j : ℕ) → line_of numbers i r ≡ line_of numbers j q → (i ≡ j) × (r ≡ q)
  shown_same i j e =
      let text : line_text numbers i r ≡ line_text numbers j q =
      append_cancel_right (line_text numbers i r) (line_text numbers j q) (newline ∷ []) (sym (line_text_lem numbers i r) ∙ e ∙ line_text_lem numbers j q) in
      let index = number_parted i j _ _ text in
      let word = word_parted r.verdict q.verdict _ _ a.word b.word index.1 in
      let units = number_parted r.units q.units _ _ word.1 in
      let sets = sets_same q.verdict b.word word.0 refl (ap (sets_text numbers r) (sym word.0) ∙ units.1) in
      (index.0, λ k. record { verdict = word.0 k; crews = sets.0 k; blocker = sets.1 k; units = units.0 k })

over-shown : (n : ℕ) (r : Reply) → ReplyOver n r → Shown n r
over-shown n r o =
    allowed_shown o.way o.table o.task o.away o.crews o.size o.edition o.wide o.allowance o.admitted r o.allowed n o.few

-- two replies that may be given, with the same line over the same names, are the same reply, and have the same index
pub line_read_back : (n : ℕ) → n ≤ row_limit → (numbers : List ℕ) → Different n numbers → (i j : ℕ) (r q : Reply) → ReplyOver n r → ReplyOver n q
    → line_of numbers i r ≡ line_of numbers j q → (i ≡ j) × (r ≡ q)
line_read_back n few numbers different i j r q a b = shown_same n few numbers different r q (over-shown n r a) (over-shown n q b) i j

-- so it is over the names of every good book
pub sheet_read_back : (v : Contents) (book : List ℕ) → LayoutOf v book → (i j : ℕ) (r q : Reply)
    → ReplyOver (persons (accounts_for v)) r → ReplyOver (persons (accounts_for v)) q
    → line_of (numbers_in book) i r ≡ line_of (numbers_in book) j q → (i ≡ j) × (r ≡ q)
sheet_read_back v book l = line_read_back (persons (accounts_for v)) (persons_few (accounts_for v)) (numbers_in book) (names_different v book l)

-- and names tell who is meant: no two sets of a book's persons have the same
pub names_tell : (v : Contents) (book : List ℕ) → LayoutOf v book → (A B : ℕ) → A < 2 ^ persons (accounts_for v) → B < 2 ^ persons (accounts_for v)
    → names_of v A ≡ names_of v B → A ≡ B
names_tell v book l A B a b e =
    set_same (persons (accounts_for v)) (persons_few (accounts_for v)) (numbers_in book) (names_different v book l) A B a b
    (set-names v book l A ∙ e ∙ sym (set-names v book l B))
