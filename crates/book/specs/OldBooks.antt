-- 01, "The roster book", as it stood before there were forms: no leading byte, and rows of a staff number and holdings; and the book of request 04,
-- as it stood before policies had editions. Kept so that `proofs/Laws/Old` can say that older books are still read so. Nothing here is proved: these are
-- definitions, and they run.
use Rattle.std.specs.Prelude.{true, false, List, [], ◌∷◌, ◌++◌, ℕ, eqb, ltb, get_or, Option, Some, None, Result, Ok, option_map}
use Rattle.roster.specs.Limits.{row_limit, away_limit, crew_limit, size_limit}
use Rattle.roster.specs.Refusals.{outside}
use Rattle.roster.specs.declared.Refusal.TheVariants as refusal
use Rattle.book.specs.Layout.{code_widths, code_fields, policy_limit, section}
use Rattle.book.specs.Reading.{Kind, amiss_if, not_above, past_listed, row_amiss, codes, rows, entry_at, width, count_at, section_looks, past, end_look, first_fault}
use Rattle.book.specs.Parts.{place_of}
use Rattle.book.specs.declared.Fault.TheVariants as fault
use Rattle.book.specs.declared.Starts.{Starts}
use Rattle.book.specs.declared.FaultAt.{FaultAt}

-- "4-byte staff number, 4-byte holdings"
pub record OldRow : Type 0 where
  pub staff : ℕ
  pub holdings : ℕ

abbrev pub old_widths : List ℕ
old_widths = 4 ∷ 4 ∷ []

abbrev pub old_fields : OldRow → List ℕ
old_fields row = row.staff ∷ row.holdings ∷ []

abbrev pub old_staff : Option OldRow → Option ℕ
old_staff before = option_map (λ row. row.staff) before

abbrev pub old_rows : Kind OldRow
old_rows = record {
  widths = old_widths;
  value = λ f. record { staff = get_or f 0 0; holdings = get_or f 1 0 };
  out_of_range = ltb row_limit;
  count_fault = fault.Rows;
  faults = λ listed before row. row_amiss false (not_above (old_staff before) row.staff) (past_listed listed row.holdings);
}

-- "4-byte P, then s, d, t in a byte each"
pub record OldPolicy : Type 0 where
  pub task : ℕ
  pub away : ℕ
  pub crews : ℕ
  pub size : ℕ

abbrev pub old_policy_widths : List ℕ
old_policy_widths = 4 ∷ 1 ∷ 1 ∷ 1 ∷ []

abbrev pub old_policy_fields : OldPolicy → List ℕ
old_policy_fields p = p.task ∷ p.away ∷ p.crews ∷ p.size ∷ []

-- "for a policy **18** P past the listed permissions, then 2, 3, 4, 5 as above"
abbrev pub old_policies : Kind OldPolicy
old_policies = record {
  widths = old_policy_widths;
  value = λ f. record { task = get_or f 0 0; away = get_or f 1 0; crews = get_or f 2 0; size = get_or f 3 0 };
  out_of_range = ltb policy_limit;
  count_fault = fault.Policies;
  faults = λ listed before p.
      amiss_if (past_listed listed p.task) fault.Task 0
      (amiss_if (eqb p.task 0) (fault.Policy refusal.Task) 0
      (amiss_if (ltb away_limit p.away) (fault.Policy refusal.Away) 1
      (amiss_if (outside crew_limit p.crews) (fault.Policy refusal.Crews) 2
      (amiss_if (outside size_limit p.size) (fault.Policy refusal.Size) 3 (Ok tt)))));
}

-- the bytes of a book
abbrev pub old_bytes : List ℕ → List OldRow → List OldPolicy → List ℕ
old_bytes codes rows policies =
    section code_widths code_fields codes ++ (section old_widths old_fields rows ++ section old_policy_widths old_policy_fields policies)

-- where the sections start, with rows of this kind and the permissions here
abbrev pub old_starts : {A : Type 0} → Kind A → ℕ → List ℕ → Starts
old_starts rows front book = record { permissions = front; rows = past codes book front; policies = past rows book (past codes book front) }

-- the reply: the first fault of all that is looked at
abbrev pub read_with : {A : Type 0} → Kind A → ℕ → List ℕ → Result Starts FaultAt
read_with rows front book =
    let listed = count_at book front in
    let s = old_starts rows front book in
    first_fault s
    (section_looks codes book 0 front
    ++ (section_looks rows book listed s.rows
    ++ (section_looks old_policies book listed s.policies
    ++ (end_look book (past old_policies book s.policies) ∷ []))))

-- before there were forms
abbrev pub old_read : List ℕ → Result Starts FaultAt
old_read book = read_with old_rows 0 book

-- before policies had editions: with a leading 200, and without one
abbrev pub read_before_editions : List ℕ → Result Starts FaultAt
read_before_editions book = elim (eqb (get_or book 0 0) 200) [ true ↦ read_with (rows true) 1 book | false ↦ old_read book ]

-- the row that stands at a place, if there is one
abbrev pub old_row_from : List ℕ → Option ℕ → Option OldRow
old_row_from book (Some at) = Some (entry_at old_rows book at)
old_row_from book None = None

-- a row of a book whose sections start here
abbrev pub old_row_at : List ℕ → Starts → ℕ → Option OldRow
old_row_at book starts row = old_row_from book (place_of (width old_rows) book starts.rows row)
