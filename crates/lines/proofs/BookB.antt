-- 01's book B: its whole sheet, those of the same staff with persons and with editions, those of the two refused books, and that of a book that asks
-- nothing. The
-- persons and the searches are computed by running the definitions; `sheet_laid` says that the sheet of a book's bytes is that of its values.
use Rattle.std.specs.Prelude.{◌≡◌, refl, List, [], ◌∷◌, ◌++◌, ℕ, Ok}
use Rattle.std.proofs.Common.{sym, ap, ◌∙◌, arith}
use Rattle.std.specs.Int.Count.{ones, ones_in, count_trailing_zeros}
use Rattle.sets.specs.Sets.{bit}
use Rattle.sets.specs.Sums.{sum_to, to_n}
use Rattle.sets.specs.Members.{cons?, members, filter, hasb, set_of}
use Rattle.roster.specs.Meaning.{least_members, outweighsb, ahead, rank}
use Rattle.roster.specs.Refusals.{policy_ruling, own_ruling}
use Rattle.roster.specs.declared.Policy.{Policy}
use Rattle.crews.specs.Filling.{place_of, close_of, closes_of, placed_of, pool_of, candidates, try_each, search}
use Rattle.sets.specs.Arrays.{tabulate}
use Rattle.absences.specs.Tried.{row_from, joins, listed, sizes_from, weighed}
use Rattle.absences.specs.Replied.{policy_reply_of}
use Rattle.accounts.specs.declared.People.{People}
use Rattle.accounts.specs.Persons.{first, union_to, first_of, leads, count_of, person_of, held_by, number_of, people_of}
use Rattle.book.specs.Reading.{
  number,
  fields_at,
  count_look,
  entry_look,
  in_turn,
  section_looks,
  past,
  form_of,
  first_fault,
  read_of,
}
use Rattle.book.specs.Layout.{Each, Below, Ascends, PolicyFits, Admitted}
use Rattle.book.specs.Parts.{starts_in, policy_count_of}
use Rattle.book.specs.Promises.{accounts_for}
use Rattle.book.specs.Cases.{policies_b, values_b, book_b, b_bytes, values_new_b, new_b, new_b_bytes, values_editions_b, editions_b, editions_b_bytes}
use Rattle.text.specs.Text.{quoted, decimal_in, decimal, marked, joined}
use Rattle.lines.specs.Lines.{verdict_word, names, filled, sets_text, line_of, bad_line}
use Rattle.lines.specs.Sheet.{lines_from, sheet_by, sheet_of}
use Rattle.lines.specs.Laws.Laid.{lines_over, sheet_laid}

-- ---- B in each form is laid out

b_policies : Each (PolicyFits 2) (policies_b 1 1 1)
unfolding Each policy_ruling
b_policies =
    let fits : (p : Policy) → p.task ≡ 3 → own_ruling p ≡ Ok tt → PolicyFits 2 p = λ p e h. record { task = omega arith; sound = h } in
    (fits _ refl refl, (fits _ refl refl, (fits _ refl refl, tt)))

editions_b_policies : Each (PolicyFits 2) (policies_b 1 2 2)
unfolding Each policy_ruling
editions_b_policies =
    let fits : (p : Policy) → p.task ≡ 3 → own_ruling p ≡ Ok tt → PolicyFits 2 p = λ p e h. record { task = omega arith; sound = h } in
    (fits _ refl refl, (fits _ refl refl, (fits _ refl refl, tt)))

b_admitted : Admitted values_b
unfolding Each Below Ascends
b_admitted = record {
  some = omega arith;
  permissions = omega arith;
  rows = omega arith;
  policies = omega arith;
  codes = (omega arith, (omega arith, tt));
  codes_ascend = (omega arith, (tt, tt));
  staff = (omega arith, (omega arith, (omega arith, (omega arith, tt))));
  staff_ascends = (omega arith, (omega arith, (omega arith, (tt, tt))));
  persons = (omega arith, (omega arith, (omega arith, (omega arith, tt))));
  own = (refl, (refl, (refl, (refl, tt))));
  holdings = (omega arith, (omega arith, (omega arith, (omega arith, tt))));
  sound = b_policies;
  editions = (refl, (refl, (refl, tt)));
}

new_b_admitted : Admitted values_new_b
unfolding Each Below Ascends
new_b_admitted = record {
  some = omega arith;
  permissions = omega arith;
  rows = omega arith;
  policies = omega arith;
  codes = (omega arith, (omega arith, tt));
  codes_ascend = (omega arith, (tt, tt));
  staff = (omega arith, (omega arith, (omega arith, (omega arith, tt))));
  staff_ascends = (omega arith, (omega arith, (omega arith, (tt, tt))));
  persons = (omega arith, (omega arith, (omega arith, (omega arith, tt))));
  own = (tt, (tt, (tt, (tt, tt))));
  holdings = (omega arith, (omega arith, (omega arith, (omega arith, tt))));
  sound = b_policies;
  editions = (refl, (refl, (refl, tt)));
}

editions_b_admitted : Admitted values_editions_b
unfolding Each Below Ascends
editions_b_admitted = record {
  some = omega arith;
  permissions = omega arith;
  rows = omega arith;
  policies = omega arith;
  codes = new_b_admitted.codes;
  codes_ascend = new_b_admitted.codes_ascend;
  staff = new_b_admitted.staff;
  staff_ascends = new_b_admitted.staff_ascends;
  persons = new_b_admitted.persons;
  own = new_b_admitted.own;
  holdings = new_b_admitted.holdings;
  sound = editions_b_policies;
  editions = (tt, (tt, (tt, tt)));
}

-- ---- their persons

abbrev no_more : ℕ → List ℕ
no_more n = tabulate n (λ i. 0)

-- every row its own person
abbrev people_b : People
people_b = record {
  table = record { holdings = 3 ∷ 1 ∷ 2 ∷ 3 ∷ no_more 60; rows = 4 };
  numbers = 101 ∷ 102 ∷ 103 ∷ 104 ∷ no_more 60;
}

people_b_lem : people_of (accounts_for values_b) ≡ people_b
unfolding sum_to to_n tabulate first union_to first_of leads count_of person_of held_by number_of
people_b_lem = refl

-- 102 and 103 are one person, who holds both permissions
abbrev people_new_b : People
people_new_b = record {
  table = record { holdings = 3 ∷ 3 ∷ 3 ∷ no_more 61; rows = 3 };
  numbers = 7 ∷ 8 ∷ 9 ∷ no_more 61;
}

people-new_b : people_of (accounts_for values_new_b) ≡ people_new_b
unfolding sum_to to_n tabulate first union_to first_of leads count_of person_of held_by number_of
people-new_b = refl

-- ---- their lines

lines_of_b : lines_over people_b 0 (policies_b 1 1 1) ≡ quoted "0 yes 8 101/102,103\n1 no 11 101,104\n2 no 6 -\n"
unfolding bit sum_to to_n cons? members filter hasb set_of ones ones_in count_trailing_zeros policy_ruling least_members ahead rank outweighsb place_of close_of closes_of placed_of pool_of candidates try_each search row_from joins listed sizes_from weighed policy_reply_of tabulate decimal_in decimal marked joined verdict_word names filled sets_text line_of lines_over
lines_of_b = refl

lines_of_new_b : lines_over people_new_b 0 (policies_b 1 1 1) ≡ quoted "0 yes 6 7/8\n1 no 8 7,8\n2 yes 4 7/8/9\n"
unfolding bit sum_to to_n cons? members filter hasb set_of ones ones_in count_trailing_zeros policy_ruling least_members ahead rank outweighsb place_of close_of closes_of placed_of pool_of candidates try_each search row_from joins listed sizes_from weighed policy_reply_of tabulate decimal_in decimal marked joined verdict_word names filled sets_text line_of lines_over
lines_of_new_b = refl

lines_of_editions_b : lines_over people_new_b 0 (policies_b 1 2 2) ≡ quoted "0 yes 6 7/8\n1 no 13 -\n2 no 4 -\n"
unfolding bit sum_to to_n cons? members filter hasb set_of ones ones_in count_trailing_zeros policy_ruling least_members ahead rank outweighsb place_of close_of closes_of placed_of pool_of candidates try_each search row_from joins listed sizes_from weighed policy_reply_of tabulate decimal_in decimal marked joined verdict_word names filled sets_text line_of lines_over
lines_of_editions_b = refl

-- ---- their sheets

-- "Output, whole"
pub sheet_b : sheet_of book_b ≡ quoted "0 yes 8 101/102,103\n1 no 11 101,104\n2 no 6 -\n"
sheet_b =
    sheet_laid values_b book_b (record { admitted = b_admitted; bytes = sym b_bytes })
    ∙ ap (λ (people : People). lines_over people 0 (policies_b 1 1 1)) people_b_lem
    ∙ lines_of_b

-- the third policy turns from no to yes, where one person holds both permissions
pub sheet_new_b : sheet_of new_b ≡ quoted "0 yes 6 7/8\n1 no 8 7,8\n2 yes 4 7/8/9\n"
sheet_new_b =
    sheet_laid values_new_b new_b (record { admitted = new_b_admitted; bytes = sym new_b_bytes })
    ∙ ap (λ (people : People). lines_over people 0 (policies_b 1 1 1)) people-new_b
    ∙ lines_of_new_b

-- under the second edition the second policy has no crews even with nobody away: three persons are no two crews of two
pub sheet_editions_b : sheet_of editions_b ≡ quoted "0 yes 6 7/8\n1 no 13 -\n2 no 4 -\n"
sheet_editions_b =
    sheet_laid values_editions_b editions_b (record { admitted = editions_b_admitted; bytes = sym editions_b_bytes })
    ∙ ap (λ (people : People). lines_over people 0 (policies_b 1 2 2)) people-new_b
    ∙ lines_of_editions_b

-- "B with one byte added prints `bad 19 60`"
pub sheet_b_longer : sheet_of (book_b ++ (0 ∷ [])) ≡ quoted "bad 19 60\n"
unfolding policy_ruling number fields_at count_look entry_look in_turn section_looks past form_of first_fault read_of decimal_in decimal marked joined bad_line sheet_by sheet_of
sheet_b_longer = refl

-- "no input prints `bad 11 0`"
pub sheet_no_input : sheet_of [] ≡ quoted "bad 11 0\n"
unfolding policy_ruling number fields_at count_look entry_look in_turn section_looks past form_of first_fault read_of decimal_in decimal marked joined bad_line sheet_by sheet_of
sheet_no_input = refl

-- a book with one permission, no rows and no policies prints nothing
pub sheet_no_policies : sheet_of (1 ∷ 10 ∷ 0 ∷ 0 ∷ 0 ∷ []) ≡ []
unfolding policy_ruling number fields_at count_look entry_look in_turn section_looks past form_of first_fault read_of starts_in policy_count_of lines_from sheet_by sheet_of
sheet_no_policies = refl
