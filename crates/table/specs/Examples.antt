-- Tables of books, by running the definition: book B of 01 in its three forms, a book with nothing but a permission, and one with the least and the
-- largest numbers; and what is shown of bytes. It pins what definition and code could change together.
use Rattle.std.specs.Prelude.{◌≡◌, [], ◌∷◌, ◌++◌, refl}
use Rattle.sets.specs.Arrays.{tabulate}
use Rattle.sets.specs.Mask.{bit}
use Rattle.roster.specs.Refusals.{policy_ruling}
use Rattle.book.specs.Cases.{values_b, book_b, values_new_b, values_editions_b, editions_b}
use Rattle.book.specs.Layout.{Contents}
use Rattle.book.specs.Parts.{entries_at, contents_by}
use Rattle.book.specs.Reading.{number, fields_at, count_look, entry_look, in_turn, section_looks, past, form_of, first_fault, read_of}
use Rattle.book.specs.declared.Form.TheVariants.{Old, Editions}
use Rattle.text.specs.Text.{quoted, decimal_in, decimal, marked, joined}
use Rattle.text.specs.Cut.{ended}
use Rattle.lines.specs.Lines.{bad_line}
use Rattle.table.specs.Table.{marks, row_lines, policy_lines, table_text_of}
use Rattle.table.specs.Shown.{shown_by, shown_of}

-- no rows, no policies, and the least code
abbrev pub bare : Contents
bare = record { form = Old; codes = 0 ∷ []; rows = []; policies = [] }

-- a third permission, which nobody holds and no task asks for but the last of each, alone
abbrev pub third : Contents
third = record {
  form = Editions;
  codes = 7 ∷ 80 ∷ 65535 ∷ [];
  rows = record { staff = 0; person = 4294967295; holdings = 0 } ∷ record { staff = 4294967295; person = 0; holdings = 4 } ∷ [];
  policies = record { task = 1; away = 0; crews = 1; size = 64; edition = 2 } ∷ record { task = 4; away = 64; crews = 8; size = 1; edition = 1 } ∷ [];
}

pub table-examples :
    (table_text_of values_b
    ≡ quoted "staff,10,20\n101,x,x\n102,x,\n103,,x\n104,x,x\n\ns,d,t,10,20\n1,2,2,x,x\n2,2,2,x,x\n0,3,1,x,x\n")
    × (table_text_of values_new_b
    ≡ quoted "staff,person,10,20\n101,7,x,x\n102,8,x,\n103,8,,x\n104,9,x,x\n\ns,d,t,10,20\n1,2,2,x,x\n2,2,2,x,x\n0,3,1,x,x\n")
    × (table_text_of values_editions_b
    ≡ quoted "staff,person,10,20\n101,7,x,x\n102,8,x,\n103,8,,x\n104,9,x,x\n\ns,d,t,edition,10,20\n1,2,2,1,x,x\n2,2,2,2,x,x\n0,3,1,2,x,x\n")
    × (table_text_of bare ≡ quoted "staff,0\n\ns,d,t,0\n")
    × (table_text_of third
    ≡ quoted "staff,person,7,80,65535\n0,4294967295,,,\n4294967295,0,,,x\n\ns,d,t,edition,7,80,65535\n0,1,64,2,x,,\n64,8,1,1,,,x\n")
unfolding tabulate bit decimal_in decimal marked joined ended marks row_lines policy_lines table_text_of
table-examples = (refl, refl, refl, refl, refl)

-- what is shown of the bytes of B, of B with one byte more, and of none
pub shown-examples :
    (shown_of book_b ≡ table_text_of values_b)
    × (shown_of editions_b ≡ table_text_of values_editions_b)
    × (shown_of (book_b ++ (0 ∷ [])) ≡ quoted "bad 19 60\n")
    × (shown_of [] ≡ quoted "bad 11 0\n")
unfolding policy_ruling number fields_at count_look entry_look in_turn section_looks past form_of first_fault read_of entries_at contents_by decimal_in decimal marked joined bad_line shown_by shown_of
shown-examples = (refl, refl, refl, refl)
