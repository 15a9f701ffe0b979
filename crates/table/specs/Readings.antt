-- As which texts tables are understood, by running the definition. One fact: a change of the definition that can be seen in a text is seen here.
use Rattle.std.specs.Prelude.{◌≡◌, ℕ, List, [], ◌∷◌, map, refl}
use Prim.Native.String.{String}
use Rattle.text.specs.Text.{quoted, joined, marked}
use Rattle.text.specs.Cut.{longer, ended}
use Rattle.table.specs.Understood.{mark_length, turned, parting, separator_from, small, content, byte_read_as, plain_byte, plain_from, plain, cut, blank, under, fit, fitted, parts, tidy, understood}

-- a table, and as what it is understood
pub record Reading : Type 0 where
  pub table : List ℕ
  pub text : List ℕ

abbrev pub reads : String → String → Reading
reads table text = record { table = quoted table; text = quoted text }

-- what is understood as itself
abbrev pub stays : String → Reading
stays table = reads table table

abbrev pub readings : List Reading
readings =
    -- the text of a book stays as it is; so does one with neither rows nor policies
    stays "staff,person,110,120\n1,7,x,\n20,7,,x\n\ns,d,t,edition,110,120\n1,1,3,1,x,x\n"
    ∷ stays "staff,110\n\ns,d,t,110\n"
    -- other separators, the one that comes first; a comma among semicolons is part of a cell
    ∷ reads "staff;110;120\n1;x;\n\ns;d;t;110;120\n1;1;3;;x\n" "staff,110,120\n1,x,\n\ns,d,t,110,120\n1,1,3,,x\n"
    ∷ reads "staff\t110\t120\n1\tx;\t\n" "staff,110,120\n1,x;,\n"
    ∷ reads "staff;110\n1;x,x\n" "staff,110\n1,x;x\n"
    -- a byte order mark, carriage returns, the last line without its newline
    ∷ record { table = 239 ∷ 187 ∷ 191 ∷ quoted "staff,110\r\n1,x\r\n\r\ns,d,t,110"; text = quoted "staff,110\n1,x\n\ns,d,t,110\n" }
    -- capital letters
    ∷ reads "Staff,PERSON,9\n1,1,X\n" "staff,person,9\n1,1,x\n"
    -- quoted cells; columns that are passed over, in either part, with commas and line breaks in them
    ∷ reads "\"staff\",\"#name\",\"110\"\n\"1\",\"Ada, nee \"\"L\"\"\nof B\",\"x\"\n" "staff,110\n1,x\n"
    ∷ reads "\"#a,b\";staff;110;#\nn;1;x;\n\ns;d;t;#why;110\n0;1;1;to try;x\n" "staff,110\n1,x\n\ns,d,t,110\n0,1,1,x\n"
    -- lines as a spreadsheet pads them, and lines that are too short
    ∷ reads ",,\nstaff,110,,,\n1,x,,,\n2,,,,\n,,,,\n,,\ns,d,t,110,\n0,1,1,x,\n,,,,\n,,,,\n" "staff,110\n1,x\n2,\n\ns,d,t,110\n0,1,1,x\n"
    ∷ reads "staff,110,120\n1\n2,x\n" "staff,110,120\n1,,\n2,x,\n"
    -- a cell too many stays, past the heading and under a column that has none
    ∷ reads "staff,110\n1,x,x\n" "staff,110\n1,x,x\n"
    ∷ reads "staff,,110\n1,y,x\n2,,x\n" "staff,110\n1,y,x\n2,x\n"
    -- an empty line between rows ends them; what is under it is a heading of its own
    ∷ reads "staff,110\n1,x\n\n2,x\n3\n" "staff,110\n1,x\n\n2,x\n3,\n"
    -- spaces and leading zeros are as they are
    ∷ stays "staff, 110\n01,x \n"
    -- nothing
    ∷ reads "" ""
    ∷ reads "\n,,\n" ""
    ∷ reads "#a,#b\n1,2\n" "-\n-\n"
    ∷ []

pub readings_hold : map (λ (x : Reading). understood x.table) readings ≡ map (λ (x : Reading). x.text) readings
unfolding mark_length turned parting separator_from small content byte_read_as plain_byte plain_from plain longer cut blank under fit marked joined fitted parts ended tidy understood
readings_hold = refl
