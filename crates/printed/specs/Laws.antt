-- the lines of a sheet, and the policies that they are of
pub mod Sheets
pub mod Asked
-- what the word, the crews and the names on a line say
pub mod Said
pub mod Names
-- that the sheet of an old book moves in nothing
pub mod Old
-- that a line can be read back
pub mod ReadBack
-- what these rest on: the text of a line, the replies that are printed, the sets on it
pub mod Lines
pub mod Shown
pub mod Sets
