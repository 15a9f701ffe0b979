-- the front page: what yes, no and undecided on a sheet mean; the words that it uses; and the lines of book B
pub mod Printed
pub mod Words
pub mod BookB
-- the theorems behind it
pub mod Laws
