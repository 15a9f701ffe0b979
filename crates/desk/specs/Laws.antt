-- what is promised of a book
-- which books are taken; the roster of rows; what is given back
pub mod Taken
pub mod Seated

-- the order of staff numbers
