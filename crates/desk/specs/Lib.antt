-- what is taken from a book, and what is given back
pub mod Filled
pub mod Back
-- books, computed
pub mod Examples
-- the theorems
pub mod Laws
