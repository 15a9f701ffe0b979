-- the text of a book's values, and what is shown of a book
pub mod Table
pub mod Shown
-- as which text a table is understood, and what is made of it
pub mod Understood
pub mod Making
-- examples, computed
pub mod Examples
pub mod Readings
-- what the crate's own functions answer
pub mod Inner
-- the theorems
pub mod Laws
