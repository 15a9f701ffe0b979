-- which rows are one person, what is refused, and what is asked of persons
pub mod Persons
pub mod Refusals
pub mod Meaning
-- a table of examples, and that the definitions mean what they should
pub mod Examples
pub mod Laws
