-- what a book is, what is told of it, what its parts are, and what is promised
pub mod Layout
pub mod Faults
pub mod Reading
pub mod FieldPlaces
pub mod Parts
pub mod Promises
-- the book before there were forms, and the places before they were of fields
pub mod OldBooks
pub mod EntryPlaces
-- examples, computed
pub mod Cases
-- the theorems
pub mod Laws
-- what the reader's own functions answer
pub mod Inner
