-- one reply, the length, that a front of the book is enough, and that the text tells the book
pub mod Same
pub mod Front
-- that one table has one book
-- what that stands on
pub mod Counted
-- how a text is cut, and how its lines are fitted
pub mod Cuts
pub mod Fits
