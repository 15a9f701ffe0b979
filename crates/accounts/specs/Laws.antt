-- persons: the first row of each, their numbering, what they hold, their numbers
pub mod First

-- the merged table, and the same said of accounts alone
-- what is refused
-- merging row by row, as the code does it
