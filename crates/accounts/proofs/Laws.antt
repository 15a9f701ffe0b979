pub mod Numbering
pub mod Holdings
pub mod Numbers
pub mod Merged
pub mod Accounts
pub mod Rulings
pub mod Merging
