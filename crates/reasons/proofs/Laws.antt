pub mod Reasons
pub mod Replies
pub mod Persons
pub mod Told
