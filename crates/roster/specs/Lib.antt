pub mod Limits
pub mod Meaning
pub mod Refusals
pub mod Replies
pub mod Examples
pub mod Laws
