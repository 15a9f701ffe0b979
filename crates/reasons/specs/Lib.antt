-- what the reasons are, what may come back, and the reply as a definition that runs
pub mod Reasons
pub mod Replies
pub mod Replied
-- what a reply tells of persons, and a table of examples
pub mod Told
pub mod Examples
pub mod Inner
pub mod Laws
