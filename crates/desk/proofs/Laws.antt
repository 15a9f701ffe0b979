pub mod Books
pub mod Untaken
pub mod Back
pub mod Least
pub mod Order
