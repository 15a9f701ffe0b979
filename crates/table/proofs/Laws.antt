pub mod Length
pub mod Tells
pub mod Makes
