pub mod Appends
pub mod Every
pub mod Marks
