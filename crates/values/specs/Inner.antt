pub mod Gathered
pub mod Looks
pub mod Puts
