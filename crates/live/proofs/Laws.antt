pub mod Told
pub mod Steps
pub mod Always
pub mod Refused
pub mod Lowest
pub mod Held
pub mod Tables
