pub mod Placing
pub mod Replied
