pub mod Limits
pub mod Fewer
pub mod Lists
