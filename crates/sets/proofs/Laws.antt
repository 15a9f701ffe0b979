pub mod Subsets
pub mod Sizes
pub mod Change
pub mod Drop
pub mod Unions
pub mod Build
pub mod Members
pub mod Image
