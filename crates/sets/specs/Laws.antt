pub mod Digits
pub mod Least
pub mod Missing
pub mod Sums
pub mod Tests
pub mod Arrays
