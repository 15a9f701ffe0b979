pub mod Rulings
pub mod Rank
pub mod Order
pub mod Lists
pub mod Swap
pub mod Same
pub mod Editions
