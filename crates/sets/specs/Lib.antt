pub mod Mask
pub mod Sums
pub mod Members
pub mod Arrays
pub mod Sets
pub mod Laws
