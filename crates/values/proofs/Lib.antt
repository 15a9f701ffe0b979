pub mod Made
pub mod Looks
pub mod Parts
pub mod Puts
pub mod Laws
