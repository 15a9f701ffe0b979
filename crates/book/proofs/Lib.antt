pub mod Numbers
pub mod Looks
pub mod Fields
pub mod Places
pub mod Laws
