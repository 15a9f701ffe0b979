pub mod Puts
pub mod Fitting
