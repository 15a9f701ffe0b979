pub mod Lines
pub mod Sheet
pub mod Examples
pub mod Laws
