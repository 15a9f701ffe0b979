pub mod Text
pub mod Cut
pub mod Examples
pub mod Laws
