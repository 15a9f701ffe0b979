-- which ranks are open to an absence, and what the private functions of the walk are held to
pub mod Opens
pub mod Walk
