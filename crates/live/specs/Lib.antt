-- what a call makes of a roster, the plain list that it is held to, and when the two agree
pub mod Numbers
pub mod Changes
pub mod Plain
pub mod Agrees
-- an afternoon, computed
pub mod Examples
-- the theorems
pub mod Laws
