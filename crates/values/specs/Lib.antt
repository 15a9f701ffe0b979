-- which values are meant, and what writing them comes to
pub mod Values
pub mod Writing
-- what the theorems say and assume
pub mod Promises
-- examples, computed
pub mod Examples
-- the theorems
pub mod Laws
-- what the crate's own functions answer
pub mod Inner
