-- which absences are tried and at what cost, and what may come back
pub mod Tried
pub mod Asked
-- the reply as a definition that runs, and two tables of examples
pub mod Replied
pub mod Examples
pub mod More
-- that the definitions mean what 01 says, and the demands
-- definitions that only laws and proofs speak of, and what the private functions are held to
pub mod Inner
