-- what may come back, and the reply as a definition that runs
pub mod Asked
pub mod Replied
-- a table of examples, and the demands over accounts
pub mod Examples
pub mod Laws
