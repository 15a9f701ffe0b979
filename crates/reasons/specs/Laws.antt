pub mod Scarce
pub mod Here
pub mod Lowest

-- the reasons are true, one only, and explain
-- every question has one reply
-- what a reply tells of persons and their accounts
