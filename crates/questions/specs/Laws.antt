pub mod Behind
-- every question has one reply; where every row is its own person it is that of before; the numbers themselves do not matter
pub mod Replies
-- what a reply tells of accounts, and that both searches tell the same
pub mod Demands
-- what a reply under one edition tells of the other
pub mod Editions
