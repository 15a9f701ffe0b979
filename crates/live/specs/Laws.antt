-- what each call comes to, and the theorem over any sequence of calls
-- what follows: refusals, the lowest place, nobody twice, what is held already
pub mod Twice
-- the table of occupied places, and its replies
-- what that stands on
pub mod First
pub mod Lists
pub mod Moves
pub mod Gathering
