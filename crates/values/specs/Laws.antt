-- what is promised
pub mod Meant
pub mod Reader
pub mod Wide
pub mod Admitted
pub mod Outcome
pub mod Numbers
-- what that stands on
pub mod First
pub mod Policies
pub mod Order
