-- what is promised
-- what that stands on
pub mod First
pub mod Codec
pub mod Sections
pub mod Places
pub mod Values
