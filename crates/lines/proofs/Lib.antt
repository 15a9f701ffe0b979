-- What the proofs of the functions share.
pub mod Walk
pub mod Verdicts
pub mod BookB
