pub mod Filling
pub mod Cases
pub mod CasesBefore
pub mod Order
pub mod Named
pub mod Filled
pub mod Inner
