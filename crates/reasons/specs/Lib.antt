pub mod Reasons
pub mod Cases
