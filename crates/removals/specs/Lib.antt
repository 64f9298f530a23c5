pub mod Removals
pub mod Cases
