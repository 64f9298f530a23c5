pub mod Wiring
pub mod Cases
pub mod Afresh
