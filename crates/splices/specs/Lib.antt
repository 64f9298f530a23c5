pub mod Splices
pub mod Places
pub mod Cases
