pub mod Telegrams
pub mod Cases
pub mod Locality
