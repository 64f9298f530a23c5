pub mod Installs
pub mod Cases
