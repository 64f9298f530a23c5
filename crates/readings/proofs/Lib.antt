pub mod Checks
pub mod Commands
pub mod Readings
pub mod Outcomes
pub mod Exact
