pub mod Collected
pub mod Rows
