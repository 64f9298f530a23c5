pub mod Ordered
pub mod Exact
pub mod Acts
