pub mod Orders
pub mod Millisecond
