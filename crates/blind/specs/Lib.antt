pub mod Fields
pub mod Numbers
pub mod Orders
pub mod Millisecond
