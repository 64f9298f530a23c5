pub mod Digits
pub mod Members
pub mod Sets
pub mod Outcomes
