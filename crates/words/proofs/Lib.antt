pub mod NextWord
pub mod WordByWord
