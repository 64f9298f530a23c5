pub mod Ranges
pub mod Keys
pub mod Neighbours
pub mod Packed
