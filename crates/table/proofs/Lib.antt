pub mod Ranks
pub mod Sound
pub mod Walks
pub mod Spans
pub mod Stores
pub mod Halving
pub mod Plain
