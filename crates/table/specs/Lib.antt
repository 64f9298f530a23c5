pub mod Links
pub mod Sound
pub mod Search
pub mod Plain
