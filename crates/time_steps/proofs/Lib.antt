pub mod Steps
pub mod Soundness
pub mod Locality
pub mod Exact
