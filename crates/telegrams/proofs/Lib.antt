pub mod Ranges
pub mod Found
pub mod Reached
pub mod Told
pub mod Delivery
pub mod Soundness
pub mod Locality
pub mod Exact
