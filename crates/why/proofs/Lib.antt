pub mod Ranges
pub mod Found
pub mod Judging
pub mod Answer
pub mod Exact
pub mod Spoken
pub mod Acts
pub mod Sent
