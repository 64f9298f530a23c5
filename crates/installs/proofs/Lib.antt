pub mod Passed
pub mod Exact
pub mod Soundness
pub mod Untouched
pub mod Tables
