pub mod Passed
pub mod Written
pub mod Exact
pub mod Soundness
pub mod Untouched
pub mod Tables
