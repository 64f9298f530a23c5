pub mod Strip
pub mod Ways
pub mod Shifts
pub mod Soundness
pub mod Untouched
pub mod Exact
pub mod Rebuilt
