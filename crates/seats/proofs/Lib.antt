pub mod Strip
pub mod Walk
pub mod Found
pub mod Present
pub mod Named
pub mod Exact
