pub mod Numbers
pub mod Ways
pub mod Told
