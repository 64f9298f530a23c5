pub mod Room
pub mod Parts
pub mod Lines
pub mod Heard
