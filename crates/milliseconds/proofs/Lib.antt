pub mod Cutting
pub mod AtOnce
