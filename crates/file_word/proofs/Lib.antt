pub mod Unpacking
pub mod Packing
