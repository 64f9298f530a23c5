pub mod Strip
pub mod Inventory
pub mod Cases
