pub mod Panel
pub mod Fields
pub mod Sound
pub mod Calls
pub mod Reports
pub mod Plain
