pub mod Seats
pub mod Untouched
pub mod Cases
