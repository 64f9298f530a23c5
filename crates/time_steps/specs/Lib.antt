pub mod TimeSteps
pub mod Cases
