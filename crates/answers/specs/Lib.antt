pub mod Answers
pub mod Cases
pub mod Rules
pub mod Runs
pub mod Numbers
