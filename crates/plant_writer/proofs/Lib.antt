pub mod LinesText
pub mod Filled
pub mod Outcomes
