pub mod Refusals
pub mod Rules
pub mod Exact
pub mod Runs
pub mod Numbers
