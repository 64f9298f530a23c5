pub mod Rules
pub mod Edits
