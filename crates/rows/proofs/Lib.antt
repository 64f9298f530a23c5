pub mod NextLine
pub mod MovedRow
