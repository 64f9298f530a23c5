pub mod Edits
pub mod Afresh
pub mod Search
