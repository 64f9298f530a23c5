pub mod Sheets
pub mod Text
