pub mod Parts
pub mod FieldByField
pub mod Heard
pub mod Lines
pub mod FieldsText
pub mod Turn
