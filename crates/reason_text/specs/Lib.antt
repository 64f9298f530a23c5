pub mod ReasonText
