pub mod Link
