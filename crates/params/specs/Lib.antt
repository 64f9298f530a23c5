pub mod Parameters
pub mod Numbers
