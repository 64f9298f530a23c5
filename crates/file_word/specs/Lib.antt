pub mod FileWord
