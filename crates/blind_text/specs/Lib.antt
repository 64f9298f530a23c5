pub mod BlindText
