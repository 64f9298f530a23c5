pub mod Ruling
pub mod Courses
pub mod Pauses
pub mod Undisturbed
pub mod Ends
pub mod Obeys
pub mod Weaker
