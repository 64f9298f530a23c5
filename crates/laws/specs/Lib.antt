pub mod Kept
pub mod Decides
pub mod Fills
pub mod Every
pub mod Any
pub mod Nearest
