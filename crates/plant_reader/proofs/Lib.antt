pub mod Above
pub mod Numbers
pub mod Taken
pub mod Said
pub mod Begun
pub mod Walked
pub mod FirstLine
pub mod Reading
