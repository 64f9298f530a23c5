pub mod Counting
pub mod LineEnd
pub mod Judged
pub mod Meanings
pub mod FileLine
