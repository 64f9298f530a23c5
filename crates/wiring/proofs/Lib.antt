pub mod LinkEdits
pub mod Members
pub mod Exact
pub mod Soundness
pub mod Untouched
pub mod Moved
pub mod Rebuilt
