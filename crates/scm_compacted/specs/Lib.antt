pub mod Compacted
pub mod Moved
