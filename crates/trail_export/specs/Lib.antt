pub mod Exports
pub mod Gathered
pub mod Readable
