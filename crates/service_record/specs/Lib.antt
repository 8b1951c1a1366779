pub mod Words
pub mod Checks
pub mod Reading
pub mod Spelling
