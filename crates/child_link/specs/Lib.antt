pub mod Words
pub mod Lines
pub mod Children
pub mod Cutting
