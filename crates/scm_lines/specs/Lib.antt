pub mod Words
pub mod Verbs
pub mod Lines
pub mod Answers
pub mod Entries
