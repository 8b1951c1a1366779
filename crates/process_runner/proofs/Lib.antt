pub mod Words
pub mod FirstWord
