pub mod Causes
pub mod Written
pub mod Fates
pub mod InMemory
pub mod Asked
