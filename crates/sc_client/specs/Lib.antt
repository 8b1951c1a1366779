pub mod Requests
pub mod Talks
pub mod Runs
pub mod Along
