pub mod Connections
pub mod Accepting
pub mod InMemory
pub mod Failures
