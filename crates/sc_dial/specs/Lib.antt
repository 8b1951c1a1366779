pub mod Connections
pub mod InMemory
