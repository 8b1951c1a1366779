pub mod Commands
pub mod Splitting
pub mod Spawning
