pub mod Usage
pub mod Messages
pub mod Diagnostics
pub mod Runs
pub mod Parts
