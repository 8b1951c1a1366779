mod Writing
mod Whole
pub mod Sent
