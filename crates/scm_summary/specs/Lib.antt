pub mod Lines
pub mod Calls
pub mod Counting
pub mod Summary
