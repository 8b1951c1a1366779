pub mod Numbered
pub mod Ordered
pub mod Deadlines
