pub mod Chained
pub mod Counted
pub mod Handled
pub mod Kept
pub mod Numbered
