pub mod Counting
pub mod Chains
pub mod Sorting
