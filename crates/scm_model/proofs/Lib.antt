mod Worded
pub mod Found
