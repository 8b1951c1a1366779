pub mod Judging
pub mod Leveling
