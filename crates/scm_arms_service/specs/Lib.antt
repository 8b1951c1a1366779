pub mod Judged
pub mod Replaced
pub mod Leveled
