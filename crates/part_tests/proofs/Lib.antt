pub mod Begun
pub mod Woken
