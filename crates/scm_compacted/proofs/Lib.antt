pub mod Opened
pub mod Leaving
mod Asking
