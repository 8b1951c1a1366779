pub mod Placing
pub mod Runs
pub mod Under
