pub mod Placing
pub mod Stably
pub mod Only
