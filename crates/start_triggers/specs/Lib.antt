pub mod Triggers
pub mod Order
pub mod Stable
