pub mod Needs
pub mod Order
pub mod Indexed
pub mod Naming
pub mod Dependents
pub mod Kept
pub mod Resolved
