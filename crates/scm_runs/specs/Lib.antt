pub mod Leaving
pub mod Creation
pub mod Handles
pub mod Sizes
pub mod Starts
pub mod Plans
pub mod Entering
pub mod Histories
