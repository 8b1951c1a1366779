pub mod Talking
pub mod Walking
pub mod Ends
pub mod Whole
