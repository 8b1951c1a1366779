pub mod Files
pub mod Images
pub mod Past
pub mod Calls
pub mod Tears
