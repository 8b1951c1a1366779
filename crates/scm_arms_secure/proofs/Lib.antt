pub mod Bases
pub mod Swapping
pub mod Written
