pub mod Steps
pub mod Settled
pub mod ReadBack
