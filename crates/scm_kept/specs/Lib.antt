pub mod Replayed
pub mod Read
pub mod Fitting
pub mod Reopened
