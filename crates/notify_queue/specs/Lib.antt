pub mod Queued
pub mod Roomy
pub mod Inside
