pub mod Spaced
mod Asked
pub mod Again
