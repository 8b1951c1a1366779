mod Lines
mod Stretches
mod Bad
pub mod Ends
mod Whole
pub mod Admitted
mod Standings
