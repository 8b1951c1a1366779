pub mod Children
pub mod Launches
pub mod Past
pub mod Ticks
