pub mod Moves
pub mod Controls
pub mod Stale
pub mod Ticks
pub mod Deadlines
