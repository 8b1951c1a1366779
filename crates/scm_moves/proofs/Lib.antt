pub mod Found
pub mod Entered
pub mod Own
pub mod Moved
pub mod Known
pub mod Still
pub mod Waiting
pub mod Stale
pub mod Needed
pub mod Judged
pub mod Controlled
pub mod Whole
pub mod ToldStale
mod Ticked
mod Deadlines
