pub mod Audited
pub mod Heads
pub mod Along
pub mod Entered
