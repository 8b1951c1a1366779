pub mod Outcomes
pub mod Answers
pub mod Replay
pub mod Along
