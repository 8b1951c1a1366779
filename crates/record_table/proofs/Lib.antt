pub mod Finding
pub mod Groups
pub mod Moving
pub mod Processes
pub mod Rising
