pub mod Waiting
pub mod Serving
pub mod Owning
pub mod Connecting
pub mod Complete
