mod Waiting
mod Answering
pub mod Owning
pub mod Reaching
mod Connecting
pub mod Fronts
pub mod Complete
