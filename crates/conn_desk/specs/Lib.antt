pub mod Bodies
pub mod Desks
pub mod Talks
pub mod Along
pub mod Connection
pub mod Serves
pub mod Buffers
