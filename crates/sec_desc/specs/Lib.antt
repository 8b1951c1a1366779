pub mod Numbers
pub mod Layout
pub mod Reading
pub mod Writing
pub mod Described
pub mod Laws
