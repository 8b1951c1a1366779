pub mod Tables
pub mod Writing
pub mod Reading
pub mod Laws
