pub mod Creating
pub mod Readback
