pub mod Codecs
pub mod Bounds
