pub mod Restored
