pub mod Folds
pub mod Lines
pub mod Naming
pub mod Obeying
pub mod Wearing
