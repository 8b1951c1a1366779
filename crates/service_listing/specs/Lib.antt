pub mod Layout
pub mod Pages
pub mod Sizes
pub mod Fitting
pub mod Levels
pub mod Placed
