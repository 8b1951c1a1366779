pub mod Measured
pub mod Lengths
pub mod Placing
