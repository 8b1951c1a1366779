pub mod Aces
pub mod Bits
pub mod Descriptors
pub mod Fitting
pub mod Identities
pub mod Loops
pub mod There
pub mod Values
