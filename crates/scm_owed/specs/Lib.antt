pub mod Paying
pub mod Legal
