pub mod Lasting
pub mod Turning
pub mod Standing
