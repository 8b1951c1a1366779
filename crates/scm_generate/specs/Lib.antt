pub mod Listed
pub mod Summary
pub mod Progress
pub mod Printed
pub mod Ample
