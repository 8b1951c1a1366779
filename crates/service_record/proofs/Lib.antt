pub mod Halves
pub mod Loop
pub mod Fields
pub mod Texts
pub mod Records
