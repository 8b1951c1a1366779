pub mod Managed
pub mod Room
pub mod Inside
pub mod Judged
