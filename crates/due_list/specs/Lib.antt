pub mod Dues
pub mod Inside
