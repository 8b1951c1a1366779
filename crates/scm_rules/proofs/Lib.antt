pub mod Dues
pub mod Held
pub mod Needed
pub mod Secured
pub mod Written
