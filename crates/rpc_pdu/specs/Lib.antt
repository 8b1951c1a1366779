pub mod Number
pub mod Header
pub mod Contexts
pub mod Pdu
pub mod Written
pub mod ReadBack
