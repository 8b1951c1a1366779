pub mod Masking
pub mod Deciding
pub mod Sids
pub mod Forward
pub mod Secured
