pub mod Notices
pub mod Events
