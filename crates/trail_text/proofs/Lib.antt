pub mod Reading
mod Lists
mod Forms
mod Entering
mod Legality
pub mod Openings
mod Following
pub mod Leading
pub mod OneLine
pub mod Right
