pub mod Splits
pub mod Reports
pub mod Controls
pub mod Orders
pub mod Kept
pub mod Written
