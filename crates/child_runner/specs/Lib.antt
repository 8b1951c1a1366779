pub mod Launches
pub mod Reports
pub mod Sending
pub mod Serving
