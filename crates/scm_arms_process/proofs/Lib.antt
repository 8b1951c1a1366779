pub mod Triggers
