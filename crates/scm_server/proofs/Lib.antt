mod Lists
mod Entries
mod Chains
mod Named
mod Far
mod Cases
mod Serving
mod Workers
mod Acceptors
mod Callers
pub mod Still
mod Taken
pub mod Exact
