pub mod Calls
pub mod Requests
pub mod Replies
pub mod Raises
