pub mod Matches
pub mod Calls
pub mod Replies
pub mod Promise
